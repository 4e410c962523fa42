-- How the descent goes: to the current version of an item and into it, and along the items in a version; a law for each way out of the code.
use mathlib.Core.Path.{◌≡◌, refl, sym, ◌∙◌, ap}
use mathlib.Core.Logic.{⊎_elim}
use mathlib.Core.Bool.{Bool, true, false, ◌&&◌, ◌||◌, or-false, or_assoc, or_comm}
use mathlib.Core.List.{List}
use Prim.Native.Nat.{ℕ, zero, suc, ◌-◌, ◌≤◌, ◌<◌}
use native.Mathlib.Omega.{arith}
use lib.Dec.{eqb}
use lib.ListN.{length, get_or, set, replicate, length-replicate, get_or-replicate, get_or-eq_default}
use lib.Seq.{get_or-set_same, get_or-set_other}
use borrow.Author.Tests.{eqb-true, eqb-false, eq-eqb, ne_eqb}
use Rattle.meaning.specs.Block.{limit}
use Rattle.meaning.specs.Walk.{any, pick}
use Rattle.meaning.specs.Document.{Doc}
use Rattle.meaning.specs.Day.{present_on, slice}
use Rattle.meaning.specs.Nodes.{deepest}
use Rattle.meaning.proofs.Basics.{went, clear, never, tests_same, and_l, or_r, le_or_lt}
use Rattle.meaning.proofs.Walks.{any_false}
use Rattle.meaning.proofs.Loops.{any_last}
use Rattle.columns.specs.Chains.{past_last, Chained}
use Rattle.columns.specs.Lent.{Lends, Periods}
use Rattle.columns.specs.Judgeable.{Judgeable}
use Rattle.columns.proofs.Along.{past-low, Along, along_start, along_end}
use Rattle.marks.specs.Marks.{marked, Marks}
use Rattle.marks.proofs.Listing.{picked_all}
use Rattle.descent.specs.Descent.{current_of, item_in, comes, Single, Linked}
use Rattle.descent.proofs.Linking.{linked}
use Rattle.descent.proofs.Coming.{below, at-or_below, comes-by, came, comes-present}

-- one mark more
set_marked : (marks : List ℕ) (v : ℕ) → v < length marks → (w : ℕ) → marked (set marks v 1) w ≡ (marked marks w || eqb v w)
set_marked marks v h w =
    ⊎_elim
    (λ y. let e : v ≡ w = eqb-true v w y in rw (sym e, get_or-set_same marks v 1 0 h) (sym (or_r (marked marks v) (eqb v v) (eq-eqb v v refl))))
    (λ z. rw (get_or-set_other marks v w 1 0 (λ q. eqb-false v w z (sym q)), z) (sym (or-false (marked marks w))))
    (went (eqb v w))

-- an item with one current version comes to it, and to what is come to from there
module _ {doc : Doc} (s : Single doc) (d i : ℕ) where
  comes-one : (n v w : ℕ) → v < doc.size → current_of doc d i v ≡ true → comes doc d (suc n) i w ≡ at-or_below doc d n v w
  comes-one n v w h c =
      tests_same (comes doc d (suc n) i w) (at-or_below doc d n v w)
      (λ e. let b = came doc d n i w e in ap (λ u. at-or_below doc d n u w) (s.one d i v b.version c b.current) ∙ b.rest)
      (λ e. comes-by doc d n i v w h c e)

  -- an item with none comes to nothing
  comes-none : any (current_of doc d i) 0 doc.size ≡ false → (n w : ℕ) → comes doc d n i w ≡ false
  unfolding comes
  comes-none e zero w = refl
  comes-none e (suc n) w =
      never (comes doc d (suc n) i w)
      (λ t. let b = came doc d n i w t in clear b.current (any_false (current_of doc d i) 0 doc.size e b.version (omega arith) (omega (arith, b.here))))

-- `past` is one past the current version of item i, or 0
module _ {doc : Doc} {vl vw il iw begins ends : List ℕ} (l : Linked doc vl vw il iw begins ends) (d i past : ℕ) (e : past ≡ past_last (current_of doc d i) doc.size) where
  found : Along (current_of doc d i) (current_of doc d i) doc.size past
  found = rw e (along_start (current_of doc d i) (current_of doc d i) (λ v y. y) doc.size)

  pub past-few : past ≤ limit
  past-few = omega (arith, found.low, l.judgeable.few)

  nothing : past ≡ 0 → (n w : ℕ) → comes doc d n i w ≡ false
  nothing z n w =
      let none = along_end (current_of doc d i) (current_of doc d i) (λ v y. y) doc.size past found (omega arith) in
      comes-none l.single d i (sym none) n w

-- looking at item i: nothing is left of the levels; it has no current version; or it has one
module _ {doc : Doc} {vl vw il iw begins ends : List ℕ} (l : Linked doc vl vw il iw begins ends) (d levels i : ℕ) (seen : List ℕ) (w : ℕ) where
  pub look_none : levels ≡ 0 → marked seen w ≡ (marked seen w || comes doc d levels i w)
  unfolding comes
  look_none e = rw e (sym (or-false (marked seen w)))

  module _ (past : ℕ) (e : past ≡ past_last (current_of doc d i) doc.size) where
    pub look_lost : past ≡ 0 → marked seen w ≡ (marked seen w || comes doc d levels i w)
    look_lost z = rw (nothing l d i past e z levels w) (sym (or-false (marked seen w)))

    pub look_found : (past ≡ 0 → ⊥) → (levels ≡ 0 → ⊥) → limit ≤ length seen → (after : Bool)
        → after ≡ (marked (set seen (past - 1) 1) w || below doc d (levels - 1) (past - 1) w) → after ≡ (marked seen w || comes doc d levels i w)
    look_found some deep room after q =
        let v = past - 1 in
        let n = levels - 1 in
        let at = found l d i past e in
        let h : v < doc.size = omega (arith, at.low) in
        let more : levels ≡ suc n = omega arith in
        let one = comes-one l.single d i n v w h (at.member (omega arith)) in
        q ∙ ap (λ b. b || below doc d n v w) (set_marked seen v (omega (arith, l.judgeable.few)) w)
        ∙ or_assoc (marked seen w) (eqb v w) (below doc d n v w)
        ∙ ap (λ b. marked seen w || b) (sym (ap (λ m. comes doc d m i w) more ∙ one))

-- looking at version v: item j stands in it, and w is come to from there
abbrev pub from-item : Doc → ℕ → ℕ → ℕ → ℕ → ℕ → Bool
from-item doc d n v w j = item_in doc v j && comes doc d n j w

-- a walk along the items in v has come to `at`; what is marked, and what is come to from the items that are left, is what is to be marked
pub record Walked (doc : Doc) (d n v : ℕ) (before seen : List ℕ) (at : ℕ) : Type 0 where
  pub low : at ≤ doc.size
  pub member : 0 < at → item_in doc v (at - 1) ≡ true
  pub rest : (w : ℕ) → (marked seen w || any (from-item doc d n v w) 0 at) ≡ (marked before w || any (from-item doc d n v w) 0 doc.size)

last_first : (a c r : Bool) → ((a || c) || r) ≡ (a || (r || c))
last_first true c r = refl
last_first false c r = or_comm c r

module _ {doc : Doc} {vl vw il iw begins ends : List ℕ} (l : Linked doc vl vw il iw begins ends) (d n v : ℕ) (small : v < limit) where
  -- the chain of the items in v passes over none from which w is come to
  along : (w t : ℕ) → Along (item_in doc v) (from-item doc d n v w) t (past_last (item_in doc v) t)
  along w t = along_start (item_in doc v) (from-item doc d n v w) (λ j e. and_l (item_in doc v j) (comes doc d n j w) e) t

  pub walked_start : (seen : List ℕ) (at : ℕ) → at ≡ get_or il v 0 → Walked doc d n v seen seen at
  walked_start seen at e =
      let q = e ∙ l.item_ends v small in
      rw q (record { low = (along 0 doc.size).low; member = (along 0 doc.size).member; rest = λ w. ap (λ b. marked seen w || b) (along w doc.size).rest })

  module _ (before seen : List ℕ) (at : ℕ) (s : Walked doc d n v before seen at) where
    pub walked_end : at ≤ 0 → (w : ℕ) → marked seen w ≡ (marked before w || any (from-item doc d n v w) 0 doc.size)
    unfolding any
    walked_end h w = let e : at ≡ 0 = omega arith in sym (or-false (marked seen w)) ∙ (rw e at (s.rest w))

    module _ (h : 0 < at) (next : ℕ) (e : next ≡ get_or iw (at - 1) 0) where
      next_past : next ≡ past_last (item_in doc v) (at - 1)
      next_past = e ∙ l.item_steps v (at - 1) small (omega (arith, s.low)) (s.member h)

      pub walked_less : next < at
      walked_less = omega (arith, next_past, past-low (item_in doc v) (at - 1))

      -- the item below `at` is the last of those that were left
      top : (w : ℕ) → any (from-item doc d n v w) 0 at ≡ (any (from-item doc d n v w) 0 (at - 1) || comes doc d n (at - 1) w)
      top w =
          let q : at ≡ suc (at - 1) = omega arith in
          let f = from-item doc d n v w in
          let own : f (at - 1) ≡ comes doc d n (at - 1) w = rw (s.member h) in
          ap (any f 0) q ∙ any_last f (at - 1) ∙ ap (λ b. any f 0 (at - 1) || b) own

      pub walked_next : (after : List ℕ) → ((w : ℕ) → marked after w ≡ (marked seen w || comes doc d n (at - 1) w)) → Walked doc d n v before after next
      walked_next after m =
          let a = along 0 (at - 1) in
          record {
            low = omega (arith, walked_less, s.low);
            member = rw next_past a.member;
            rest = λ w.
                let f = from-item doc d n v w in
                rw (m w, next_past, (along w (at - 1)).rest)
                (last_first (marked seen w) (comes doc d n (at - 1) w) (any f 0 (at - 1)) ∙ ap (λ b. marked seen w || b) (sym (top w)) ∙ s.rest w);
          }

-- what a fresh array holds after a look at the root: marks on what is present
cleared : (n w : ℕ) → ◌≡◌ {A = ℕ} (get_or (replicate n 0) w 0) 0
cleared n w =
    ⊎_elim
    (λ past. get_or-eq_default (replicate {A = ℕ} n 0) 0 (omega (arith, length-replicate {A = ℕ} n 0)))
    (λ h. get_or-replicate {A = ℕ} n w 0 0 h)
    (le_or_lt n w)

unmarked : (n w : ℕ) → marked (replicate n 0) w ≡ false
unmarked n w = ne_eqb (get_or (replicate n 0) w 0) 1 (λ e. omega (arith, cleared n w))

pub marks-present : {doc : Doc} {vl vw il iw begins ends : List ℕ} → Linked doc vl vw il iw begins ends → (d : ℕ) (seen : List ℕ) → length seen ≡ limit
    → ((w : ℕ) → marked seen w ≡ (marked (replicate limit 0) w || comes doc d deepest 0 w)) → Marks (present_on doc d) doc.size seen
marks-present {doc} l d seen same m =
    record {
      room = omega (arith, l.judgeable.few);
      mark = λ w h. m w ∙ ap (λ b. b || comes doc d deepest 0 w) (unmarked limit w) ∙ comes-present doc l.judgeable d w;
    }

-- the versions present, found along chains that the columns give and listed, are the slice
module _ {kinds parents vl vw il iw begins ends seen : List ℕ} (versions : Chained limit kinds parents 2 (length kinds) vl vw)
    (items : Chained limit kinds parents 1 (length kinds) il iw) (d : ℕ)
    (found : (doc : Doc) → Linked doc vl vw il iw begins ends → Marks (present_on doc d) doc.size seen) where
  pub listed-slice : (doc : Doc) → Lends doc.size doc.kind 0 kinds → Lends doc.size doc.parent 0 parents → Periods doc begins ends
      → Judgeable doc → Single doc → pick (marked seen) 0 (length kinds - 0) ≡ slice doc d
  unfolding slice
  listed-slice doc k p w g s = picked_all (present_on doc d) doc.size (length kinds) seen (found doc (linked k p w g s versions items)) k.size
