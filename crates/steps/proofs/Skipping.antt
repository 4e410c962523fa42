-- The walk along the field versions that can offend: none that it passed over or by offends, and the lists tell which does.
use mathlib.Core.Path.{◌≡◌, sym, ◌∙◌, ap}
use mathlib.Core.Logic.{⊎_elim}
use mathlib.Core.Bool.{Bool, true, false, ◌&&◌}
use mathlib.Core.List.{List}
use Prim.Native.Nat.{ℕ, suc, ◌-◌, ◌≤◌, ◌<◌}
use native.Mathlib.Nat.{eq-or-lt_of_le}
use native.Mathlib.Omega.{arith}
use lib.Dec.{ltb}
use lib.ListN.{length, get_or}
use Rattle.std.specs.Prelude.{Some, None}
use Rattle.meaning.specs.declared.Rule.{Rule}
use Rattle.meaning.specs.Walk.{first, Found}
use Rattle.meaning.specs.Document.{Doc, is_version}
use Rattle.meaning.specs.Rules.{is_sequenced}
use Rattle.meaning.specs.Window.{Window, meets, offends_in}
use Rattle.meaning.proofs.Basics.{le_or_lt, never, tests_same, and_l}
use Rattle.meaning.proofs.Walks.{first-at, first-none, first-same, any-true}
use Rattle.meaning.proofs.Says.{says}
use Rattle.columns.specs.Lent.{Periods}
use Rattle.columns.specs.Judgeable.{Judgeable}
use Rattle.marks.proofs.After.{after_is}
use Rattle.prepare.specs.Holders.{Skips}
use Rattle.prepare.specs.Rows.{in_row}
use Rattle.steps.specs.Reaching.{wrong_after, Reaches, stepped}
use Rattle.prepare.proofs.Valued.{known_only}
use Rattle.steps.proofs.Grouping.{row-version}
use Rattle.steps.proofs.Windowed.{offends-in_lem}

-- the walk has come to f, and by the lists nothing below it offends
pub record Looked (begins ends reach : List ℕ) (from to f : ℕ) : Type 0 where
  pub none : (k : ℕ) → k < f → stepped begins ends reach from to k ≡ false

-- a way along those of n records that have a reach
module _ (begins ends reach : List ℕ) (from to n start : ℕ) (next : List ℕ) (way : Skips (λ f. ltb 0 (get_or reach f 0)) n start next) where
  abbrev chosen : ℕ → Bool
  chosen k = ltb 0 (get_or reach k 0)

  abbrev passes : ℕ → Bool
  passes = stepped begins ends reach from to

  -- they are all that can offend
  unchosen : (k : ℕ) → chosen k ≡ false → passes k ≡ false
  unchosen k e = never (passes k) (λ t. let s = simp says at t in let z = simp says at e in omega (arith, s.1))

  pub looked_start : Looked begins ends reach from to start
  looked_start = record { none = λ k h. unchosen k ((after_is chosen n 0 (omega arith)).before k (omega arith) (omega (arith, way.start_is))) }

  pub looked_end : (f : ℕ) → Looked begins ends reach from to f → n ≤ f → None ≡ first passes 0 n
  looked_end f s h = sym (first-none passes 0 n (λ k _ b. s.none k (omega arith)))

  module _ (f : ℕ) (s : Looked begins ends reach from to f) (h : f < n) where
    pub looked_found : passes f ≡ true → Some f ≡ first passes 0 n
    looked_found t = sym (first-at passes f 0 n (omega arith) (omega arith) t (λ k _ b. s.none k b))

    module _ (after : ℕ) (e : after ≡ get_or next f 0) where
      pub looked_less : n - after < n - f
      looked_less = omega (arith, way.next_is f h, (after_is chosen n (suc f) (omega arith)).from)

      pub looked_next : passes f ≡ false → Looked begins ends reach from to after
      looked_next t =
          let w = after_is chosen n (suc f) (omega arith) in
          let q = e ∙ way.next_is f h in
          record {
            none =
                λ k b.
                ⊎_elim
                (λ (a : k ≤ f). ⊎_elim (λ p. ap passes p ∙ t) (λ (l : k < f). s.none k l) (eq-or-lt_of_le a))
                (λ (l : f < k). unchosen k (w.before k (omega arith) (omega (arith, q))))
                (le_or_lt k f);
          }

-- what the lists tell of a window is what the meaning says
module _ (doc : Doc) (q r : Rule) (w : Window) (begins ends reach : List ℕ) (p : Periods doc begins ends) (s : Reaches doc r reach) (ok : Judgeable doc)
    (flat : is_sequenced r ≡ false) (kind : r.kind ≡ 5) (from to : ℕ) (f-is : w.from ≡ from) (t-is : w.to ≡ to) (low : from ≤ 36524) where
  wrong-version : (f a : ℕ) → wrong_after doc r f a ≡ true → is_version doc f ≡ true
  unfolding wrong_after
  wrong-version f a e = let k = any-true _ 0 doc.size e in row-version doc r k.0 f (and_l (in_row doc r k.0 f) _ k.1.passes)

  told : (f : ℕ) → f < doc.size → stepped begins ends reach from to f ≡ offends_in doc (meets doc w) w q r f
  unfolding meets
  told f h =
      rw (p.begin.at f, p.end.at f, s.above f from h low, offends-in_lem doc r ok (known_only doc r flat (omega arith)) w q f kind, f-is, t-is)
      (turn (is_version doc f) (ltb (doc.begin f) to) (ltb from (doc.end f)) (wrong_after doc r f from) (wrong-version f from))
    where
      turn : (v b e x : Bool) → (x ≡ true → v ≡ true) → (b && e) && x ≡ (x && ((v && b) && e))
      turn v b e x all =
          tests_same ((b && e) && x) (x && ((v && b) && e))
          (λ t. let s = simp says at t in simp says (s.1, ((all s.1, s.0.0), s.0.1)))
          (λ t. let s = simp says at t in simp says ((s.1.0.1, s.1.1), s.0))

  pub found_in : (x : Found) → x ≡ first (stepped begins ends reach from to) 0 (length begins) → x ≡ first (offends_in doc (meets doc w) w q r) 0 doc.size
  found_in x e = e ∙ ap (first _ 0) p.begin.size ∙ first-same _ _ 0 doc.size (λ f _ l. told f (omega arith))
