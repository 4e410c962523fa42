-- Of the nils in rows, by their begins, the first that has a place has the soonest.
use mathlib.Core.Path.{◌≡◌, refl, sym, ap, ◌∙◌}
use mathlib.Core.Logic.{⊎_elim}
use mathlib.Core.Bool.{Bool, true, false, ◌&&◌, ◌||◌, not}
use mathlib.Core.List.{List}
use Prim.Native.Nat.{ℕ, ◌+◌, ◌≤◌, ◌<◌}
use native.Mathlib.Omega.{arith}
use borrow.Author.Count.{below_more}
use borrow.Author.Tests.{eqb-true, eq-eqb, lt-ltb}
use lib.IntN.{ℤ}
use lib.Dec.{eqb, ltb}
use lib.ListN.{length, get_or}
use Rattle.meaning.specs.declared.Rule.{Rule}
use Rattle.meaning.specs.Document.{Doc, is_version}
use Rattle.meaning.specs.Rules.{is_key, is_reference}
use Rattle.meaning.specs.Select.{is_nil, present, gives, has_nil}
use Rattle.meaning.specs.Window.{meets}
use Rattle.meaning.proofs.Basics.{le_or_lt, clear, never, and_r, both, or_cases}
use Rattle.meaning.proofs.Walks.{any-true}
use Rattle.meaning.proofs.Says.{says}
use Rattle.meaning.proofs.Selects.{version-here}
use Rattle.prepare.specs.Rows.{in_row}
use Rattle.prepare.specs.Spoiling.{spoils}
use Rattle.prepare.proofs.Valued.{low-wants}
use Rattle.places.specs.declared.Places.{Places}
use Rattle.places.specs.Placing.{end_of, window_at, Low, High}
use Rattle.places.proofs.Presence.{meets-there}
use Rattle.soonest.specs.Soon.{Unspoilt}
use Rattle.soonest.specs.Given.{Given}
use Rattle.soonest.specs.Nils.{Nilled}
use Rattle.soonest.proofs.Sweeping.{row_is, row-held, row-version}

-- a rule that is neither key nor reference takes nils
pub unspoilt_else : (doc : Doc) (r : Rule) (places : Places) (D : ℕ) → (eqb r.kind 1 || eqb r.kind 3) ≡ false → Unspoilt doc r places D
unfolding Unspoilt spoils
unspoilt_else doc r places D e k v h l = rw e

-- no version is spoilt below a sooner place either
pub unspoilt_sooner : (doc : Doc) (r : Rule) (places : Places) (D E : ℕ) → E ≤ D → Unspoilt doc r places D → Unspoilt doc r places E
unfolding Unspoilt
unspoilt_sooner doc r places D E h clean k v less sooner = clean k v less (omega arith)

-- what the finder is given has what the nils are found from
pub nilled : {doc : Doc} {q r : Rule} {places : Places} {vkinds : List ℕ} {values : List ℤ} {begins ends reps groups opens closes chosen rows others : List ℕ}
    → Given doc q r places vkinds values begins ends reps groups opens closes chosen rows others → Nilled doc r places vkinds rows begins ends opens
nilled g = record { vkind = g.vkind; rows_are = g.rows_are; periods = g.periods; opened = g.opened; counted = g.counted }

-- the others are of the first three kinds
pub nil_kind : (k : ℕ) → not (eqb k 1 || eqb k 3) ≡ false → k ≤ 3
nil_kind k e =
    ⊎_elim (λ t. let q = eqb-true k 1 t in omega arith) (λ t. let q = eqb-true k 3 t in omega arith) (or_cases (eqb k 1) (eqb k 3) (passed (eqb k 1 || eqb k 3) e))
  where
    passed : (t : Bool) → not t ≡ false → t ≡ true
    passed true e = refl
    passed false e = sym e

-- record f has an entry in each of four columns
pub record Entered (vkinds rows begins ends : List ℕ) (f : ℕ) : Type 0 where
  pub kind : f < length vkinds
  pub row : length vkinds ≤ length rows
  pub begin : f < length begins
  pub end : f < length ends

module _ (doc : Doc) (r : Rule) (places : Places) (vkinds rows begins ends opens : List ℕ) (s : Nilled doc r places vkinds rows begins ends opens) where
  -- f, a nil in a row, is present at place k
  pub record NilAt (k f : ℕ) : Type 0 where
    pub nil : get_or vkinds f 0 ≡ 3
    pub row : get_or rows f 0 < length vkinds
    pub version : is_version doc f ≡ true
    pub here : meets doc (window_at places k) f ≡ true

  -- a version of the order has an entry in each column
  pub nil_here : (i f : ℕ) → f ≡ get_or opens i 0 → i < length opens → Entered vkinds rows begins ends f
  nil_here i f is h =
      let here : get_or opens i 0 < doc.size = version-here doc (get_or opens i 0) (s.opened.once i h).0 in
      record {
        kind = omega (arith, s.vkind.size);
        row = omega (arith, s.vkind.size, s.rows_are.room);
        begin = omega (arith, s.periods.begin.size);
        end = omega (arith, s.periods.end.size);
      }

  -- a version that a nil spoils has such a one
  spoilt_nil : (kind : r.kind ≤ 3) (k v : ℕ) → spoils doc (meets doc (window_at places k)) r v ≡ true → (f : ℕ) × NilAt k f
  unfolding spoils has_nil present gives in_row is_nil
  spoilt_nil kind k v e =
      let t = simp says at (and_r (is_key r || is_reference r) _ e) in
      let p = meets doc (window_at places k) in
      let some = any-true _ 0 doc.size t.1 in
      let f = some.0 in
      let g = simp says at some.1.passes in
      let in-row : in_row doc r v f ≡ true = simp says ((t.0.0, g.0.0.0), low-wants doc r f kind ∙ g.0.1) in (
        f,
        record {
          nil = s.vkind.at f ∙ g.1;
          row = omega (arith, row_is doc r rows s.rows_are v f in-row, row-held doc r v f in-row, s.vkind.size);
          version = row-version doc r v f in-row;
          here = g.0.0.1;
        },
      )

  -- of the first i versions none is a nil in a row with a place
  pub record Passed (i : ℕ) : Type 0 where
    pub none : (j : ℕ) → j < i → (k : ℕ) → k < places.count → NilAt k (get_or opens j 0) → ⊥

  pub passed_none : Passed 0
  passed_none = record { none = λ j h. absurd (omega arith) }

  -- one more
  more : (i : ℕ) → Passed i → ((k : ℕ) → k < places.count → NilAt k (get_or opens i 0) → ⊥) → Passed (i + 1)
  more i p one = record { none = below_more (λ j. (k : ℕ) → k < places.count → NilAt k (get_or opens j 0) → ⊥) i p.none one }

  module _ (i f : ℕ) (p : Passed i) (is : f ≡ get_or opens i 0) where
    -- one that is no nil in a row
    pub passed-other : {t : Bool} → t ≡ (eqb (get_or vkinds f 0) 3 && ltb (get_or rows f 0) (length vkinds)) → t ≡ false → Passed (i + 1)
    passed-other told missed =
        more i p (λ k h n.
        let same : get_or opens i 0 ≡ f = sym is in
        let m : NilAt k f = rw same at n in
        clear (both (eqb (get_or vkinds f 0) 3) (ltb (get_or rows f 0) (length vkinds)) (eq-eqb (get_or vkinds f 0) 3 m.nil) (lt-ltb (get_or rows f 0) (length vkinds) m.row)) (sym told ∙ missed))

    rising : (j : ℕ) → i ≤ j → j < length opens → get_or begins (get_or opens i 0) 0 ≤ get_or begins (get_or opens j 0) 0
    rising j m h = ⊎_elim (λ (e : j ≤ i). let q : i ≡ j = omega arith in rw q (omega arith)) (λ (e : i < j). s.opened.rising i j e h) (le_or_lt j i)

    -- one without a place
    module _ (l h : ℕ) (low : Low places (get_or begins f 0) l) (high : High places (get_or ends f 0) h) where
      pub passed-unplaced : (l < h → ⊥) → Passed (i + 1)
      passed-unplaced unplaced =
          more i p (λ k less n.
          let same : get_or opens i 0 ≡ f = sym is in
          let m : NilAt k f = rw same at n in
          let w = meets-there doc f m.version (rw (s.periods.begin.at f) at low) (rw (s.periods.end.at f) at high) k less m.here in
          unplaced (omega arith))

      -- one with a place: no later one is present sooner
      pub passed-placed : r.kind ≤ 3 → i < length opens → Unspoilt doc r places l
      unfolding Unspoilt meets
      passed-placed kind here k v less sooner =
          never _ (λ e.
          let n = spoilt_nil kind k v e in
          let g = n.0 in
          let a = s.opened.all g n.1.version in
          let j = s.opened.place g in
          let same : g ≡ get_or opens j 0 = sym a.1 in
          let begins-by : doc.begin g < end_of places k = (simp says at n.1.here).0.1 in
          let ended : end_of places k ≤ get_or begins f 0 = low.before k sooner in
          ⊎_elim
          (λ (m : i ≤ j).
          let later : get_or begins (get_or opens i 0) 0 ≤ get_or begins (get_or opens j 0) 0 = rising j m a.0 in
          omega (arith, later, ap (λ x. get_or begins x 0) (sym is), ap (λ x. get_or begins x 0) a.1, s.periods.begin.at g))
          (λ (m : j < i). p.none j m k less (rw same at n.1))
          (le_or_lt i j))

  -- none is left
  pub passed-all : (i : ℕ) → Passed i → length opens ≤ i → (D : ℕ) → r.kind ≤ 3 → Unspoilt doc r places D
  unfolding Unspoilt
  passed-all i p all D kind k v less sooner =
      never _ (λ e.
      let n = spoilt_nil kind k v e in
      let f = n.0 in
      let a = s.opened.all f n.1.version in
      let same : f ≡ get_or opens (s.opened.place f) 0 = sym a.1 in
      p.none (s.opened.place f) (omega (arith, a.0)) k less (rw same at n.1))
