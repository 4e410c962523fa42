-- Marked records and those that have a key in one order: what is promised along it comes to few records from `first` on, and that to few values.
use mathlib.Core.Path.{◌≡◌, refl, sym, ◌∙◌, ap}
use mathlib.Core.Bool.{Bool, true, false, ◌&&◌, not}
use mathlib.Core.Logic.{⊎_elim}
use mathlib.Core.List.{List}
use Prim.Native.Nat.{ℕ, ◌≤◌, ◌<◌}
use native.Mathlib.Omega.{arith}
use lib.Dec.{eqb, ltb}
use borrow.Author.Tests.{lt-ltb}
use Rattle.meaning.specs.Block.{limit}
use Rattle.meaning.specs.Walk.{any}
use Rattle.meaning.proofs.Basics.{went, both, or_l, or_r, le_or_lt}
use Rattle.meaning.proofs.Says.{says}
use Rattle.meaning.proofs.Walks.{any_none}
use Rattle.marks.specs.Marks.{marked}
use Rattle.passes.specs.Passes.{at, On}
use Rattle.crowds.specs.Crowds.{keyed_at, present, Ordered}
use Rattle.crowds.proofs.Counts.{count-mono}
use Rattle.distinct.specs.Classes.{Pairs}
use Rattle.distinct.specs.Shifts.{CountsOnce}
use Rattle.distinct.specs.Values.{lowest_at, values}
use Rattle.distinct.proofs.Counting.{values-counted}
use Rattle.parts.specs.Ground.{Ground}
use Rattle.parts.specs.Keyed.{Parted}
use Rattle.parts.specs.Parts.{ByFew, ByFewValues, ByFewFirst, Small}
use Rattle.parts.proofs.Tallies.{counted, some, lowest-of}

module _ (n : ℕ) (few : n ≤ limit) (marks keys lo first supply from kinds : List ℕ) (s : Parted n marks keys lo first supply from kinds) where
  -- a marked record has no key, and begins at lo
  marked-begins : (x : ℕ) → x < n → marked marks x ≡ true → at from x ≡ at lo x
  marked-begins x h e = s.begins x h ∙ rw e refl

  -- one that has a key is not marked: it has the same one as before, and begins at `first`
  unmarked : (x : ℕ) → x < n → at supply x < n → marked marks x ≡ false
  unmarked x h l =
      ⊎_elim
      (λ e. let none : at supply x ≡ limit = s.key x h ∙ rw e refl in absurd (omega arith))
      (λ e. e)
      (went (marked marks x))

  own_key : (x : ℕ) → x < n → at supply x < n → at supply x ≡ at keys x
  own_key x h l = s.key x h ∙ rw (unmarked x h l) refl

  own-begin : (x : ℕ) → x < n → at supply x < n → at from x ≡ at first x
  own-begin x h l = s.begins x h ∙ rw (unmarked x h l) refl

  -- both are of the order
  pub marked-kind : (x : ℕ) → x < n → marked marks x ≡ true → eqb (at kinds x) 2 ≡ true
  marked-kind x h e = s.kind x h ∙ or_l (marked marks x) (ltb (at keys x) n) e

  pub keyed-kind : (x : ℕ) → x < n → at supply x < n → eqb (at kinds x) 2 ≡ true
  keyed-kind x h l = s.kind x h ∙ or_r (marked marks x) (ltb (at keys x) n) (lt-ltb (at keys x) n (omega (arith, own_key x h l)))

  -- an order of those that had a key is one of those that have
  pub supply-ordered : (order column : List ℕ) → Ordered order column keys n → Ordered order column supply n
  supply-ordered order column o =
      record {
        covered = o.covered;
        place = o.place;
        all = λ y h l. o.all y h (omega (arith, own_key y h l));
        once = o.once;
        rising = o.rising;
      }

  -- no more are present by their new keys than by the old ones from `first` on
  fewer_here : (hi : List ℕ) (k p : ℕ) → k < n → present supply from hi n k p ≤ present keys first hi n k p
  fewer_here hi k p kn =
      count-mono (keyed_at supply from hi k p) (keyed_at keys first hi k p) 0 n
      (λ y a b t.
      let w = simp says at t in
      let h : y < n = omega arith in
      let l : at supply y < n = omega (arith, w.0) in
      simp says (sym (own_key y h l) ∙ w.0, (omega (arith, w.1.0, own-begin y h l), w.1.1)))

  -- so what is found along the order serves
  pub few-first : (order hi classes : List ℕ) (low D : ℕ) → Small n classes → ((x : ℕ) → x < n → marked marks x ≡ true → On order x) → ByFew order marks classes supply from hi n low D
      → ByFewFirst marks classes keys lo first hi n low D
  unfolding ByFew ByFewFirst
  few-first order hi classes low D small on b x p h mark here less =
      b x p (on x h mark) mark (record { from = omega (arith, here.from, marked-begins x h mark); to = here.to })
      (omega (arith, fewer_here hi (at classes x) p (small.low x h)))

-- few records that count are few values
pub few-values : (order marks classes keys reps lo hi pairs first : List ℕ) (n : ℕ) → n ≤ limit → Ground order lo hi n → Small n classes → Pairs keys reps n pairs
    → CountsOnce pairs lo hi n first → (low D : ℕ) → ByFewFirst marks classes keys lo first hi n low D → ByFewValues order marks classes keys reps lo hi n low D
unfolding ByFewFirst ByFewValues
few-values order marks classes keys reps lo hi pairs first n few ground small pr c low D b x p on mark here less =
    let h : x < n = rw on.found at (ground.covered on.place on.below) in
    b x p h mark here (omega (arith, values-counted keys reps lo hi pairs first n few pr c (at classes x) p (small.low x h)))

-- where a record is present, a value is
some-value : (keys reps lo hi : List ℕ) (n k p : ℕ) → 0 < present keys lo hi n k p → 0 < values keys reps lo hi n k p
some-value keys reps lo hi n k p h =
    let one = some (keyed_at keys lo hi k p) 0 n h in
    let low = lowest-of (keyed_at keys lo hi k p) 0 n one.0 one.1 in
    let j = low.0 in
    let l = low.1 in
    let lower : ℕ → Bool = λ g. eqb (at reps j) (at reps g) && keyed_at keys lo hi k p g in
    let none : any lower 0 j ≡ false = any_none lower 0 j (λ g a b. rw (l.before g a (omega arith)) (none_left (eqb (at reps j) (at reps g)))) in
    counted (lowest_at keys reps lo hi k p) 0 n j
    (record { from = l.from; below = l.below; passes = both (keyed_at keys lo hi k p j) (not (any lower 0 j)) l.passes (ap not none) })
  where
    none_left : (b : Bool) → b && false ≡ false
    none_left true = refl
    none_left false = refl

-- so where one is asked for, few records are few values
pub few-one : (order marks classes keys reps lo hi : List ℕ) (n low D : ℕ) → low ≤ 1 → ByFew order marks classes keys lo hi n low D
    → ByFewValues order marks classes keys reps lo hi n low D
unfolding ByFew ByFewValues
few-one order marks classes keys reps lo hi n low D one b x p on mark here less =
    b x p on mark here
    (⊎_elim
    (λ h. absurd (omega (arith, some-value keys reps lo hi n (at classes x) p h)))
    (λ h. omega arith)
    (le_or_lt 1 (present keys lo hi n (at classes x) p)))
