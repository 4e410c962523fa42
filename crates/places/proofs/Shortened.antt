-- Which places are shortened windows: those from `whole` on; so a shortened one is never followed by one that is not.
use mathlib.Core.Path.{◌≡◌, refl, sym, ◌∙◌}
use mathlib.Core.Logic.{⊎_elim}
use mathlib.Core.Bool.{Bool, true, false}
use Prim.Native.Nat.{ℕ, ◌+◌, ◌*◌, ◌≤◌, ◌<◌}
use native.Mathlib.Omega.{arith}
use lib.Dec.{leb}
use borrow.Author.Tests.{leb-true, le-leb, lt-leb, lt-ltb, le-ltb}
use Rattle.calendar.proofs.Months.{start_in, start_past, month_ascends}
use Rattle.meaning.specs.Window.{shortened}
use Rattle.meaning.proofs.Basics.{le_or_lt}
use Rattle.places.specs.declared.Places.{Places}
use Rattle.places.specs.Placing.{unit_day, calendar_day, end_of, natural_of, window_at, Counted}
use Rattle.places.proofs.Days.{least-left}
use Rattle.places.proofs.Bounds.{ends-by_close}

-- up to the last entry of the month table a unit has the calendar's day
on-table : (monthly : Bool) (u : ℕ) → calendar_day monthly u ≤ 36525 → unit_day monthly u ≡ calendar_day monthly u
on-table false u h = refl
on-table true u h =
    ⊎_elim
    (λ l. start_in u l)
    (λ l. absurd (omega (arith, month_ascends 1200 u l, start_in 1200 (omega arith), start_past 1200 (omega arith))))
    (le_or_lt u 1200)

module _ {at : Places} (c : Counted at) where
  -- a place that ends by the close of itself ends there
  ends-whole : (k : ℕ) → natural_of at k ≤ at.close → end_of at k ≡ natural_of at k
  unfolding end_of natural_of
  ends-whole k h =
      let same = on-table at.monthly (at.first + k * at.slide + at.span) (omega (arith, c.close_most)) in
      least-left _ at.close (omega arith) ∙ same

  -- a place is shortened exactly from `whole` on
  pub shortened-at : (k : ℕ) → k < at.count → shortened (window_at at k) ≡ leb at.whole k
  unfolding shortened
  shortened-at k h =
      ⊎_elim
      (λ l. lt-ltb (end_of at k) (natural_of at k) (omega (arith, ends-by_close at c k, c.shortened k h l)) ∙ sym (le-leb at.whole k l))
      (λ l. le-ltb (end_of at k) (natural_of at k) (omega (arith, ends-whole k (c.ended k l))) ∙ sym (lt-leb at.whole k l))
      (le_or_lt at.whole k)

  -- a shortened window is never followed by one that is not
  pub stays-shortened : (i j : ℕ) → i ≤ j → j < at.count → shortened (window_at at i) ≡ true → shortened (window_at at j) ≡ true
  stays-shortened i j h l e =
      let from : at.whole ≤ i = leb-true at.whole i (sym (shortened-at i (omega arith)) ∙ e) in
      shortened-at j l ∙ le-leb at.whole j (omega arith)
