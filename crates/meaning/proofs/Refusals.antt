-- The first of some tests that refuses at all, at its lowest place, is what a reading is refused by.
use mathlib.Core.Path.{◌≡◌, ◌∙◌, ap}
use mathlib.Core.Logic.{⊎_elim}
use mathlib.Core.List.{List}
use Prim.Native.Nat.{ℕ, zero, suc}
use native.Mathlib.Nat.{eq-or-lt_of_le}
use native.Mathlib.Omega.{arith}
use Rattle.meaning.specs.Reading.{Reading, Refused}
use Rattle.meaning.specs.Order.{earliest, Test, in_order}
use Rattle.meaning.proofs.Orders.{Lowest, Earliest, here, later, all-earliest}

module _ (k p : ℕ) where
  -- a test refuses with what it says at its lowest offending place
  lowest-refusal : (f : ℕ → Reading) (i n : ℕ) → Lowest f i n k p → earliest f i n ≡ Refused k p
  unfolding earliest
  lowest-refusal f i zero l = absurd (omega arith)
  lowest-refusal f i (suc n) l =
      ⊎_elim
      (λ q. let r : f i ≡ Refused k p = ap f q ∙ l.refused in rw r)
      (λ lt.
      rw (l.before i (omega arith) lt)
      (lowest-refusal f (suc i) n (record { spot = l.spot; from = lt; below = omega arith; refused = l.refused; before = λ j a b. l.before j (omega arith) b })))
      (eq-or-lt_of_le l.from)

  -- the converse of refusal-earliest
  pub earliest-refusal : {ts : List Test} → Earliest k p ts → in_order ts ≡ Refused k p
  unfolding in_order
  earliest-refusal (here t ts l) = rw (lowest-refusal t.at 0 t.places l)
  earliest-refusal (later t ts a e) = rw (all-earliest t.at 0 t.places (λ j l h. a j (omega arith))) (earliest-refusal e)
