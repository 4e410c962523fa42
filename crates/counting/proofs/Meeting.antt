-- A look at one version, a law for each way out of the code: the answer, and the classes that are counted then.
use mathlib.Core.Path.{◌≡◌, sym, ◌∙◌, ap}
use mathlib.Core.Bool.{Bool, true, false, ◌||◌, or-false}
use mathlib.Core.List.{List}
use Prim.Native.Nat.{ℕ, ◌<◌}
use lib.Dec.{eqb}
use lib.ListN.{length, get_or, set}
use borrow.Author.Tests.{eq-eqb, ne_eqb}
use Rattle.marks.specs.Marks.{marked}
use Rattle.day.specs.Row.{outside}
use Rattle.day.proofs.Meeting.{set_marked}
use Rattle.counting.specs.Number.{Met, number_in, breaks}
use Rattle.counting.proofs.Weighing.{tokened-again}

module _ (here bad : Bool) (g : ℕ) (done : List ℕ) where
  -- the version is not present
  pub met_absent : here ≡ false → Met here bad g done done false
  met_absent e = record { answers = rw e; marks = λ y. rw e (sym (or-false (marked done y))) }

  module _ (e : here ≡ true) (at : ℕ) (i : at ≡ g) where
    -- its class was counted before
    pub met_counted : get_or done at 0 ≡ 1 → Met here bad g done done false
    met_counted s =
        let c : marked done g ≡ true = rw (sym i) (eq-eqb (get_or done at 0) 1 s) in
        record { answers = rw (e, c); marks = λ y. rw e (tokened-again 1 done g c y) }

    -- it is counted now
    pub met_new : (get_or done at 0 ≡ 1 → ⊥) → at < length done → (answer : Bool) → answer ≡ bad → Met here bad g done (set done at 1) answer
    met_new s room answer q =
        let c : marked done g ≡ false = rw (sym i) (ne_eqb (get_or done at 0) 1 s) in
        record {
          answers = rw (e, c) q;
          marks = λ y. rw e (set_marked done at room y ∙ ap (λ z. marked done y || eqb z y) i);
        }

-- a number outside the bounds is that of an item number that is out of range
pub outside-breaks : (p : ℕ → Bool) (n : ℕ) (rep : ℕ → ℕ) (distinct : Bool) (low high : ℕ) (row : ℕ → Bool) (c : ℕ) → c ≡ number_in p n rep distinct row
    → outside low high c ≡ breaks p n rep distinct low high row
unfolding breaks
outside-breaks p n rep distinct low high row c e = rw e
