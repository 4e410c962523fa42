-- A walk down the chain of a row leaves a number at the representative of each one that is present.
use mathlib.Core.Path.{◌≡◌, refl, sym, ◌∙◌, ap}
use mathlib.Core.Logic.{⊎_elim}
use mathlib.Core.Bool.{Bool, true, false, ◌&&◌, ◌||◌, cond, or-false}
use mathlib.Core.List.{List}
use Prim.Native.Nat.{ℕ, ◌-◌, ◌≤◌, ◌<◌}
use lib.Dec.{eqb}
use lib.ListN.{length, get_or, set, length-set}
use lib.Seq.{get_or-set_same, get_or-set_other}
use borrow.Author.Tests.{eqb-true, eqb-false, eq-eqb}
use Rattle.meaning.proofs.Basics.{went}
use Rattle.day.specs.Row.{Chain}
use Rattle.sharing.specs.Row.{asks, shows, Laid}
use Rattle.sharing.proofs.Descent.{Steps, none_left, all_left}

-- one entry more
put : (column : List ℕ) (x y : ℕ) → y < length column → (b : Bool) (z : ℕ) → cond b x (get_or (set column y x) z 0) ≡ cond (b || eqb y z) x (get_or column z 0)
put column x y h b z =
    ⊎_elim
    (λ i. let e : y ≡ z = eqb-true y z i in
    rw (sym e, get_or-set_same column y x 0 h, eq-eqb y y refl) (there b))
    (λ i. rw (get_or-set_other column y z x 0 (λ q. eqb-false y z i (sym q)), i, or-false b))
    (went (eqb y z))
  where
    there : (b : Bool) → cond b x x ≡ cond (b || true) x (get_or column y 0)
    there true = refl
    there false = refl

module _ (p : ℕ → Bool) (n : ℕ) (rep : ℕ → ℕ) (x past : ℕ) (lower before : List ℕ) where
  -- for every row that the chain holds, x stands where one above `at` is represented, and is still to be left for those below
  pub record Layed (at : ℕ) (column : List ℕ) : Type 0 where
    pub size : length column ≡ length before
    pub kept : (row : ℕ → Bool) → Chain row n past lower → (y : ℕ) → cond (shows p at rep row y) x (get_or column y 0) ≡ cond (shows p n rep row y) x (get_or before y 0)

  pub layed_start : Layed past before
  unfolding shows asks
  layed_start =
      record {
        size = refl;
        kept = λ row ch y. ap (λ b. cond b x (get_or before y 0)) (all_left n past lower row ch (λ f. p f && eqb (rep f) y));
      }

  pub layed_end : (at : ℕ) (column : List ℕ) → Layed at column → at ≤ 0 → (row : ℕ → Bool) → Chain row n past lower → Laid p n rep row x before column
  unfolding Laid shows asks
  layed_end at column s h row ch y = rw (none_left row (λ f. p f && eqb (rep f) y) at h) at (s.kept row ch y)

  module _ (at : ℕ) (column : List ℕ) (s : Layed at column) (next : ℕ) (down : Steps n past lower at next) where
    -- what the step left, with the record below `at` apart
    layed_by : (column' : List ℕ) → length column' ≡ length column
        → ((b : Bool) (y : ℕ) → cond b x (get_or column' y 0) ≡ cond (b || (p (at - 1) && eqb (rep (at - 1)) y)) x (get_or column y 0)) → Layed next column'
    unfolding shows asks
    layed_by column' l left =
        record {
          size = l ∙ s.size;
          kept = λ row ch y. left (shows p next rep row y) y ∙ ap (λ b. cond b x (get_or column y 0)) (sym (down row ch (λ f. p f && eqb (rep f) y))) ∙ s.kept row ch y;
        }

    -- the record below `at` is not present
    pub layed_skip : p (at - 1) ≡ false → (column' : List ℕ) → column' ≡ column → Layed next column'
    layed_skip z column' e = layed_by column' (ap length e) (λ b y. rw (e, z, or-false b))

    -- it is, and x was left at its representative
    pub layed_set : p (at - 1) ≡ true → (k : ℕ) → k ≡ rep (at - 1) → k < length column → (column' : List ℕ) → column' ≡ set column k x → Layed next column'
    layed_set y k i room column' e =
        layed_by column' (ap length e ∙ simp length-set) (λ b z. rw (e, y, sym i) (put column x k room b z))
