-- Marks: a byte for each number, 1 where it is marked; and the next number that passes a test.
use Rattle.std.specs.Prelude.{◌≡◌, Bool, List, ℕ, ◌-◌, ◌≤◌, ◌<◌, eqb, length, get_or}
use Rattle.meaning.specs.Walk.{first, on_found}

-- number i is marked
abbrev pub marked : List ℕ → ℕ → Bool
marked marks i = eqb (get_or marks i 0) 1

-- of the numbers below n those are marked that pass
pub record Marks (passes : ℕ → Bool) (n : ℕ) (marks : List ℕ) : Type 0 where
  pub room : n ≤ length marks
  pub mark : (i : ℕ) → i < n → marked marks i ≡ passes i

-- the lowest number from i on that passes, or n where none below n does
unfoldable pub after : (ℕ → Bool) → ℕ → ℕ → ℕ
after passes i n = on_found (first passes i (n - i)) (λ v. v) n
