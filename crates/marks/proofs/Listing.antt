-- The marked numbers as a list: those that pass what the marks stand for.
use mathlib.Core.Path.{◌≡◌, ap, ◌∙◌}
use mathlib.Core.Bool.{Bool}
use mathlib.Core.List.{List}
use Prim.Native.Nat.{ℕ, ◌-◌, ◌≤◌}
use native.Mathlib.Omega.{arith}
use Rattle.meaning.specs.Walk.{pick}
use Rattle.meaning.proofs.Walks.{pick_same}
use Rattle.marks.specs.Marks.{marked, Marks}

-- the marked numbers of a stretch, as a list
pub picked : (passes : ℕ → Bool) (from to n : ℕ) (marks : List ℕ) → Marks passes n marks → to ≤ n → pick (marked marks) from (to - from) ≡ pick passes from (to - from)
picked passes from to n marks s h = pick_same (marked marks) passes from (to - from) (λ k a b. s.mark k (omega arith))

-- all of them
pub picked_all : (passes : ℕ → Bool) (n m : ℕ) (marks : List ℕ) → Marks passes n marks → m ≡ n → pick (marked marks) 0 (m - 0) ≡ pick passes 0 n
picked_all passes n m marks s e = let z : m - 0 ≡ n = omega arith in picked passes 0 m n marks s (omega arith) ∙ ap (pick passes 0) z
