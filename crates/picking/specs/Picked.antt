-- What is picked out of an order: the entries that pass a test, in the same order; and which records a rule reads.
use Rattle.std.specs.Prelude.{◌≡◌, Bool, true, cond, ◌||◌, List, ℕ, zero, suc, ◌<◌, eqb, ltb}
use Rattle.passes.specs.Passes.{at}

-- record x has the mark asked for, or is in a row, or in one of the other rows: a row is a number below n
unfoldable pub is_read : (marks : List ℕ) (asked : ℕ) (rows others : List ℕ) → ℕ → ℕ → Bool
is_read marks asked rows others n x = eqb (at marks x) asked || ltb (at rows x) n || ltb (at others x) n

-- how many of the first i entries of an order pass
unfoldable pub passing : (ℕ → Bool) → List ℕ → ℕ → ℕ
passing test order zero = 0
passing test order (suc i) = let rest = passing test order i in cond (test (at order i)) (suc rest) rest

-- the first k entries of `part` are those of the first i of `order` that pass: each stands behind as many as pass before it
pub record Picked (test : ℕ → Bool) (order : List ℕ) (i : ℕ) (part : List ℕ) (k : ℕ) : Type 0 where
  pub many : k ≡ passing test order i
  pub each : (j : ℕ) → j < i → test (at order j) ≡ true → at part (passing test order j) ≡ at order j
