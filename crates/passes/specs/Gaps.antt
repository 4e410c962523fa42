-- The steps of the pass for gaps. By key: reach, the place up to which the demands met are supplied, or the answer tells; need, the latest end of a demand met.
use Rattle.std.specs.Prelude.{◌≡◌, List, ℕ, ◌≤◌, ◌<◌}
use Rattle.passes.specs.Passes.{at}

-- from reach to r: what is passed over lies behind the need and before a
pub record Raised (need reach a r : ℕ) : Type 0 where
  pub passed : (p : ℕ) → reach ≤ p → p < r → (need ≤ p) × (p < a)

-- the answer D once a supply begins at a: the reach, where a demand waits there
pub record Missed (reach need a D r : ℕ) : Type 0 where
  pub sooner : r ≤ D
  pub missed : reach < a → reach < need → r ≤ reach

-- a demand of key k from a up to b was taken, if the key is below room and the demand is ever present
pub record Demanded (k a b room : ℕ) (reach need reach' need' : List ℕ) : Type 0 where
  -- no need falls
  pub kept : (c : ℕ) → at need c ≤ at need' c
  -- the need of its key is its end or later
  pub risen : k < room → a < b → b ≤ at need' k
  -- what the reach of a key passes over lies behind its need and before the demand
  pub passed : (c p : ℕ) → at reach c ≤ p → p < at reach' c → (at need c ≤ p) × (p < a)

-- a supply of key k from a up to b was taken, and the answer went from D to r
pub record Supplied (k a b : ℕ) (reach need : List ℕ) (D : ℕ) (reach' : List ℕ) (r : ℕ) : Type 0 where
  pub sooner : r ≤ D
  -- what the reach of a key passes over lies before the end of the supply, whose key it is
  pub passed : (c p : ℕ) → at reach c ≤ p → p < at reach' c → (c ≡ k) × (p < b)
  -- and the answer tells where it was passed over from, if the supply came too late for a demand
  pub missed : (c p : ℕ) → at reach c ≤ p → p < at reach' c → at reach c < a → at reach c < at need c → r ≤ at reach c

-- r is no later than D, nor than the reach of any key below k that has not come up to its need
pub record Unmet (reach need : List ℕ) (D k r : ℕ) : Type 0 where
  pub no_later : r ≤ D
  pub each : (c : ℕ) → c < k → at reach c < at need c → r ≤ at reach c
