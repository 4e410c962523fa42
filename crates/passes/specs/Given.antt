-- What each pass is given: columns that have a number for each record of the order, the order rising by lo, and scratch arrays with an entry for each key, which are cleared first.
use Rattle.std.specs.Prelude.{◌≡◌, List, ℕ, ◌≤◌, ◌<◌, length}
use Rattle.passes.specs.Passes.{at, Rising, Covers}

-- the pass for the least place
pub record GivenLeast (order key lo hi : List ℕ) : Type 0 where
  pub keys : Covers order key
  pub los : Covers order lo
  pub his : Covers order hi
  pub rising : Rising order lo

-- the pass for clashes
pub record GivenClash (order key owner lo hi : List ℕ) (room : ℕ) (top holder : List ℕ) : Type 0 where
  pub keys : Covers order key
  pub owners : Covers order owner
  pub los : Covers order lo
  pub his : Covers order hi
  pub rising : Rising order lo
  pub tops : room ≤ length top
  pub holders : room ≤ length holder

-- the pass for gaps
pub record GivenGap (order lo demand dhi supply shi : List ℕ) (room : ℕ) (reach need : List ℕ) : Type 0 where
  pub los : Covers order lo
  pub demands : Covers order demand
  pub dhis : Covers order dhi
  pub supplies : Covers order supply
  pub shis : Covers order shi
  pub rising : Rising order lo
  pub reaches : room ≤ length reach
  pub needs : room ≤ length need

-- the first n entries are 0
pub record Cleared (s : List ℕ) (n : ℕ) : Type 0 where
  pub zeros : (c : ℕ) → c < n → at s c ≡ 0
