-- Columns of keys for the passes, made of what a rule picks out: the limit is no key.
use Rattle.std.specs.Prelude.{◌≡◌, ◌||◌, cond, List, ℕ, ◌≤◌, ◌<◌, eqb, ltb, length}
use Rattle.meaning.specs.Block.{limit}
use Rattle.marks.specs.Marks.{marked}
use Rattle.passes.specs.Passes.{at}

-- each of n records has its own number
pub record Numbered (n : ℕ) (keys : List ℕ) : Type 0 where
  pub room : n ≤ length keys
  pub key : (x : ℕ) → x < n → at keys x ≡ x

-- each marked one of n records has its class
pub record DemandKeys (n : ℕ) (marks classes keys : List ℕ) : Type 0 where
  pub room : n ≤ length keys
  pub key : (x : ℕ) → x < n → at keys x ≡ cond (marked marks x) (at classes x) limit

-- each of n records that is in a row has the representative of its value
pub record ValueKeys (n : ℕ) (rows reps keys : List ℕ) : Type 0 where
  pub room : n ≤ length keys
  pub key : (x : ℕ) → x < n → at keys x ≡ cond (ltb (at rows x) n) (at reps x) limit

-- each of n records that has a key below n is marked by 2
pub record KeyMarks (n : ℕ) (keys marks : List ℕ) : Type 0 where
  pub room : n ≤ length marks
  pub mark : (x : ℕ) → x < n → eqb (at marks x) 2 ≡ ltb (at keys x) n

-- one order for those that are marked and those that have a key: a marked one begins at lo and has no key, and any other begins at `first`; by 2 those of the order are marked
pub record Parted (n : ℕ) (marks keys lo first supply from kinds : List ℕ) : Type 0 where
  pub in_supply : n ≤ length supply
  pub in_from : n ≤ length from
  pub in_kinds : n ≤ length kinds
  pub key : (x : ℕ) → x < n → at supply x ≡ cond (marked marks x) limit (at keys x)
  pub begins : (x : ℕ) → x < n → at from x ≡ cond (marked marks x) (at lo x) (at first x)
  pub kind : (x : ℕ) → x < n → eqb (at kinds x) 2 ≡ (marked marks x || ltb (at keys x) n)
