-- Records chained one below the other, and the greater of two numbers.
use Rattle.std.specs.Prelude.{◌≡◌, Bool, true, cond, List, ℕ, ◌<◌, ltb, get_or}
use Rattle.columns.specs.Chains.{past_last}

-- the records below n that `member` passes, chained: `past` is one past the last of them, `lower` leads from each to the one before
pub record Chain (member : ℕ → Bool) (n past : ℕ) (lower : List ℕ) : Type 0 where
  pub last_is : past ≡ past_last member n
  pub lower_is : (f : ℕ) → f < n → member f ≡ true → get_or lower f 0 ≡ past_last member f

-- the greater of two numbers
abbrev pub greater : ℕ → ℕ → ℕ
greater a b = cond (ltb a b) b a
