-- How many numbers pass a test, and one of them.
use Rattle.std.specs.Prelude.{◌≡◌, Bool, true, ℕ, ◌<◌}
use Rattle.meaning.specs.Walk.{count}

-- of the numbers below n so many pass the test, and where any does, x is one of them
pub record Counts (test : ℕ → Bool) (n many x : ℕ) : Type 0 where
  pub counts : many ≡ count test 0 n
  pub low : 0 < many → x < n
  pub passes : 0 < many → test x ≡ true
