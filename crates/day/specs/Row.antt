-- One row on a day: how many of its records are present, what is asked of the only one, when it offends, and what it leaves marked.
use Rattle.std.specs.Prelude.{◌≡◌, Bool, true, false, ◌&&◌, ◌||◌, not, cond, List, ℕ, ◌≤◌, ◌<◌, ltb, eqb, length, get_or}
use Rattle.meaning.specs.Walk.{any, count}
use Rattle.columns.specs.Chains.{past_last}
use Rattle.marks.specs.Marks.{marked}
use Rattle.day.specs.Ready.{counted, referring}

-- the records below n that `row` passes, chained: `past` is one past the last of them, `lower` leads from each to the one before
pub record Chain (row : ℕ → Bool) (n past : ℕ) (lower : List ℕ) : Type 0 where
  pub last_is : past ≡ past_last row n
  pub lower_is : (f : ℕ) → f < n → row f ≡ true → get_or lower f 0 ≡ past_last row f

-- n entries or more in each list, and representatives that are record numbers
pub record Fits (n : ℕ) (last lower ends reps marks : List ℕ) : Type 0 where
  pub last_room : n ≤ length last
  pub lower_room : n ≤ length lower
  pub end_room : n ≤ length ends
  pub rep_room : n ≤ length reps
  pub mark_room : n ≤ length marks
  pub rep_low : (f : ℕ) → f < n → get_or reps f 0 < n

-- a row of n records, those that p passes being present
module _ (p : ℕ → Bool) (n : ℕ) (row : ℕ → Bool) where
  -- how many are present
  unfoldable pub number : ℕ
  number = count (λ f. row f && p f) 0 n

  -- one only is present, and its representative passes
  unfoldable pub only : (ℕ → ℕ) → (ℕ → Bool) → Bool
  only rep test = eqb number 1 && any (λ f. row f && p f && test (rep f)) 0 n

-- what a walk down a row found: how many are present, and where one only is, its representative
pub record Tallied (p : ℕ → Bool) (n : ℕ) (row : ℕ → Bool) (rep : ℕ → ℕ) (c x : ℕ) : Type 0 where
  pub counts : c ≡ number p n row
  pub stands : c ≡ 1 → (test : ℕ → Bool) → any (λ f. row f && p f && test (rep f)) 0 n ≡ test x

-- a number outside low..high
abbrev pub outside : ℕ → ℕ → ℕ → Bool
outside low high c = ltb c low || ltb high c

-- by the mode, an only value that was seen, or was not, is wrong
unfoldable pub wrong : ℕ → Bool → Bool
wrong mode seen = cond (eqb mode counted) false (cond (eqb mode referring) (not seen) seen)

-- by the mode, an only value is marked
unfoldable pub keeps : ℕ → Bool
keeps mode = not (eqb mode counted) && not (eqb mode referring)

module _ (p : ℕ → Bool) (n : ℕ) (rep : ℕ → ℕ) (mode low high : ℕ) where
  -- a row offends: by its number, or by its only value
  unfoldable pub row_breaks : (ℕ → Bool) → (ℕ → Bool) → Bool
  row_breaks row seen = outside low high (number p n row) || only p n row rep (λ x. wrong mode (seen x))

  -- a row leaves y marked
  unfoldable pub row_keeps : (ℕ → Bool) → ℕ → Bool
  row_keeps row y = keeps mode && (not (outside low high (number p n row)) && only p n row rep (λ x. eqb x y))

  -- what was done with the row of record v: the answer, and the marks
  pub record Met (row : ℕ → Bool) (v : ℕ) (before after : List ℕ) (answer : Bool) : Type 0 where
    pub answers : answer ≡ (p v && row_breaks row (marked before))
    pub marks : (y : ℕ) → marked after y ≡ (marked before y || (p v && row_keeps row y))
