-- How many values of one key are present at a place, as the meaning counts them: a record counts unless a lower one of its value does.
use Rattle.std.specs.Prelude.{Bool, ◌&&◌, not, List, ℕ, ◌≤◌, ◌<◌, eqb}
use Rattle.meaning.specs.Walk.{any, count}
use Rattle.crowds.specs.Crowds.{at, keyed_at}

-- record y has key k and is present at place p, and no lower record of its value is so too
abbrev pub lowest_at : (keys reps lo hi : List ℕ) → ℕ → ℕ → ℕ → Bool
lowest_at keys reps lo hi k p y = keyed_at keys lo hi k p y && not (any (λ g. eqb (at reps y) (at reps g) && keyed_at keys lo hi k p g) 0 y)

-- how many values the records of key k have that are present at place p, of n records
abbrev pub values : (keys reps lo hi : List ℕ) → ℕ → ℕ → ℕ → ℕ
values keys reps lo hi n k p = count (lowest_at keys reps lo hi k p) 0 n

-- D is no later than any place at which more than `most` values of one key are present
unfoldable pub ByManyValues : (keys reps lo hi : List ℕ) (n most D : ℕ) → Type 0
ByManyValues keys reps lo hi n most D = (k p : ℕ) → k < n → most < values keys reps lo hi n k p → D ≤ p
