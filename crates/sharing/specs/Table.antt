-- The rows of a rule in a window, one for each selected record: which hold a value, and which offend.
use Rattle.std.specs.Prelude.{Bool, ◌&&◌, ◌||◌, not, ℕ, eqb}
use Rattle.meaning.specs.Walk.{any}
use Rattle.sharing.specs.Row.{asks, shows, lacking}

module _ (p : ℕ → Bool) (n : ℕ) (rep : ℕ → ℕ) (chosen : ℕ → Bool) (rows : ℕ → ℕ → Bool) where
  -- record u is selected and present, and so is one of its row, represented by y
  unfoldable pub holder : ℕ → ℕ → Bool
  holder y u = chosen u && (p u && shows p n rep (rows u) y)

  -- record u, of another class than v, holds a value of the row of v
  unfoldable pub rival : (ℕ → ℕ) → ℕ → ℕ → Bool
  rival class v u = not (eqb (class u) (class v)) && asks p n rep (rows v) (λ x. holder x u)

  -- record v is selected and present, and its row lacks a value or has one that a lower record of another class holds
  unfoldable pub row_shares : (ℕ → ℕ) → Bool → ℕ → Bool
  row_shares class needy v = chosen v && (p v && (lacking p n rep (rows v) needy || any (rival class v) 0 v))

  -- record v is selected and present, and one of its row, with a value that is not known
  unfoldable pub row_misses : (ℕ → Bool) → ℕ → Bool
  row_misses known v = chosen v && (p v && asks p n rep (rows v) (λ x. not (known x)))
