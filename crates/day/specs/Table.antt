-- The rows of a rule on a day, one for each selected record: which hold a value as their only one, and which offend.
use Rattle.std.specs.Prelude.{Bool, ◌&&◌, ◌||◌, ℕ, eqb}
use Rattle.meaning.specs.Walk.{any}
use Rattle.day.specs.Row.{only, keeps, row_breaks}

module _ (p : ℕ → Bool) (n : ℕ) (rep : ℕ → ℕ) (chosen : ℕ → Bool) (rows : ℕ → ℕ → Bool) where
  -- record u is selected and present, and one only of its row is, represented by y
  unfoldable pub holder : ℕ → ℕ → Bool
  holder y u = chosen u && (p u && only p n (rows u) rep (λ x. eqb x y))

  module _ (mode : ℕ) (old : ℕ → Bool) where
    -- y was seen before record v: in the marks that were there, or where rows are marked, in a lower row
    unfoldable pub seen_below : ℕ → ℕ → Bool
    seen_below v y = old y || (keeps mode && any (holder y) 0 v)

    -- record v is selected and present, and its row offends
    unfoldable pub row_offends : ℕ → ℕ → ℕ → Bool
    row_offends low high v = chosen v && (p v && row_breaks p n rep mode low high (rows v) (seen_below v))
