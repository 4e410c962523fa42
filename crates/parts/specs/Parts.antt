-- What the finder promises of each part of an offence: over an order of n records, their places and columns of numbers, no document and no rule.
use Rattle.std.specs.Prelude.{◌≡◌, true, List, ℕ, ◌≤◌, ◌<◌, length}
use Rattle.marks.specs.Marks.{marked}
use Rattle.passes.specs.Passes.{at, On, Present}
use Rattle.crowds.specs.Crowds.{present}
use Rattle.distinct.specs.Values.{values}

-- D is no later than any place at which two records of one row are present
unfoldable pub ByTwice : (order rows lo hi : List ℕ) (n D : ℕ) → Type 0
ByTwice order rows lo hi n D =
    (x y p : ℕ) → On order x → On order y → at rows x < n → at rows x ≡ at rows y → (x ≡ y → ⊥) → Present lo hi x p → Present lo hi y p → D ≤ p

-- D is no later than any place at which two records in rows, of one representative and of different owners, are present
unfoldable pub ByShared : (order rows reps owners lo hi : List ℕ) (n D : ℕ) → Type 0
ByShared order rows reps owners lo hi n D =
    (x y p : ℕ) → On order x → On order y → at rows x < n → at rows y < n → at reps x ≡ at reps y → (at owners x ≡ at owners y → ⊥)
    → Present lo hi x p → Present lo hi y p → D ≤ p

-- D is no later than any place at which a record in a row is present, and no record in one of the other rows that has its representative is
unfoldable pub ByUnheld : (order rows others reps lo hi : List ℕ) (n D : ℕ) → Type 0
ByUnheld order rows others reps lo hi n D =
    (x p : ℕ) → On order x → at rows x < n → Present lo hi x p
    → ((y : ℕ) → On order y → at others y < n → at reps y ≡ at reps x → Present lo hi y p → ⊥) → D ≤ p

-- D is no later than any place at which a marked record is present, and fewer than `low` records whose key is its class are
unfoldable pub ByFew : (order marks classes keys lo hi : List ℕ) (n low D : ℕ) → Type 0
ByFew order marks classes keys lo hi n low D =
    (x p : ℕ) → On order x → marked marks x ≡ true → Present lo hi x p → present keys lo hi n (at classes x) p < low → D ≤ p

-- the same of values: D is no later than any place at which a marked record is present, and fewer than `low` values of the records whose key is its class are
unfoldable pub ByFewValues : (order marks classes keys reps lo hi : List ℕ) (n low D : ℕ) → Type 0
ByFewValues order marks classes keys reps lo hi n low D =
    (x p : ℕ) → On order x → marked marks x ≡ true → Present lo hi x p → values keys reps lo hi n (at classes x) p < low → D ≤ p

-- D is no later than any place at which a marked one of n records is present, from lo on, and fewer than `low` records whose key is its class are, from `first` on
unfoldable pub ByFewFirst : (marks classes keys lo first hi : List ℕ) (n low D : ℕ) → Type 0
ByFewFirst marks classes keys lo first hi n low D =
    (x p : ℕ) → x < n → marked marks x ≡ true → Present lo hi x p → present keys first hi n (at classes x) p < low → D ≤ p

-- what P promises of a place, promised of D below place `whole`: D is no later than any place before that than which the place of P is no later
pub record BelowWhole (P : ℕ → Type 0) (whole D : ℕ) : Type 0 where
  pub place : ℕ
  pub promised : P place
  pub no_later : (p : ℕ) → p < whole → place ≤ p → D ≤ p

-- a column that has a number below n for each of n records
pub record Small (n : ℕ) (column : List ℕ) : Type 0 where
  pub room : n ≤ length column
  pub low : (x : ℕ) → x < n → at column x < n

-- four lent columns have room for n records
pub record Room (n : ℕ) (one two three four : List ℕ) : Type 0 where
  pub in_one : n ≤ length one
  pub in_two : n ≤ length two
  pub in_three : n ≤ length three
  pub in_four : n ≤ length four
