-- A column of only values: for each version that a rule selects and that is present with exactly one value, one past the record that gives it, and 0 for every other record.
use Rattle.std.specs.Prelude.{◌≡◌, Bool, true, ◌&&◌, List, ℕ, ◌-◌, ◌≤◌, ◌<◌, eqb, ltb, length, get_or}
use Rattle.meaning.specs.declared.Rule.{Rule}
use Rattle.meaning.specs.Document.{Doc}
use Rattle.meaning.specs.Select.{present, gives, same_value}
use Rattle.meaning.specs.Day.{values}

-- x is the entry of version u
pub record OnlyOf (doc : Doc) (p : ℕ → Bool) (q : Rule) (u x : ℕ) : Type 0 where
  pub has : ltb 0 x ≡ (present doc p q u && eqb (values doc p q u) 1)
  pub low : x ≤ doc.size
  pub gives_it : 0 < x → gives doc p q u (x - 1) ≡ true

pub record Only (doc : Doc) (p : ℕ → Bool) (q : Rule) (only : List ℕ) : Type 0 where
  pub at : (u : ℕ) → u < doc.size → OnlyOf doc p q u (get_or only u 0)

-- a column with room for n entries, each of which is 0 or one past a number below n
pub record Inside (n : ℕ) (only : List ℕ) : Type 0 where
  pub room : n ≤ length only
  pub low : (u : ℕ) → u < n → get_or only u 0 ≤ n

-- version u has an entry, and its value is equal to that of f
unfoldable pub shares_at : Doc → List ℕ → ℕ → ℕ → Bool
shares_at doc only f u = ltb 0 (get_or only u 0) && same_value doc f (get_or only u 0 - 1)
