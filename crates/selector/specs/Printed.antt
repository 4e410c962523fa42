-- What the program may print on a text and a dictionary: the line on what comes of them (MEANING 18).
use Rattle.std.specs.Prelude.{◌≡◌, List, ℕ, Result}
use Rattle.meaning.specs.declared.Refusal.{Refusal}
use Rattle.selectors.specs.Selecting.{Comes, tell_selected}
use Rattle.selectors.specs.Told.{selector_line}

-- these bytes are the line on an answer and numbers that come of the two
pub record Printed (text d bytes : List ℕ) : Type 0 where
  pub answer : Result ℕ Refusal
  pub numbers : List ℕ
  pub comes : Comes text d (tell_selected answer) numbers
  pub line : bytes ≡ selector_line answer numbers
