-- What the call that writes records promises, answer and bytes together (MEANING 17).
use Rattle.std.specs.Prelude.{◌≡◌, List, ℕ, Result}
use Rattle.meaning.specs.declared.Refusal.{Refusal}
use Rattle.meaning.specs.Lent.{Lent}
use Rattle.meaning.specs.Answer.{write_answer, write_image}

-- the answer on n records of the columns, and what the lent image then holds
pub record Writes (n : ℕ) (c : Lent) (before : List ℕ) (r : Result ℕ Refusal) (after : List ℕ) : Type 0 where
  pub answer : r ≡ write_answer n c before
  pub image : after ≡ write_image n c before
