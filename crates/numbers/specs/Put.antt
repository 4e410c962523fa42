-- Bytes put into a lent stretch, from a place on: what it then holds.
use Rattle.std.specs.Prelude.{ℕ, ◌≡◌, List}
use Rattle.std.proofs.lemmas.List.Edits.{sets}

-- the bytes were put from place `at` on, one after the other, and the rest is as it was
pub record Put (before : List ℕ) (at : ℕ) (bytes after : List ℕ) : Type 0 where
  pub is : after ≡ sets before at bytes
