-- What a lent text holds after a piece was put into it, and the place after the piece.
use Rattle.std.specs.Prelude.{◌≡◌, List, ℕ, ◌+◌, ◌-◌, min, length}
use Rattle.std.proofs.lemmas.List.Edits.{sets}

-- the piece's bytes stand from `at` on, those that do not fit left out, and the rest is as it was; `to` is the place after the last that fits
pub record Puts (before : List ℕ) (at : ℕ) (piece after : List ℕ) (to : ℕ) : Type 0 where
  pub text : after ≡ sets before at piece
  pub place : to ≡ at + min (length piece) (length before - at)
