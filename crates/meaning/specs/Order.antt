-- The order of refusals (MEANING 13): tests one after the other, each at its lowest place.
use Rattle.std.specs.Prelude.{ℕ, zero, suc, Bool, true, false, List, [], ◌∷◌, Err}
use Rattle.meaning.specs.Reading.{Reading, Accepted, Refused}

-- accepted where the test passes, else refused with this number and place
abbrev pub need : Bool → ℕ → ℕ → Reading
need true number place = Accepted
need false number place = Refused number place

-- the first refusal of the two
abbrev pub and_then : Reading → Reading → Reading
and_then Accepted later = later
and_then (Err why) later = Err why

-- the first refusal at the places i, i + 1, .., n of them
unfoldable pub earliest : (ℕ → Reading) → ℕ → ℕ → Reading
earliest f i zero = Accepted
earliest f i (suc n) = let rest = earliest f (suc i) n in and_then (f i) rest

-- a test: how many places it looks at, and what it says at each
pub record Test : Type 0 where
  pub places : ℕ
  pub at : ℕ → Reading

-- the first refusal of the tests, in their order
unfoldable pub in_order : List Test → Reading
in_order [] = Accepted
in_order (t ∷ ts) = let later = in_order ts in and_then (earliest t.at 0 t.places) later
