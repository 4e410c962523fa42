-- Places made of given numbers: which numbers will do, and that the places have them.
use Rattle.std.specs.Prelude.{◌≡◌, Bool, ℕ, ◌≤◌}
use Rattle.places.specs.declared.Places.{Places}

-- the numbers stay small, and a place has a unit at least, as has the way to the next one
pub record Small (first span slide close : ℕ) : Type 0 where
  pub first_most : first ≤ 36525
  pub span_least : 1 ≤ span
  pub span_most : span ≤ 36525
  pub slide_least : 1 ≤ slide
  pub slide_most : slide ≤ 36525
  pub close_most : close ≤ 36525

-- the places have these numbers
pub record Made (months : Bool) (begin length step end : ℕ) (at : Places) : Type 0 where
  pub monthly : at.monthly ≡ months
  pub first : at.first ≡ begin
  pub span : at.span ≡ length
  pub slide : at.slide ≡ step
  pub close : at.close ≡ end
