-- Two texts byte for byte: where they are the same, and that the library says so.
use mathlib.Core.Path.{◌≡◌, refl, ap}
use mathlib.Core.Bool.{true, ◌&&◌}
use mathlib.Core.List.{List, [], ◌∷◌}
use Prim.Native.Nat.{ℕ}
use borrow.Author.Tests.{eqb-true, eq-eqb}
use lib.Dec.{eqb}
use lib.Pointwise.{pointwise}
use Rattle.meaning.proofs.Basics.{clear, and_l, and_r}
use Rattle.selectors.specs.Parts.{same}

-- texts that are the same are equal
pub same-equal : (a b : List ℕ) → same a b ≡ true → a ≡ b
unfolding same
same-equal [] [] e = refl
same-equal [] (y ∷ b) e = absurd (clear e refl)
same-equal (x ∷ a) [] e = absurd (clear e refl)
same-equal (x ∷ a) (y ∷ b) e =
    let head : x ≡ y = eqb-true x y (and_l (eqb x y) (same a b) e) in
    let tail : a ≡ b = same-equal a b (and_r (eqb x y) (same a b) e) in
    cc

-- a text is the same as itself
pub same_self : (a : List ℕ) → same a a ≡ true
unfolding same
same_self [] = refl
same_self (x ∷ a) = rw (eq-eqb x x refl) (same_self a)

-- what the library says of two texts that it compares
pub compared : (a b : List ℕ) → pointwise eqb a b ≡ same a b
unfolding same
compared [] [] = refl
compared [] (y ∷ b) = refl
compared (x ∷ a) [] = refl
compared (x ∷ a) (y ∷ b) = ap (λ t. eqb x y && t) (compared a b)
