-- Equal values have equal keys, so a chain of versions by their keys passes over no version of an equal value.
use mathlib.Core.Path.{◌≡◌, refl, sym, ap, ◌∙◌}
use mathlib.Core.List.{List, map}
use Prim.Native.Nat.{ℕ, ◌%◌}
use native.Mathlib.Omega.{arith}
use borrow.Author.Tests.{eq-eqb}
use lib.Dec.{eqb}
use lib.IntN.{ℤ, pos}
use lib.Signed.{mag}
use lib.ListN.{length, get_or, length-map, get_or-map}
use Rattle.meaning.proofs.Basics.{both}
use Rattle.numbers.proofs.Callers as callers
use Rattle.columns.specs.Chains.{Grouped, Chained}
use Rattle.values.specs.Chosen.{Even, held, ByValue}
use Rattle.values.proofs.Equals.{agree}

-- the key of one value, of whose magnitude r a call tells, is the key of its magnitude
pub key-at : (values : List ℤ) (m i r : ℕ) → callers.held (get_or values i (pos 0)) ≡ get_or values i (pos 0) → r ≡ mag (callers.held (get_or values i (pos 0))) → r % m ≡ get_or (map mag values) i 0 % m
key-at values m i r h e = ap (λ x. x % m) (e ∙ ap mag h ∙ sym (get_or-map mag values i (pos 0)))

-- the versions, chained by the keys of their values
module _ (kinds vkinds : List ℕ) (values : List ℤ) (even : Even kinds vkinds values) (room : ℕ) (keys last lower : List ℕ) where
  pub by_value : Grouped room (map mag values) keys → Chained room kinds keys 2 (length kinds) last lower → ByValue (held kinds vkinds values) lower
  by_value s c =
      let n : length (map mag values) ≡ length kinds = length-map values mag ∙ even.value in
      let at : (i : ℕ) → get_or (map mag values) i 0 ≡ mag (get_or values i (pos 0)) = λ i. get_or-map mag values i (pos 0) in
      record {
        room = omega (arith, c.fits, c.lower_room);
        key = λ i. get_or keys i 0;
        same = λ f g h l e. s.same f g (omega arith) (omega arith) (at g ∙ ap mag (sym (agree (held kinds vkinds values) f g e).1) ∙ sym (at f));
        steps = λ f h k. c.steps (get_or keys f 0) f (s.small f (omega arith)) h (both (eqb (get_or kinds f 0) 2) (eqb (get_or keys f 0) (get_or keys f 0)) k (eq-eqb (get_or keys f 0) (get_or keys f 0) refl));
      }
