-- The class of an item is that of its namesake, if it has a lower one, and else its own number.
use mathlib.Core.Path.{◌≡◌, refl}
use mathlib.Core.Bool.{Bool}
use mathlib.Core.List.{List}
use Prim.Native.Nat.{ℕ, ◌≤◌, ◌<◌}
use native.Mathlib.Omega.{arith}
use borrow.Author.Tests.{eq-eqb}
use lib.ListN.{length, get_or}
use Rattle.std.specs.Prelude.{Some}
use Rattle.meaning.specs.Walk.{first}
use Rattle.meaning.specs.Document.{Doc}
use Rattle.meaning.proofs.Walks.{first-at}
use Rattle.meaning.proofs.Says.{says}
use Rattle.columns.specs.Chains as chains
use Rattle.groups.specs.Classes.{held, numbered, Class, ClassedBelow}

module _ (kinds parents items : List ℕ) (i : ℕ) (h : i < length kinds) (k : get_or kinds i 0 ≡ 1) (j : ℕ) (n : chains.Namesake (chains.numbered kinds items) i j) where
  abbrev doc : Doc
  doc = held kinds parents items

  abbrev f : ℕ → Bool
  f = numbered doc (doc.item i)

  -- x is the lowest item of the number of i
  classed : (x : ℕ) → x ≤ i → first f 0 doc.size ≡ Some x → Class doc i x
  classed x l e = record { low = l; of_item = λ _. e; of_version = λ q. let z = simp says at q in absurd (omega arith) }

  pub class-by : (classes : List ℕ) → ClassedBelow doc i classes → j < i → Class doc i (get_or classes j 0)
  class-by classes known l =
      let c = known.each j l in
      classed _ (omega (arith, c.low)) (rw n.number at (c.of_item (eq-eqb (doc.kind j) 1 n.item)))

  -- there is none: i is the lowest itself
  pub class-own : i ≤ j → Class doc i i
  class-own l =
      let own : j ≡ i = omega (arith, n.low) in
      classed i (omega arith) (first-at f i 0 doc.size (omega arith) (omega arith) (simp says (k, refl)) (λ a z b. simp says (λ t q. n.none own a b t q)))
