-- Items chained by the keys of their numbers.
use mathlib.Core.Path.{◌≡◌, refl}
use mathlib.Core.Bool.{Bool, ◌&&◌}
use mathlib.Core.List.{List, []}
use Prim.Native.Nat.{ℕ}
use native.Mathlib.Omega.{arith}
use lib.Dec.{eqb}
use lib.ListN.{length, get_or}
use borrow.Author.Tests.{eq-eqb}
use Rattle.meaning.specs.Document.{Doc, columns, is_item}
use Rattle.meaning.proofs.Basics.{both}
use Rattle.columns.specs.Chains.{Grouped, Chained, Twins}

-- record j is an item with this key
abbrev pub has_key : (doc : Doc) → (ℕ → ℕ) → ℕ → ℕ → Bool
has_key doc key k j = is_item doc j && eqb (key j) k

-- the records of kind 1, chained by the keys of their numbers
pub twins_of : (kinds names parents begins ends items : List ℕ) (room : ℕ) (keys last lower : List ℕ) → length items ≡ length kinds → Grouped room items keys
    → Chained room kinds keys 1 (length kinds) last lower → Twins (columns kinds [] names parents begins ends [] items []) lower
twins_of kinds names parents begins ends items room keys last lower e s c =
    record {
      room = omega arith;
      key = λ i. get_or keys i 0;
      same = λ i j h l n. s.same i j (omega arith) (omega arith) n;
      steps = λ i h k. c.steps (get_or keys i 0) i (s.small i (omega arith)) h (both (eqb (get_or kinds i 0) 1) (eqb (get_or keys i 0) (get_or keys i 0)) k (eq-eqb (get_or keys i 0) (get_or keys i 0) refl));
    }
