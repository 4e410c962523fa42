-- What a test for a hit says; and the number that a column has for a record of the order.
use mathlib.Core.Path.{◌≡◌, refl}
use mathlib.Core.Bool.{Bool, true, false, not, ◌&&◌}
use mathlib.Core.List.{List}
use Prim.Native.Nat.{ℕ, ◌<◌}
use lib.Dec.{eqb, ltb}
use lib.ListN.{length}
use borrow.Author.Tests.{eqb-true, lt-ltb}
use Rattle.passes.specs.Passes.{at, Covers}

-- the test for a hit failed: where the end lies behind, the owner is the same
pub no_hit : (a t h o : ℕ) → (ltb a t && not (eqb h o)) ≡ false → a < t → h ≡ o
no_hit a t h o e l =
    let s : ltb a t ≡ true = lt-ltb a t l in
    let n : not (eqb h o) ≡ false = rw s at e in
    eqb-true h o (turned (eqb h o) n)
  where
    turned : (b : Bool) → not b ≡ false → b ≡ true
    turned true p = refl
    turned false p = let z : true ≡ false = p in cc

-- what a column has for the record at position u of the order
abbrev pub by : List ℕ → List ℕ → ℕ → ℕ
by order column u = at column (at order u)

-- the record at position i of the order has its number in a column
pub fits : {order column : List ℕ} → Covers order column → (i : ℕ) → i < length order → {x : ℕ} → x ≡ at order i → x < length column
fits covers i im ex = rw ex (covers.has i im)
