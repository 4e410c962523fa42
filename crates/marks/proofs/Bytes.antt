-- A test that is made a byte.
use mathlib.Core.Path.{◌≡◌, refl}
use mathlib.Core.Bool.{Bool, true, false}
use Prim.Native.Nat.{ℕ}
use lib.Dec.{eqb}
use Rattle.std.specs.Int.{from_bool}

-- it is a mark
pub mark-byte : (b : Bool) (x : ℕ) → x ≡ from_bool b → eqb x 1 ≡ b
mark-byte true x e = rw e refl
mark-byte false x e = rw e refl
