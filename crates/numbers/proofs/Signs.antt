-- Signed numbers as the machine holds them. A local holds bits, `of_z` of the number, and each use reads them back, `to_z`; what was read back is the number itself.
use mathlib.Core.Path.{◌≡◌, refl, ap}
use mathlib.Core.Bool.{Bool, true, false, cond, false≢true}
use Prim.Native.Nat.{ℕ, suc, ◌-◌, ◌^◌, ◌<◌}
use native.Mathlib.Omega.{arith}
use lib.Dec.{ltb}
use lib.IntN.{ℤ, pos, negsuc}
use lib.Signed.{mag, le_z}
use mir.Syntax.{Width, w32}
use mir.Val.{of_z, to_z, hbits}
use mir.Facts.{to_z-of_z}
use Rattle.meaning.specs.Bytes.{signed, bits}

-- what a call gave, read back; of a call's result the record says only the bound
pub given : (w : Width) {z : ℤ} → mag z < 2 ^ hbits w → to_z w (of_z w z) ≡ z
given w h = to_z-of_z (record { sfits = h })

-- the library's casts are two's complement
pub signed_cast : (x : ℕ) → to_z w32 x ≡ signed x
unfolding signed
signed_cast x = go (ltb x 2147483648)
  where
    go : (t : Bool) → cond t (pos x) (negsuc (4294967296 - suc x)) ≡ cond t (pos x) (negsuc (4294967295 - x))
    go true = refl
    go false = ap negsuc (omega arith)

pub bits_cast : (z : ℤ) → of_z w32 z ≡ bits z
unfolding bits
bits_cast (pos n) = refl
bits_cast (negsuc n) = omega arith

pub ruleset casts = (signed_cast, bits_cast, to_z-of_z)

-- a number from 0 up is its magnitude; x is the number, read back
pub upward : {x z : ℤ} → x ≡ z → le_z (pos 0) x ≡ true → x ≡ pos (mag z)
upward {z = pos n} e t = e
upward {z = negsuc n} e t = absurd (false≢true (rw e at t))
