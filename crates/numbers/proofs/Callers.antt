-- What a caller learns of a signed test. An argument of a call is read back from its bits, so what the call ensures speaks of `to_z w32 (of_z w32 z)` for z. `search (needs, signs)` takes it to what is asked, here or in a loop, where a signed local is its bits.
use mathlib.Core.Path.{◌≡◌, refl, sym, ap}
use mathlib.Core.Bool.{Bool, true, ◌&&◌}
use mathlib.Core.List.{List}
use Prim.Native.Nat.{ℕ}
use lib.IntN.{ℤ, pos, ◌-ℤ◌}
use lib.Signed.{le_z, mag}
use lib.ListN.{set}
use mir.Syntax.{w32}
use mir.Val.{of_z, to_z}
use Rattle.meaning.specs.Bytes.{eq_z}
use Rattle.numbers.proofs.Signs.{upward}

-- a number, as a call or a store gets it
abbrev pub held : ℤ → ℤ
held z = to_z w32 (of_z w32 z)

pub heard_same : {a b x y : ℤ} {r : Bool} → r ≡ eq_z x y → x ≡ a → y ≡ b → r ≡ eq_z a b
heard_same e f g = rw (f, g) at e

pub heard_most : {a b x y : ℤ} {r : Bool} → r ≡ le_z x y → x ≡ a → y ≡ b → r ≡ le_z a b
heard_most e f g = rw (f, g) at e

-- a number from low to high
pub heard_range : {z low high x y u : ℤ} {r : Bool} → r ≡ (le_z y x && le_z x u) → x ≡ z → y ≡ low → u ≡ high → r ≡ (le_z low z && le_z z high)
heard_range e f g h = rw (f, g, h) at e

-- a step from low to high
pub heard_step : {q p low high x w y u : ℤ} {r : Bool} → r ≡ (le_z y (x -ℤ w) && le_z (x -ℤ w) u) → x ≡ q → w ≡ p → y ≡ low → u ≡ high
    → r ≡ (le_z low (q -ℤ p) && le_z (q -ℤ p) high)
heard_step e f g h k = rw (f, g, h, k) at e

-- a difference itself
pub heard_difference : {q p x w d : ℤ} → d ≡ x -ℤ w → x ≡ q → w ≡ p → d ≡ q -ℤ p
heard_difference e f g = rw (f, g) at e

-- a number stored in a list
pub heard_set : (l : List ℤ) (k : ℕ) (x z : ℤ) → x ≡ z → set l k x ≡ set l k z
heard_set l k x z e = ap (set l k) e

-- a magnitude
pub heard_magnitude : {z x : ℤ} {r : ℕ} → r ≡ mag x → x ≡ z → r ≡ mag z
heard_magnitude e f = rw f at e

-- a number from 0 up is its magnitude
pub magnitude_up : (z : ℤ) → le_z (pos 0) z ≡ true → pos (mag z) ≡ z
magnitude_up z t = sym (upward refl t)

pub ruleset signs = (heard_same, heard_most, heard_range, heard_step, heard_difference, heard_magnitude, heard_set)
