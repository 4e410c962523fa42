-- Bytes copied to a place, as the part that was lent from there on and as `sets` does.
use mathlib.Core.Path.{◌≡◌, sym, ◌∙◌}
use mathlib.Core.List.{List, append_assoc}
use Prim.Native.Nat.{ℕ, ◌+◌, ◌-◌, ◌≤◌}
use native.Mathlib.Omega.{arith}
use lib.ListN.{length, take}
use lib.Seq.{sets-eq}
use borrow.Rule.Slice.PartMut.{put_mid, Post-is}
use Rattle.numbers.specs.Put.{Put}

pub copied : (l vs part : List ℕ) (at to : ℕ) → part ≡ vs → at + length vs ≡ to → to ≤ length l → Put l at vs (put_mid at (to - at) l part)
copied l vs part at to e long fits =
    record { is = rw (e, Post-is at to l (omega (arith, long))) (sym (sets-eq vs l at (omega (arith, long)) ∙ append_assoc (take at l) vs _ ∙ rw long)) }
