-- Laws of the check (01, "Blocks"): it keeps different checks different, so a changed byte always shows; and the three worked values.
use mathlib.Core.Path.{◌≡◌, refl}
use mathlib.Core.List.{List, [], ◌∷◌}
use Prim.Native.Nat.{ℕ, zero, suc, ◌+◌, ◌*◌, ◌-◌, ◌/◌, ◌^◌, ◌<◌}
use native.Mathlib.Omega.{arith}
use lib.ListN.{length, set}
use Rattle.meaning.specs.Bytes.{byte}
use Rattle.meaning.specs.Block.{check_step, check_from, check}

-- 33 has an inverse modulo 2^32: 33 * 1041204193 = 8 * 2^32 + 1
odd : (x q : ℕ) → 33 * x ≡ 2 ^ 32 * q → x < 2 ^ 32 → x ≡ 0
odd x q e h =
    let m : x ≡ 2 ^ 32 * (1041204193 * q - 8 * x) = omega arith in
    omega arith

step-one_to_one : (c d x : ℕ) → c < 2 ^ 32 → d < 2 ^ 32 → check_step c x ≡ check_step d x → c ≡ d
step-one_to_one c d x hc hd e =
    let p = (c * 33 + x) / 2 ^ 32 in
    let q = (d * 33 + x) / 2 ^ 32 in
    let more : c - d ≡ 0 = odd (c - d) (p - q) (omega arith) (omega arith) in
    let less : d - c ≡ 0 = odd (d - c) (q - p) (omega arith) (omega arith) in
    omega arith

-- the same bytes lead to one check only from one check: from two different ones they lead to different ones
pub check-one_to_one : (s : List ℕ) (c d : ℕ) → c < 2 ^ 32 → d < 2 ^ 32 → check_from c s ≡ check_from d s → c ≡ d
unfolding check_from
check-one_to_one [] c d hc hd e = e
check-one_to_one (x ∷ s) c d hc hd e =
    step-one_to_one c d x hc hd (check-one_to_one s (check_step c x) (check_step d x) (omega arith) (omega arith) e)

shows-from : (s : List ℕ) (c i x : ℕ) → i < length s → byte s i < 256 → x < 256 → check_from c (set s i x) ≡ check_from c s → x ≡ byte s i
unfolding check_from
shows-from [] c i x h hb hx e = absurd (omega arith)
shows-from (y ∷ s) c zero x h hb hx e =
    let step = check-one_to_one s (check_step c x) (check_step c y) (omega arith) (omega arith) e in
    omega arith
shows-from (y ∷ s) c (suc i) x h hb hx e = shows-from s (check_step c y) i x (omega arith) hb hx e

-- THE LAW of the check: a byte list with one byte changed has another check
pub check-shows : (s : List ℕ) (i x : ℕ) → i < length s → byte s i < 256 → x < 256 → (x ≡ byte s i → ⊥) → check (set s i x) ≡ check s → ⊥
unfolding check
check-shows s i x h hb hx ne e = ne (shows-from s 5381 i x h hb hx e)

-- 01's worked values
pub check-worked : check (0 ∷ []) ∷ check (97 ∷ 98 ∷ []) ∷ check_from 4294967295 (0 ∷ []) ∷ [] ≡ 177573 ∷ 5863208 ∷ 4294967263 ∷ []
unfolding check check_from
check-worked = refl
