-- The check of a block said plainly, as a sum: each byte times as many 33s as bytes come after it, 5,381 before them, modulo 2^32.
use mathlib.Core.Path.{◌≡◌, sym, ap, ◌∙◌}
use mathlib.Core.List.{List, [], ◌∷◌}
use Prim.Native.Nat.{ℕ, ◌+◌, ◌*◌, ◌/◌, ◌%◌, ◌^◌, ◌<◌}
use native.Mathlib.Nat.{add-mul, mul_assoc, add-mul-mod_self_left, mod-add-div, pow-succ'}
use native.Mathlib.Omega.{arith}
use lib.ListN.{length}
use Rattle.meaning.specs.Block.{check_from, check, check_step}

-- each byte times 33 to the power of how many come after it
unfoldable pub weighed : List ℕ → ℕ
weighed [] = 0
weighed (x ∷ s) = x * 33 ^ length s + weighed s

abbrev pub check_sum : List ℕ → ℕ
check_sum s = (5381 * 33 ^ length s + weighed s) % 4294967296

-- in a sum of products modulo m a factor may be taken modulo m
factor_rest : (m n k w : ℕ) → (n % m * k + w) % m ≡ (n * k + w) % m
factor_rest m n k w =
    let parts : n * k ≡ n % m * k + m * (n / m * k) =
    ap (λ (x : ℕ). x * k) (sym (mod-add-div n m)) ∙ add-mul (n % m) (m * (n / m)) k ∙ ap (λ (x : ℕ). n % m * k + x) (mul_assoc m (n / m) k) in
    let whole : n * k + w ≡ n % m * k + w + m * (n / m * k) = omega arith in
    sym (ap (λ (x : ℕ). x % m) whole ∙ add-mul-mod_self_left (n % m * k + w) m (n / m * k))

-- one byte more in front
more : (c x p w : ℕ) → (c * 33 + x) * p + w ≡ c * (33 * p) + (x * p + w)
more c x p w =
    let a : (c * 33 + x) * p ≡ c * 33 * p + x * p = add-mul (c * 33) x p in
    let b : c * 33 * p ≡ c * (33 * p) = mul_assoc c 33 p in
    omega arith

summed_from : (s : List ℕ) (c : ℕ) → c < 4294967296 → check_from c s ≡ (c * 33 ^ length s + weighed s) % 4294967296
unfolding check_from weighed
summed_from [] c h = omega arith
summed_from (x ∷ s) c h =
    let p = 33 ^ length s in
    summed_from s (check_step c x) (omega arith)
    ∙ factor_rest 4294967296 (c * 33 + x) p (weighed s)
    ∙ ap (λ (y : ℕ). y % 4294967296) (more c x p (weighed s) ∙ ap (λ (y : ℕ). c * y + (x * p + weighed s)) (sym (pow-succ' 33 (length s))))

-- THE LAW: the check is that sum
pub check-summed : (s : List ℕ) → check s ≡ check_sum s
unfolding check
check-summed s = summed_from s 5381 (omega arith)
