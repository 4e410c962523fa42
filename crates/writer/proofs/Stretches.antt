-- Lists in stretches of one length: bytes one by one, stretches joined again, a part of a listed list, zeros; bytes below 256 stay so in a part.
use mathlib.Core.Path.{◌≡◌, refl, sym, ap, ◌∙◌}
use mathlib.Core.Logic.{⊎_elim}
use mathlib.Core.List.{List, []}
use Prim.Native.Nat.{ℕ, zero, suc, ◌+◌, ◌-◌, ◌*◌, ◌≤◌, ◌<◌, min}
use native.Mathlib.Nat.{mul-zero, mul-suc}
use native.Mathlib.Omega.{arith}
use lib.ListN.{length, take, drop, replicate, length-take, length-drop, length-replicate, get_or-replicate, get_or-eq_default}
use lib.Seq.{drop-cons, drop-drop, take-add, get_or-take, get_or-drop, ext_get_or}
use Rattle.meaning.specs.Walk.{listed}
use Rattle.meaning.specs.Bytes.{byte}
use Rattle.meaning.specs.Block.{joined}
use Rattle.meaning.proofs.Basics.{le_or_lt}
use Rattle.meaning.proofs.Walks.{length_listed, get_d_listed}

-- every number of the list is a byte
abbrev pub Bytes : List ℕ → Type 0
Bytes s = (k : ℕ) → byte s k < 256

-- a part of bytes is bytes
pub bytes-part : (n at : ℕ) (s : List ℕ) → Bytes s → Bytes (take n (drop at s))
bytes-part n at s h k =
    ⊎_elim
    (λ (l : n ≤ k). let none : byte (take n (drop at s)) k ≡ 0 = get_or-eq_default (take n (drop at s)) 0 (simp length-take (omega arith)) in omega arith)
    (λ l. rw (get_or-take n (drop at s) k 0 l, get_or-drop) (h (at + k)))
    (le_or_lt n k)

-- the n bytes from place i on, listed one by one, are that part of the list
pub bytes-listed : (s : List ℕ) (i n : ℕ) → i + n ≤ length s → listed (byte s) i n ≡ take n (drop i s)
unfolding listed
bytes-listed s i zero h = refl
bytes-listed s i (suc n) h = rw (drop-cons s i 0 (omega arith), bytes-listed s (suc i) n (omega arith))

-- n stretches of one length after place at, from the i-th on, joined, are that part of the list
pub stretches : (s : List ℕ) (at size i n : ℕ) → joined (listed (λ k. take size (drop (at + size * k) s)) i n) ≡ take (size * n) (drop (at + size * i) s)
unfolding joined listed
stretches s at size i zero = rw mul-zero
stretches s at size i (suc n) =
    let next : at + size * i + size ≡ at + size * suc i = omega (arith, mul-suc size i) in
    let more : size * suc n ≡ size + size * n = omega (arith, mul-suc size n) in
    rw (stretches s at size (suc i) n, more, take-add, drop-drop, next)

-- a part of a listed list, at most so many from place at on, is what another function lists from 0 on, where the two agree
pub part_listed : (f g : ℕ → List ℕ) (at most n m : ℕ) → min most (n - at) ≡ m → ((k : ℕ) → k < m → f (at + k) ≡ g k)
    → take most (drop at (listed f 0 n)) ≡ listed g 0 m
part_listed f g at most n m e same =
    let long : length (take most (drop at (listed f 0 n))) ≡ m = simp (length-take, length-drop, length_listed) e in
    ext_get_or [] _ _ (long ∙ sym (length_listed g 0 m))
    (λ k h.
    let l : k < m = rw long at h in
    let from : 0 + (at + k) ≡ at + k = omega arith in
    let to : k ≡ 0 + k = omega arith in
    get_or-take most (drop at (listed f 0 n)) k [] (omega arith)
    ∙ get_or-drop at (listed f 0 n) k []
    ∙ get_d_listed f 0 n (at + k) [] (omega arith)
    ∙ ap f from
    ∙ same k l
    ∙ ap g to
    ∙ sym (get_d_listed g 0 m k [] l))

-- n bytes that are all zero are n zeros
pub zeros-only : (s : List ℕ) (n : ℕ) → length s ≡ n → ((k : ℕ) → k < n → byte s k ≡ 0) → s ≡ replicate n 0
zeros-only s n e h =
    ext_get_or 0 s (replicate n 0) (e ∙ sym (length-replicate n 0))
    (λ k l. let m : k < n = rw e at l in h k m ∙ sym (get_or-replicate n k 0 0 m))
