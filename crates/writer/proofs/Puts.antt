-- Bytes put into a list at one place after the other, as `sets` of the library does: what two such are, what one in a part of the list is, and what then stands there.
use mathlib.Core.Path.{◌≡◌, ap, ◌∙◌}
use mathlib.Core.List.{List, [], ◌∷◌, ◌++◌, append_assoc, append-nil}
use Prim.Native.Nat.{ℕ, suc, ◌+◌, ◌-◌, ◌≤◌}
use native.Mathlib.Nat.{zero-add}
use native.Mathlib.Omega.{arith}
use lib.ListN.{length, take, drop, set, length-take, length-drop}
use lib.Seq.{sets, sets-eq, take_at, take_all, drop-drop, drop-length}
use borrow.Rule.Slice.PartMut.{mid_of, post_of, put_mid, Post-is}
use Rattle.numbers.specs.Put.{Put}

-- a stretch put behind another is the two put as one
pub puts_then : (l : List ℕ) (i : ℕ) (a b : List ℕ) (j : ℕ) → j ≡ i + length a → sets (sets l i a) j b ≡ sets l i (a ++ b)
puts_then l i [] b j e = let f : j ≡ i = omega arith in rw f
puts_then l i (x ∷ a) b j e = puts_then (set l i x) (suc i) a b j (omega arith)

-- what was put, and then more behind it
pub puts_on : {l m n : List ℕ} {i j : ℕ} {a b : List ℕ} → Put l i a m → j ≡ i + length a → Put m j b n → Put l i (a ++ b) n
puts_on {l} {i = i} {j = j} {a = a} {b = b} p e q = record { is = q.is ∙ ap (λ s. sets s j b) p.is ∙ puts_then l i a b j e }

-- the same bytes, otherwise said
pub put_as : {l m : List ℕ} {i : ℕ} {a b : List ℕ} → Put l i a m → a ≡ b → Put l i b m
put_as {l} {m} {i} p e = rw (← e) p

-- the part that is lent from a place on has what there is room for behind it
pub lent-room : (l : List ℕ) (at k : ℕ) → at + k ≤ length l → k ≤ length (mid_of at (length l - at) l)
lent-room l at k h = simp (length-take, length-drop) (omega arith)

-- a stretch put at the front of the part that is lent from a place on is put at that place
pub put-lent : (l part : List ℕ) (at : ℕ) (vs : List ℕ) → at + length vs ≤ length l → Put (mid_of at (length l - at) l) 0 vs part → Put l at vs (put_mid at (length l - at) l part)
put-lent l part at vs fits p =
    let there : mid_of at (length l - at) l ≡ drop at l = take_all (length l - at) (drop at l) (simp length-drop (omega arith)) in
    let rest : post_of at (length l - at) l ≡ [] = Post-is at (length l) l (omega arith) ∙ drop-length l in
    record {
      is =
          rw (p.is, there, rest, append-nil, sets-eq vs (drop at l) 0 (simp length-drop (omega arith)), sets-eq vs l at fits, zero-add, drop-drop (length vs) at l, append_assoc, append_assoc);
    }

-- the front of a list holds what was put there
pub put_front : (l vs : List ℕ) (n : ℕ) → length vs ≡ n → n ≤ length l → take n (sets l 0 vs) ≡ vs
put_front l vs n e h = rw (sets-eq vs l 0 (omega arith)) (take_at vs (drop (0 + length vs) l) n e)

-- and past it stays what was there
pub put_rest : (l vs : List ℕ) → length vs ≤ length l → sets l 0 vs ≡ vs ++ drop (length vs) l
put_rest l vs h = sets-eq vs l 0 (omega arith) ∙ rw zero-add
