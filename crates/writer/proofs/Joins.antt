-- Stretches of one length, joined: how long they are together, and that each stands where its number says.
use mathlib.Core.Path.{◌≡◌, sym, ap, ◌∙◌}
use mathlib.Core.List.{List, [], ◌∷◌, ◌++◌, append_assoc, append-nil}
use Prim.Native.Nat.{ℕ, zero, suc, ◌+◌, ◌*◌, ◌-◌, ◌<◌, min}
use native.Mathlib.Nat.{mul-zero, mul-suc, add_comm}
use native.Mathlib.Omega.{arith}
use lib.ListN.{length, get_or, take, drop, length-append, length-take, length-drop}
use lib.Seq.{take_at, drop-append-add, get_or-take, get_or-drop}
use Rattle.meaning.specs.Block.{joined}

-- each stretch is w bytes long
abbrev pub EachLong : ℕ → List (List ℕ) → Type 0
EachLong w ss = (i : ℕ) → i < length ss → length (get_or ss i []) ≡ w

-- what holds of each stretch holds of each after the first
long_rest : (w : ℕ) (s : List ℕ) (ss : List (List ℕ)) → EachLong w (s ∷ ss) → EachLong w ss
long_rest w s ss long i h = long (suc i) (omega arith)

-- .. and of each of a part of them
pub long_part : (w n m : ℕ) (ss : List (List ℕ)) → EachLong w ss → EachLong w (take n (drop m ss))
long_part w n m ss long i h =
    let inside : i < min n (length ss - m) = simp (length-take, length-drop) at h in
    ap length (get_or-take n (drop m ss) i [] (omega arith) ∙ get_or-drop m ss i []) ∙ long (m + i) (omega arith)

-- together they are as long as their count says
pub length_joined : (w : ℕ) (ss : List (List ℕ)) → EachLong w ss → length (joined ss) ≡ w * length ss
unfolding joined
length_joined w [] long = sym (mul-zero w)
length_joined w (s ∷ ss) long =
    let first : length s ≡ w = long 0 (omega arith) in
    let rest = length_joined w ss (long_rest w s ss long) in
    rw (length-append, mul-suc) (omega arith)

-- stretch i stands at i times the length, whatever comes after them all
pub stretch_before : (w : ℕ) (ss : List (List ℕ)) (after : List ℕ) (i : ℕ) → EachLong w ss → i < length ss → take w (drop (w * i) (joined ss ++ after)) ≡ get_or ss i []
unfolding joined
stretch_before w [] after i long h = absurd (omega arith)
stretch_before w (s ∷ ss) after zero long h = rw (mul-zero w, append_assoc) (take_at s (joined ss ++ after) w (long 0 (omega arith)))
stretch_before w (s ∷ ss) after (suc i) long h =
    let place : w * suc i ≡ length s + w * i = mul-suc w i ∙ add_comm (w * i) w ∙ ap (λ (n : ℕ). n + w * i) (sym (long 0 (omega arith))) in
    rw (place, append_assoc, drop-append-add) (stretch_before w ss after i (long_rest w s ss long) (omega arith))

-- .. and where nothing does
pub stretch : (w : ℕ) (ss : List (List ℕ)) (i : ℕ) → EachLong w ss → i < length ss → take w (drop (w * i) (joined ss)) ≡ get_or ss i []
stretch w ss i long h = rw append-nil at (stretch_before w ss [] i long h)
