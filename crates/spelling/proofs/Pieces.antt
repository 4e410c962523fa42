-- A text put together: byte by byte, and two pieces after one another as one.
use mathlib.Core.Path.{◌≡◌, refl, sym, ap, ◌∙◌}
use mathlib.Core.Logic.{⊎_elim}
use mathlib.Core.List.{List, [], ◌∷◌, ◌++◌, append_assoc}
use Prim.Native.Nat.{ℕ, zero, suc, ◌+◌, ◌-◌, ◌≤◌, ◌<◌, min}
use native.Mathlib.Omega.{arith}
use lib.ListN.{length, take, drop, set, length-append, length-set, length-take}
use lib.Seq.{sets, length-sets, sets-eq, set_out, take_at, take_all}
use borrow.Rule.Slice.PartMut.{put_mid, Post-is}
use Rattle.meaning.proofs.Basics.{le_or_lt}
use Rattle.spelling.specs.Puts.{Puts}

-- past the end nothing is stored
sets_out : (l : List ℕ) (i : ℕ) (vs : List ℕ) → length l ≤ i → sets l i vs ≡ l
sets_out l i [] h = refl
sets_out l i (x ∷ vs) h = ap (λ m. sets m (suc i) vs) (set_out l i x h) ∙ sets_out l (suc i) vs (omega arith)

sets_append : (l : List ℕ) (i : ℕ) (a b : List ℕ) → sets l i (a ++ b) ≡ sets (sets l i a) (i + length a) b
sets_append l i [] b = let e : i + 0 ≡ i = omega arith in rw e
sets_append l i (x ∷ a) b = let e : i + suc (length a) ≡ suc i + length a = omega arith in rw e (sets_append (set l i x) (suc i) a b)

-- nor is what a piece has past the room behind its place
sets_cut : (l : List ℕ) (i n : ℕ) (a : List ℕ) → length l ≤ i + n → sets l i (take n a) ≡ sets l i a
sets_cut l i zero a h = sym (sets_out l i a (omega arith))
sets_cut l i (suc n) [] h = refl
sets_cut l i (suc n) (x ∷ a) h = sets_cut (set l i x) (suc i) n a (omega (arith, length-set l i x))

-- a piece that is put past the end: nothing is stored
pub puts_past : {l piece : List ℕ} {at : ℕ} → length l ≤ at → Puts l at piece l at
puts_past {l} {piece} {at} h = record { text = sym (sets_out l at piece h); place = omega arith }

-- the part of a piece for which there is room, copied to its place
pub puts_front : {l piece part : List ℕ} {at n : ℕ} → at ≤ length l → n ≡ min (length piece) (length l - at) → part ≡ take n piece
    → Puts l at piece (put_mid at (at + n - at) l part) (at + n)
puts_front {l} {piece} {part} {at} {n} h e p =
    let long : length (take n piece) ≡ n = simp length-take (omega arith) in
    let fits : at + n ≤ length l = omega arith in
    let stored : put_mid at (at + n - at) l part ≡ sets l at (take n piece) =
    rw (p, Post-is at (at + n) l (omega arith)) (sym (sets-eq (take n piece) l at (omega (arith, long)) ∙ append_assoc (take at l) (take n piece) _ ∙ rw long)) in
    let all : sets l at (take n piece) ≡ sets l at piece =
    ⊎_elim
    (λ whole. ap (sets l at) (take_all n piece whole))
    (λ short. sets_cut l at n piece (omega arith))
    (le_or_lt (length piece) n) in
    record { text = stored ∙ all; place = omega arith }

-- nothing put
pub puts_none : (l : List ℕ) (at : ℕ) → Puts l at [] l at
puts_none l at = record { text = refl; place = omega arith }

-- the same piece, told otherwise
pub puts_as : {l m a b : List ℕ} {at r : ℕ} → Puts l at a m r → a ≡ b → Puts l at b m r
puts_as p e = rw (sym e) p

-- two pieces after one another are one
pub puts_then : {l m n a b : List ℕ} {at r s : ℕ} → Puts l at a m r → Puts m r b n s → Puts l at (a ++ b) n s
puts_then {l} {m} {n} {a} {b} {at} {r} {s} p q =
    let long : length m ≡ length l = ap length p.text ∙ length-sets l at a in
    let both = sets_append l at a b in
    let pl = p.place in
    let fits : length a ≤ length l - at → n ≡ sets l at (a ++ b) = λ h.
    let e : r ≡ at + length a = omega arith in
    q.text ∙ ap (λ k. sets m k b) e ∙ ap (λ t. sets t (at + length a) b) p.text ∙ sym both in
    let full : length l - at < length a → n ≡ sets l at (a ++ b) = λ h.
    q.text ∙ sets_out m r b (omega arith) ∙ p.text ∙ sym (sets_out (sets l at a) (at + length a) b (omega (arith, length-sets l at a))) ∙ sym both in
    record { text = ⊎_elim fits full (le_or_lt (length a) (length l - at)); place = omega (arith, pl, q.place, length-append a b) }

-- where all fits, the front is the text
pub puts_whole : {l m a : List ℕ} {r : ℕ} → Puts l 0 a m r → length a ≤ length l → take r m ≡ a
puts_whole {l} {m} {a} {r} p h =
    rw (p.text, sets-eq a l 0 (omega arith)) (take_at a (drop (0 + length a) l) r (omega (arith, p.place)))

-- what is put determines the text and the place
pub puts_unique : {l m n a : List ℕ} {at r s : ℕ} → Puts l at a m r → Puts l at a n s → (m ≡ n) × (r ≡ s)
puts_unique p q = (p.text ∙ sym q.text, p.place ∙ sym q.place)
