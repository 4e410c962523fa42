-- How marked numbers are counted and stored: what is left at each turn, and what the call then answers.
use mathlib.Core.Path.{◌≡◌, refl, sym, ap, ◌∙◌}
use mathlib.Core.Bool.{Bool, true}
use mathlib.Core.List.{List, [], ◌∷◌, ◌++◌}
use Prim.Native.Nat.{ℕ, ◌+◌, ◌-◌, ◌≤◌, ◌<◌}
use native.Mathlib.Nat.{zero-add}
use native.Mathlib.Numerals.{add-one}
use native.Mathlib.Omega.{arith}
use lib.ListN.{length, drop, set, length-set}
use lib.Seq.{sets, sets-eq}
use borrow.Author.Tests.{le-leb, lt-leb}
use Rattle.std.specs.Prelude.{Ok}
use Rattle.meaning.specs.Reading.{Refused, Accepted}
use Rattle.meaning.specs.Walk.{pick}
use Rattle.meaning.specs.Answer.{storing}
use Rattle.meaning.proofs.Loops.{one_less}
use Rattle.meaning.proofs.Picks.{pick_yes}
use Rattle.marks.specs.Marks.{after}
use Rattle.marks.proofs.After.{after_is, pick-after}

module _ (f : ℕ → Bool) (n : ℕ) where
  -- a walk over the numbers that pass stands at i, or has come to the end
  pub record Stop (i : ℕ) : Type 0 where
    pub to : i ≤ n
    pub passes : i < n → f i ≡ true

  pub stop_at : (from i : ℕ) → from ≤ n → i ≡ after f from n → Stop i
  stop_at from i h e = let w = after_is f n from h in rw e (record { to = w.to; passes = w.passes })

  -- what is left there is i and what is left at the next stop, or nothing
  pub left-start : (from i : ℕ) → from ≤ n → i ≡ after f from n → pick f from (n - from) ≡ pick f i (n - i)
  left-start from i h e = rw e (pick-after f n from h)

  module _ (i : ℕ) (s : Stop i) where
    pub left-more : i < n → (j : ℕ) → j ≡ after f (i + 1) n → pick f i (n - i) ≡ i ∷ pick f j (n - j)
    left-more h j e =
        ap (pick f i) (one_less i n h) ∙ pick_yes f i (n - (i + 1)) (s.passes h)
        ∙ ap (λ xs. i ∷ xs) (ap (λ k. pick f k (n - (i + 1))) (sym (add-one i)) ∙ left-start (i + 1) j (omega arith) e)

    pub left_end : n ≤ i → pick f i (n - i) ≡ []
    unfolding pick
    left_end h = let z : n - i ≡ 0 = omega arith in rw z

  -- counted so far, and what is left
  pub record Counting (from so_far i : ℕ) : Type 0 where
    pub stop : Stop i
    pub low : so_far ≤ i
    pub whole : so_far + length (pick f i (n - i)) ≡ length (pick f from (n - from))

  module _ (from : ℕ) (h : from ≤ n) where
    pub counting-start : (i : ℕ) → i ≡ after f from n → Counting from 0 i
    counting-start i e =
        let p = ap (λ (xs : List ℕ). length xs) (left-start from i h e) in
        record { stop = stop_at from i h e; low = omega arith; whole = omega (arith, p) }

    module _ (so_far i : ℕ) (s : Counting from so_far i) where
      pub counting_more : i < n → (j : ℕ) → j ≡ after f (i + 1) n → Counting from (so_far + 1) j
      counting_more l j e =
          let p = ap (λ (xs : List ℕ). length xs) (left-more i s.stop l j e) in
          let w = after_is f n (i + 1) (omega arith) in
          record { stop = stop_at (i + 1) j (omega arith) e; low = omega (arith, w.from, s.low); whole = omega (arith, p, s.whole) }

      pub counting-end : n ≤ i → so_far ≡ length (pick f from (n - from))
      counting-end l = let p = ap (λ (xs : List ℕ). length xs) (left_end i s.stop l) in omega (arith, p, s.whole)

    -- stored so far: k numbers, and what is left to store
    module _ (old : List ℕ) where
      pub record Filling (out : List ℕ) (k i : ℕ) : Type 0 where
        pub stop : Stop i
        pub room : k + length (pick f i (n - i)) ≤ length out
        pub same : length out ≡ length old
        pub rest : sets out k (pick f i (n - i)) ≡ sets old 0 (pick f from (n - from))

      pub filling_start : length (pick f from (n - from)) ≤ length old → (i : ℕ) → i ≡ after f from n → Filling old 0 i
      filling_start l i e =
          let p = left-start from i h e in
          record { stop = stop_at from i h e; room = omega (arith, ap (λ (xs : List ℕ). length xs) p); same = refl; rest = ap (sets old 0) (sym p) }

      module _ (out : List ℕ) (k i : ℕ) (s : Filling out k i) where
        pub filling_room : i < n → k < length out
        filling_room l = let p = ap (λ (xs : List ℕ). length xs) (left-more i s.stop l (after f (i + 1) n) refl) in omega (arith, p, s.room)

        pub filling_more : i < n → (j : ℕ) → j ≡ after f (i + 1) n → Filling (set out k i) (k + 1) j
        filling_more l j e =
            let p = left-more i s.stop l j e in
            record {
              stop = stop_at (i + 1) j (omega arith) e;
              room = simp length-set (omega (arith, ap (λ (xs : List ℕ). length xs) p, s.room));
              same = simp length-set s.same;
              rest = rw (add-one k) (ap (sets out k) (sym p) ∙ s.rest);
            }

        pub filling_end : length (pick f from (n - from)) ≤ length old → n ≤ i → out ≡ pick f from (n - from) ++ drop (length (pick f from (n - from))) old
        filling_end r l =
            let all = pick f from (n - from) in
            let q = sets-eq all old 0 (omega (arith, r)) in
            (rw (left_end i s.stop l) at s.rest) ∙ (rw (zero-add (length all)) at q)

-- the answer, too short or not
pub too_short : (list lent : List ℕ) (n : ℕ) → n ≡ length list → length lent < n → Refused 12 0 ≡ storing Accepted list lent
unfolding storing
too_short list lent n e h = let t = lt-leb (length list) (length lent) (omega arith) in rw t

pub long_enough_lem : (list lent : List ℕ) (n : ℕ) → n ≡ length list → n ≤ length lent → Ok n ≡ storing Accepted list lent
unfolding storing
long_enough_lem list lent n e h = let t = le-leb (length list) (length lent) (omega arith) in rw t (ap Ok e)
