-- Laws of a column that is filled from the front, over any kind of entry.
use mathlib.Core.Path.{◌≡◌, refl, ap, ◌∙◌}
use mathlib.Core.List.{List, [], ◌∷◌, append_assoc}
use Prim.Native.Nat.{ℕ, suc, ◌+◌, ◌*◌, ◌/◌, ◌%◌, ◌≤◌, ◌<◌}
use native.Mathlib.Numerals.{add-one}
use native.Mathlib.Omega.{arith}
use lib.ListN.{length, get_or, drop, set, length-append, length-drop}
use lib.Seq.{drop-cons, set_at}
use Rattle.meaning.specs.Walk.{listed}
use Rattle.meaning.specs.Block.{node_form}
use Rattle.meaning.proofs.Walks.{length_listed, listed_more}
use Rattle.block.specs.Fair.{Part}
use Rattle.nodes.specs.Filled.{filled, Grows}

-- record k of block b, among all
pub placed : {image part : List ℕ} (b k : ℕ) → ((i : ℕ) → 512 * b ≡ 512 * (i / 25) → k ≡ i % 25 → Part node_form image i part) → k < 25 → Part node_form image (25 * b + k) part
placed b k p h = p (25 * b + k) (omega arith) (omega arith)

module _ {A : Type 0} (f : ℕ → A) where
  pub filled_none : (old : List A) → old ≡ filled f 0 old
  unfolding filled listed
  filled_none old = refl

  pub filled_more : (i : ℕ) (old out : List A) (x : A) → i < length old → out ≡ filled f i old → x ≡ f i → set out i x ≡ filled f (i + 1) old
  unfolding filled
  filled_more i old out x h e p =
      let z : 0 + i ≡ i = omega arith in
      rw (add-one, e, p, drop-cons old i (f i) h, listed_more f 0 i, z, append_assoc (listed f 0 i) (f i ∷ []) (drop (suc i) old))
      (set_at (listed f 0 i) (get_or old i (f i)) (drop (suc i) old) (f i) i (length_listed f 0 i))

  -- as many, counted otherwise
  pub filled-as : (i n : ℕ) (old out : List A) → i ≤ n → n ≤ i → out ≡ filled f i old → out ≡ filled f n old
  filled-as i n old out a b e = let q : i ≡ n = omega arith in e ∙ ap (λ k. filled f k old) q

  -- and there was room for them
  pub filled-room : (n : ℕ) (old out : List A) → out ≡ filled f n old → n ≤ length out
  unfolding filled
  filled-room n old out e = omega (arith, ap length e, length-append (listed f 0 n) (drop n old), length_listed f 0 n)

  -- a block's part of a column: none yet, one more, all
  pub grows_none : (i : ℕ) (out : List A) → Grows f i 0 out out
  grows_none i out old e = filled-as i (i + 0) old out (omega arith) (omega arith) e

  pub grows_more : (i k : ℕ) (before out : List A) (x : A) → i + k < length before → Grows f i k before out → x ≡ f (i + k) → Grows f i (k + 1) before (set out (i + k) x)
  unfolding filled
  grows_more i k before out x h g p old e =
      let long : length before ≡ i + length (drop i old) = ap length e ∙ length-append (listed f 0 i) (drop i old) ∙ ap (λ (m : ℕ). m + length (drop i old)) (length_listed f 0 i) in
      let room : i + k < length old = omega (arith, long, length-drop i old) in
      filled-as (i + k + 1) (i + (k + 1)) old (set out (i + k) x) (omega arith) (omega arith) (filled_more (i + k) old out x room (g old e) p)

  pub grows_all : (i k m : ℕ) (before out : List A) → k ≤ m → m ≤ k → Grows f i k before out → Grows f i m before out
  grows_all i k m before out a b g old e = filled-as (i + k) (i + m) old out (omega arith) (omega arith) (g old e)
