-- A block filled step by step: records one behind the other, and the whole of header, records, zeros and check; then block behind block.
use mathlib.Core.Path.{◌≡◌, refl, sym, ap, ◌∙◌}
use mathlib.Core.List.{List, [], ◌∷◌, ◌++◌, map, append_assoc, append-nil}
use Prim.Native.Nat.{ℕ, ◌+◌, ◌-◌, ◌*◌, ◌≤◌, min}
use native.Mathlib.Nat.{zero-add}
use native.Mathlib.Numerals.{add-one}
use native.Mathlib.Omega.{arith}
use lib.ListN.{length, take, drop, replicate, length-map}
use borrow.Rule.Slice.PartMut.{mid_of, put_mid}
use Rattle.meaning.specs.declared.Node.{Node}
use Rattle.meaning.specs.Walk.{listed}
use Rattle.meaning.specs.Bytes.{pair, quad}
use Rattle.meaning.specs.Block.{node_form, check, joined, padded, sealed, block_of, blocks_for, share, blocks_of}
use Rattle.meaning.specs.Nodes.{node_bytes, image_of}
use Rattle.meaning.specs.Lent.{Lent, node_at, nodes_lent}
use Rattle.meaning.proofs.Walks.{length_listed, get_d_listed, listed_more, map_listed}
use Rattle.numbers.specs.Put.{Put}
use Rattle.writer.specs.Filling.{bytes_from}
use Rattle.writer.proofs.Joins.{EachLong, length_joined}
use Rattle.writer.proofs.Stretches.{part_listed}
use Rattle.writer.proofs.WrittenBlock.{node-room, length_padded}
use Rattle.writer.proofs.ReadBack.{block_with, length_with}
use Rattle.writer.proofs.WrittenNodes.{bytes-long}
use Rattle.writer.proofs.Puts.{puts_on, put_as, put_front, put-lent}

-- a record has 20 bytes
pub bytes-twenty : (n : Node) → length (node_bytes n) ≡ 20
unfolding node_bytes
bytes-twenty n = refl

-- stretches joined, and one more
joined-more : (ss : List (List ℕ)) (s : List ℕ) → joined (ss ++ (s ∷ [])) ≡ joined ss ++ s
unfolding joined
joined-more [] s = append-nil s
joined-more (t ∷ ss) s = ap (λ (u : List ℕ). t ++ u) (joined-more ss s) ∙ sym (append_assoc t (joined ss) s)

-- stretches of one length that a function gives
module _ (w : ℕ) (g : ℕ → List ℕ) (long : (k : ℕ) → length (g k) ≡ w) where
  each_long : (n : ℕ) → EachLong w (listed g 0 n)
  each_long n i h = ap length (get_d_listed g 0 n i [] (omega (arith, length_listed g 0 n))) ∙ long (0 + i)

  joined-long : (n : ℕ) → length (joined (listed g 0 n)) ≡ w * n
  joined-long n = length_joined w (listed g 0 n) (each_long n) ∙ ap (λ (m : ℕ). w * m) (length_listed g 0 n)

  -- none of them yet
  pub joined-none : {l : List ℕ} {at : ℕ} → Put l at (joined (listed g 0 0)) l
  unfolding joined listed
  joined-none = record { is = refl }

  -- one behind those before it
  pub joined-put : {l m o : List ℕ} {at k : ℕ} {s : List ℕ} → Put l at (joined (listed g 0 k)) m → Put m (at + w * k) s o → s ≡ g k → Put l at (joined (listed g 0 (k + 1))) o
  joined-put {k = k} p q e =
      let next : listed g 0 k ++ (g k ∷ []) ≡ listed g 0 (k + 1) = rw (add-one) (rw zero-add at (sym (listed_more g 0 k))) in
      put_as (puts_on p (omega (arith, joined-long k)) (put_as q e)) (sym (joined-more (listed g 0 k) (g k)) ∙ ap joined next)

-- the records of block b, of n in the columns, one by one
share-lent : (n b m : ℕ) (c : Lent) → m ≡ min 25 (n - 25 * b) → share node_form b (map node_bytes (nodes_lent n c)) ≡ listed (bytes_from c (25 * b)) 0 m
unfolding share nodes_lent
share-lent n b m c e =
    ap (λ (rs : List (List ℕ)). take 25 (drop (25 * b) rs)) (map_listed node_bytes (node_at c) 0 n)
    ∙ part_listed (λ i. node_bytes (node_at c i)) (bytes_from c (25 * b)) (25 * b) 25 n m (sym e) (λ k h. refl)

-- a block's 508 bytes before the check, with m records that together have 20 each
module _ (b : ℕ) (rs : List (List ℕ)) (m : ℕ) (many : length rs ≡ m) (long : length (joined rs) ≡ 20 * m) where
  abbrev front : List ℕ
  front = padded 508 (quad b ++ (pair (length rs) ++ (1 ∷ 0 ∷ joined rs)))

  -- header, records and zeros are such bytes ..
  front_bytes : quad b ++ (pair m ++ (1 ∷ 0 ∷ [])) ++ joined rs ++ replicate (508 - (8 + 20 * m)) 0 ≡ front
  unfolding padded
  front_bytes =
      let rest : 508 - (8 + 20 * m) ≡ 508 - length (quad b ++ (pair (length rs) ++ (1 ∷ 0 ∷ joined rs))) = omega arith in
      rw (many, rest)

  -- .. and 508 of them
  front_long : m ≤ 25 → length front ≡ 508
  front_long few = length_padded 508 _ (omega arith)

  -- with the check behind them they are the block
  pub block_put : {l l₁ l₂ l₃ l₄ : List ℕ} {k : ℕ} → m ≤ 25 → 512 ≤ length l
      → Put l 0 (quad b ++ (pair m ++ (1 ∷ 0 ∷ []))) l₁ → Put l₁ 8 (joined rs) l₂ → Put l₂ (8 + 20 * m) (replicate (508 - (8 + 20 * m)) 0) l₃
      → k ≡ check (take (508 - 0) l₃) → Put l₃ 508 (quad k) l₄ → Put l 0 (block_of node_form b rs) l₄
  unfolding block_of sealed
  block_put {l} {l₃ = l₃} {k = k} few room head body zeros checked end =
      let before : Put l 0 front l₃ = put_as (puts_on (puts_on head refl body) (omega arith) zeros) front_bytes in
      let here : take (508 - 0) l₃ ≡ front = ap (take 508) before.is ∙ put_front l front 508 (front_long few) (omega arith) in
      put_as (puts_on before (omega (arith, front_long few)) end) (ap (λ (x : ℕ). front ++ quad x) (checked ∙ ap check here))

-- block b of the records in the columns, filled in step by step
pub block_filled : (n b m : ℕ) (c : Lent) → m ≡ min 25 (n - 25 * b) → {l l₁ l₂ l₃ l₄ : List ℕ} {k : ℕ} → 512 ≤ length l
    → Put l 0 (quad b ++ (pair m ++ (1 ∷ 0 ∷ []))) l₁ → Put l₁ 8 (joined (listed (bytes_from c (25 * b)) 0 m)) l₂
    → Put l₂ (8 + 20 * m) (replicate (508 - (8 + 20 * m)) 0) l₃ → k ≡ check (take (508 - 0) l₃) → Put l₃ 508 (quad k) l₄
    → Put l 0 (block_of node_form b (share node_form b (map node_bytes (nodes_lent n c)))) l₄
block_filled n b m c e room head body zeros checked end =
    let rs = listed (bytes_from c (25 * b)) 0 m in
    put_as (block_put b rs m (length_listed _ 0 m) (joined-long 20 _ (λ k. bytes-twenty _) m) (omega arith) room head body zeros checked end)
    (ap (block_of node_form b) (sym (share-lent n b m c e)))

-- the blocks of the records in the columns, one behind the other
module _ (n : ℕ) (c : Lent) where
  abbrev pub block_at : ℕ → List ℕ
  block_at b = block_with node_form (map node_bytes (nodes_lent n c)) b

  block_long : (b : ℕ) → length (block_at b) ≡ 512
  block_long b = length_with node_form node-room (map node_bytes (nodes_lent n c)) (bytes-long (nodes_lent n c)) b

  -- none yet
  pub blocks-none : {l : List ℕ} → Put l 0 (joined (listed block_at 0 0)) l
  blocks-none = joined-none 512 block_at block_long

  -- block b, in the part of the image that is lent from its own place on
  pub blocks_more : (l m part : List ℕ) (b : ℕ) → length m ≡ length l → 512 * (b + 1) ≤ length l → Put l 0 (joined (listed block_at 0 b)) m
      → Put (mid_of (512 * b) (length m - 512 * b) m) 0 (block_at b) part → Put l 0 (joined (listed block_at 0 (b + 1))) (put_mid (512 * b) (length m - 512 * b) m part)
  blocks_more l m part b same room before put =
      let at_place = put-lent m part (512 * b) (block_at b) (omega (arith, block_long b)) put in
      joined-put 512 block_at block_long before (rw zero-add at_place) refl

  -- all of them are the image
  pub blocks-all : (l m : List ℕ) (b : ℕ) → b ≡ blocks_for node_form n → Put l 0 (joined (listed block_at 0 b)) m → Put l 0 (image_of (nodes_lent n c)) m
  unfolding image_of blocks_of nodes_lent
  blocks-all l m b e p =
      let count : length (map node_bytes (nodes_lent n c)) ≡ n = length-map (nodes_lent n c) node_bytes ∙ length_listed (node_at c) 0 n in
      put_as p (ap (λ (k : ℕ). joined (listed block_at 0 k)) (e ∙ ap (blocks_for node_form) (sym count)))
