-- Lent columns: their first n entries are the document of their first n records, and which refusal comes ahead of its tests.
use mathlib.Core.Path.{◌≡◌, refl, sym, ap, ◌∙◌}
use mathlib.Core.Bool.{Bool, true, false, not, ◌&&◌}
use mathlib.Core.List.{List, ◌∷◌, map}
use Prim.Native.Nat.{ℕ, zero, suc, ◌≤◌}
use native.Mathlib.Omega.{arith}
use borrow.Author.Tests.{not-true, not-false}
use lib.IntN.{pos}
use lib.Dec.{leb}
use lib.ListN.{length, get_or, take, replicate, length-replicate}
use Rattle.meaning.specs.declared.Node.{Node}
use Rattle.meaning.specs.Reading.{Reading, Refused}
use Rattle.meaning.specs.Walk.{listed}
use Rattle.meaning.specs.Block.{limit}
use Rattle.meaning.specs.Document.{columns, of_nodes}
use Rattle.meaning.specs.Nodes.{accept}
use Rattle.meaning.specs.Lent.{Lent, node_at, nodes_lent, long_enough, read_lent}
use Rattle.meaning.proofs.Says.{says}
use Rattle.meaning.proofs.Walks.{map_listed, listed-front}
use Rattle.document.specs.Front.{Front}

-- the first of a column of zeros
zeros-front : (m n i : ℕ) → n ≤ m → take {A = ℕ} n (replicate m 0) ≡ listed (λ (k : ℕ). 0) i n
unfolding listed
zeros-front m zero i h = refl
zeros-front zero (suc n) i h = absurd (omega arith)
zeros-front (suc m) (suc n) i h = ap (λ (l : List ℕ). 0 ∷ l) (zeros-front m n (suc i) (omega arith))

module _ (n : ℕ) (c : Lent) where
  -- one field of the first n records is the first n entries of its column
  field_lent : {A : Type 0} (field : Node → A) (other : A) (s : List A) → ◌≡◌ {A = ℕ → A} (λ i. field (node_at c i)) (λ i. get_or s i other) → n ≤ length s → take n s ≡ map field (nodes_lent n c)
  unfolding nodes_lent
  field_lent {A} field other s e h = sym (map_listed field (node_at c) 0 n ∙ ap (λ (f : ℕ → A). listed f 0 n) e ∙ listed-front other s n h)

  -- all nine, the spare one made of zeros
  pub lent-document : n ≤ limit → long_enough n c ≡ true
      → columns (take n c.kind) (take n c.vkind) (take n c.name) (take n c.parent) (take n c.begin) (take n c.end) (take n c.value) (take n c.item) (take {A = ℕ} n (replicate limit 0)) ≡ of_nodes (nodes_lent n c)
  unfolding of_nodes nodes_lent
  lent-document few e =
      let p = simp says at e in
      let kind = field_lent (λ (m : Node). m.kind) 0 c.kind refl (omega arith) in
      let vkind = field_lent (λ (m : Node). m.vkind) 0 c.vkind refl (omega arith) in
      let name = field_lent (λ (m : Node). m.name) 0 c.name refl (omega arith) in
      let parent = field_lent (λ (m : Node). m.parent) 0 c.parent refl (omega arith) in
      let begin = field_lent (λ (m : Node). m.begin) 0 c.begin refl (omega arith) in
      let end = field_lent (λ (m : Node). m.end) 0 c.end refl (omega arith) in
      let value = field_lent (λ (m : Node). m.value) (pos 0) c.value refl (omega arith) in
      let item = field_lent (λ (m : Node). m.item) 0 c.item refl (omega arith) in
      let spare : take {A = ℕ} n (replicate limit 0) ≡ map (λ (m : Node). m.spare) (nodes_lent n c) = zeros-front limit n 0 few ∙ sym (map_listed (λ (m : Node). m.spare) (node_at c) 0 n) in
      λ j. columns (kind j) (vkind j) (name j) (parent j) (begin j) (end j) (value j) (item j) (spare j)

  module _ {t : Bool} (et : t ≡ (leb 1 n && leb n limit)) where
    -- 1: none or too many
    pub lent-uncountable : not t ≡ true → Refused 1 0 ≡ read_lent n c
    unfolding read_lent
    lent-uncountable y = rw (← et, not-true t y)

    module _ (counted : not t ≡ false) {w : Bool} (ew : w ≡ long_enough n c) where
      -- 12: a short column
      pub lent-short : not w ≡ true → Refused 12 0 ≡ read_lent n c
      unfolding read_lent
      lent-short y = rw (← et, not-false t counted, ← ew, not-true w y)

      module _ (long : not w ≡ false) where
        -- enough of each, and of the column of zeros
        pub lent-front : Front n (length c.kind) (length c.vkind) (length c.name) (length c.parent) (length c.begin) (length c.end) (length c.value) (length c.item) (length (replicate {A = ℕ} limit 0))
        lent-front =
            let q = simp says at (sym et ∙ not-false t counted) in
            let p = simp says at (sym ew ∙ not-false w long) in
            let zeros : length (replicate {A = ℕ} limit 0) ≡ limit = length-replicate {A = ℕ} limit 0 in
            record { few = omega arith; kind = omega arith; vkind = omega arith; name = omega arith; parent = omega arith; begin = omega arith; end = omega arith; value = omega arith; item = omega arith; spare = omega (arith, zeros) }

        -- the document's own answer
        pub lent-tested : {y : Reading}
            → y ≡ accept (columns (take n c.kind) (take n c.vkind) (take n c.name) (take n c.parent) (take n c.begin) (take n c.end) (take n c.value) (take n c.item) (take {A = ℕ} n (replicate limit 0)))
            → y ≡ read_lent n c
        unfolding read_lent
        lent-tested e =
            let q = simp says at (sym et ∙ not-false t counted) in
            let d = lent-document (omega arith) (sym ew ∙ not-false w long) in
            rw (← et, not-false t counted, ← ew, not-false w long) (e ∙ ap accept d)
