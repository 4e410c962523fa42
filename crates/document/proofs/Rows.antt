-- The tests of one record, as the record pass makes them, are those of the meaning.
use Rattle.std.specs.Prelude.{Ok, Err, Result}
use mathlib.Core.Path.{◌≡◌, refl, sym, ◌∙◌}
use mathlib.Core.Bool.{Bool, true, false, ◌&&◌, ◌||◌, cond}
use Prim.Native.Nat.{ℕ, zero, suc, ◌≤◌, ◌<◌}
use native.Mathlib.Omega.{arith}
use lib.Dec.{leb, ltb, eqb}
use borrow.Author.Tests.{ltb-true, lt-ltb, le-ltb}
use Rattle.meaning.specs.declared.Node.{Node}
use Rattle.meaning.specs.Reading.{Reading, Refused}
use Rattle.meaning.specs.Order.{need, and_then}
use Rattle.meaning.specs.Document.{Doc, node, is_item, is_version}
use Rattle.meaning.specs.Nodes.{node_fields, parent_fits, depth, deepest, read_record}
use Rattle.meaning.proofs.Basics.{and_l}
use Rattle.document.specs.Decoding.{decoded}

-- 4 and 5: what is decoded, by the two tests
abbrev by : Bool → Bool → Node → Result Node ℕ
by a b n = cond a (cond b (Ok n) (Err 5)) (Err 4)

by-node : (a b : Bool) (n m : Node) → by a b n ≡ Ok m → (a ≡ true) × (b ≡ true) × (n ≡ m)
by-node true true n m e = (refl, refl, cc)
by-node true false n m e = let z : ◌≡◌ {A = ℕ} 0 1 = cc in absurd (omega arith)
by-node false b n m e = let z : ◌≡◌ {A = ℕ} 0 1 = cc in absurd (omega arith)

by-refused : (a b : Bool) (n : Node) (k i : ℕ) (rest : Reading) → by a b n ≡ Err k
    → and_then (need a 4 i) (and_then (need b 5 i) rest) ≡ Refused k i
by-refused true true n k i rest e = let z : ◌≡◌ {A = ℕ} 0 1 = cc in absurd (omega arith)
by-refused true false n k i rest e = let z : 5 ≡ k = cc in rw z
by-refused false b n k i rest e = let z : 4 ≡ k = cc in rw z

module _ (doc : Doc) (i : ℕ) where
  -- 6 and 8, of a record that was decoded
  abbrev later : Reading
  later = and_then (need (parent_fits doc i) 6 i) (need (leb (depth doc i) deepest) 8 i)

  pub record_refused : (k : ℕ) → decoded (node doc i) ≡ Err k → read_record doc i ≡ Refused k i
  unfolding decoded read_record
  record_refused k e = by-refused (eqb (doc.spare i) 0) (node_fields (node doc i)) (node doc i) k i later e

  module _ (n : Node) (e : decoded (node doc i) ≡ Ok n) where
    tests : (eqb (doc.spare i) 0 ≡ true) × (node_fields (node doc i) ≡ true) × (node doc i ≡ n)
    unfolding decoded
    tests = by-node (eqb (doc.spare i) 0) (node_fields (node doc i)) (node doc i) n e

    pub decoded-node : node doc i ≡ n
    decoded-node = tests.2

    pub record_later : read_record doc i ≡ later
    unfolding read_record
    record_later = rw (tests.0, tests.1)

  -- 6: a later record's parent is lower and of the other kind
  abbrev other : ℕ → Bool
  other p = (is_item doc i && is_version doc p) || (is_version doc i && is_item doc p)

  fits-later : (i ≡ 0 → ⊥) → parent_fits doc i ≡ (ltb (doc.parent i) i && other (doc.parent i))
  unfolding parent_fits
  fits-later = go i
    where
      go : (k : ℕ) → (k ≡ 0 → ⊥) → parent_fits doc k ≡ (ltb (doc.parent k) k && ((is_item doc k && is_version doc (doc.parent k)) || (is_version doc k && is_item doc (doc.parent k))))
      go zero z = absurd (z refl)
      go (suc k) z = refl

  pub fits-lower : (i ≡ 0 → ⊥) → parent_fits doc i ≡ true → doc.parent i < i
  fits-lower z t = ltb-true (doc.parent i) i (and_l (ltb (doc.parent i) i) (other (doc.parent i)) (sym (fits-later z) ∙ t))

  -- 6, by a parent p that was read: at record 0, where p is not lower, and where it is
  module _ (p : ℕ) (q : p ≡ doc.parent i) where
    pub fits-root : i ≡ 0 → parent_fits doc i ≡ (is_item doc i && eqb p 65535)
    unfolding parent_fits
    fits-root z = rw (q, z)

    pub fits-high : (i ≡ 0 → ⊥) → i ≤ p → parent_fits doc i ≡ false
    fits-high z h = fits-later z ∙ rw (sym q, le-ltb p i h)

    pub fits_by : (i ≡ 0 → ⊥) → p < i → parent_fits doc i ≡ other p
    fits_by z h = fits-later z ∙ rw (sym q, lt-ltb p i h)

-- 6 reads the kinds and the parents alone
pub fits-same : (a b : Doc) (i : ℕ) → a.kind ≡ b.kind → a.parent ≡ b.parent → parent_fits a i ≡ parent_fits b i
unfolding parent_fits
fits-same a b zero p q = rw (p, q)
fits-same a b (suc i) p q = rw (p, q)
