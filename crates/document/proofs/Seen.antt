-- Where the record pass stands at record i: every lower record was accepted, and its depth is kept. How it goes on from there.
use Rattle.std.specs.Prelude.{Ok, Err, Result}
use mathlib.Core.Path.{◌≡◌, sym, ◌∙◌, ap}
use mathlib.Core.Logic.{⊎_elim}
use mathlib.Core.Bool.{true, false}
use mathlib.Core.List.{List}
use Prim.Native.Nat.{ℕ, suc, ◌+◌, ◌≤◌, ◌<◌}
use native.Mathlib.Omega.{arith}
use lib.Dec.{leb}
use lib.ListN.{length, get_or, set}
use lib.Seq.{get_or-set_same, get_or-set_other}
use borrow.Author.Count.{below_more}
use borrow.Author.Tests.{lt-leb, le-leb, ne_eqb}
use Rattle.meaning.specs.declared.Node.{Node}
use Rattle.meaning.specs.Reading.{Accepted, Refused}
use Rattle.meaning.specs.Order.{need, and_then, earliest}
use Rattle.meaning.specs.Document.{Doc, node}
use Rattle.meaning.specs.Nodes.{parent_fits, depth, deepest, read_record}
use Rattle.meaning.proofs.Basics.{le_or_lt}
use Rattle.meaning.proofs.Says.{says}
use Rattle.meaning.proofs.Orders.{all-earliest}
use Rattle.meaning.proofs.Records.{depth-root, depth-up}
use Rattle.document.specs.Decoding.{decoded, depth_by}
use Rattle.document.proofs.Early.{earliest-at}
use Rattle.document.proofs.Rows.{record_refused, decoded-node, record_later, fits-lower}

pub record Seen (doc : Doc) (deep : List ℕ) (i : ℕ) : Type 0 where
  pub accepted : (j : ℕ) → j < i → read_record doc j ≡ Accepted
  pub depths : (j : ℕ) → j < i → get_or deep j 0 ≡ depth doc j

-- an accepted record has a fitting parent, and is not too deep
passed : (doc : Doc) (j : ℕ) → read_record doc j ≡ Accepted → (parent_fits doc j ≡ true) × (depth doc j ≤ deepest)
unfolding read_record
passed doc j e = let w = simp says at e in (w.1.1.0, w.1.1.1)

module _ (doc : Doc) where
  pub seen_start : (deep : List ℕ) → Seen doc deep 0
  seen_start deep = record { accepted = λ j h. absurd (omega arith); depths = λ j h. absurd (omega arith) }

  module _ (deep : List ℕ) (i : ℕ) (s : Seen doc deep i) where
    pub seen_end : doc.size ≤ i → Accepted ≡ earliest (read_record doc) 0 doc.size
    seen_end h = sym (all-earliest (read_record doc) 0 doc.size (λ j a b. s.accepted j (omega arith)))

    -- the depth of record i, n, by the kept one of its parent
    module _ (n : Node) (is : node doc i ≡ n) (t : parent_fits doc i ≡ true) where
      low : (i ≡ 0 → ⊥) → doc.parent i < i
      low z = fits-lower doc i z t

      pub depth-room : i < length deep → (i ≡ 0 → ⊥) → (n.parent < length deep) × (get_or deep n.parent 0 ≤ deepest)
      depth-room h z =
          let l = low z in
          rw (sym is) (omega arith, rw (s.depths (doc.parent i) l) (passed doc (doc.parent i) (s.accepted (doc.parent i) l)).1)

      lower : (j : ℕ) → 0 < j → j < suc i → doc.parent j < j
      lower j z h =
          ⊎_elim
          (λ (l : i ≤ j). let q : j ≡ i = omega arith in rw q (low (λ x. omega arith)))
          (λ (l : j < i). fits-lower doc j (λ x. omega arith) (passed doc j (s.accepted j l)).0)
          (le_or_lt i j)

      pub depth-kept : depth_by n.kind n.parent deep i ≡ depth doc i
      unfolding depth_by
      depth-kept =
          ⊎_elim
          (λ (z : i ≤ 0). let q : i ≡ 0 = omega arith in rw (sym is, q) (omega (arith, depth-root doc)))
          (λ (z : 0 < i).
          let up = depth-up doc (suc i) lower i z (omega arith) in
          rw (sym is, ne_eqb i 0 (λ x. omega arith), s.depths (doc.parent i) (low (λ x. omega arith))) (sym up))
          (le_or_lt i 0)

    -- record i, as it was gathered and decoded
    module _ (h : i < doc.size) (g : Node) (d : Result Node ℕ) (is : g ≡ node doc i) (by : d ≡ decoded g) where
      abbrev Answer : ℕ → Type 0
      Answer k = Refused k i ≡ earliest (read_record doc) 0 doc.size

      hit : (k : ℕ) → read_record doc i ≡ Refused k i → Answer k
      hit k e = sym (earliest-at (read_record doc) i k i 0 doc.size (omega arith) (omega arith) e (λ j a b. s.accepted j b))

      told : (x : Result Node ℕ) → d ≡ x → decoded (node doc i) ≡ x
      told x e = ap decoded (sym is) ∙ sym by ∙ e

      pub seen-refused : (j : ℕ) → d ≡ Err j → Answer j
      seen-refused j e = hit j (record_refused doc i j (told (Err j) e))

      module _ (n : Node) (e : d ≡ Ok n) where
        later : read_record doc i ≡ and_then (need (parent_fits doc i) 6 i) (need (leb (depth doc i) deepest) 8 i)
        later = record_later doc i n (told (Ok n) e)

        pub seen-node : node doc i ≡ n
        seen-node = decoded-node doc i n (told (Ok n) e)

        pub seen-6 : parent_fits doc i ≡ false → Answer 6
        seen-6 f = hit 6 (later ∙ rw f)

        module _ (t : parent_fits doc i ≡ true) (x : ℕ) (q : x ≡ depth_by n.kind n.parent deep i) where
          is-depth : x ≡ depth doc i
          is-depth = q ∙ depth-kept n seen-node t

          pub seen-8 : deepest < x → Answer 8
          seen-8 l = hit 8 (later ∙ rw (t, lt-leb (depth doc i) deepest (omega (arith, is-depth))))

          pub seen-on : x ≤ deepest → i < length deep → Seen doc (set deep i x) (i + 1)
          seen-on l r =
              record {
                accepted = below_more _ i s.accepted (later ∙ rw (t, le-leb (depth doc i) deepest (omega (arith, is-depth))));
                depths = below_more _ i
                    (λ j a. get_or-set_other deep i j x 0 (λ z. omega arith) ∙ s.depths j a)
                    (get_or-set_same deep i x 0 r ∙ is-depth);
              }
