-- The answer of `write_nodes` and what it leaves in the lent image, by the way out: refused by the records, too short an image, written.
use mathlib.Core.Path.{◌≡◌, sym, ap, ◌∙◌}
use mathlib.Core.List.{List, ◌++◌}
use Prim.Native.Nat.{ℕ, ◌*◌, ◌≤◌, ◌<◌}
use native.Mathlib.Omega.{arith}
use borrow.Author.Tests.{le-leb, lt-leb}
use lib.ListN.{length, drop}
use Rattle.meaning.specs.Reading.{Reading, Accepted, Refused}
use Rattle.std.specs.Prelude.{Ok}
use Rattle.meaning.specs.Block.{node_form, limit, blocks_for}
use Rattle.meaning.specs.Document.{of_nodes}
use Rattle.meaning.specs.Nodes.{image_of, accept}
use Rattle.meaning.specs.Lent.{Lent, node_at, nodes_lent, read_lent}
use Rattle.meaning.specs.Answer.{read_write, write_answer, write_image}
use Rattle.meaning.proofs.Says.{says}
use Rattle.meaning.proofs.Walks.{length_listed}
use Rattle.numbers.specs.Put.{Put}
use Rattle.writer.specs.Filling.{Reaches}
use Rattle.writer.specs.Promise.{WritePromise}
use Rattle.writer.proofs.WrittenNodes.{image-length}
use Rattle.writer.proofs.Puts.{put_rest}

-- as many records as were counted
pub lent-count : (n : ℕ) (c : Lent) → length (nodes_lent n c) ≡ n
unfolding nodes_lent
lent-count n c = length_listed (node_at c) 0 n

-- what columns satisfy that are not refused
pub record LentSound (n : ℕ) (c : Lent) : Type 0 where
  pub some : 1 ≤ n
  pub few : n ≤ limit
  pub held : Reaches n c
  pub document : accept (of_nodes (nodes_lent n c)) ≡ Accepted

pub lent-sound : (n : ℕ) (c : Lent) → read_lent n c ≡ Accepted → LentSound n c
unfolding read_lent
lent-sound n c e =
    let p = simp says at e in
    let q = p.1.0 in
    record {
      some = p.0.0;
      few = p.0.1;
      held = record { kind = omega arith; vkind = omega arith; name = omega arith; parent = omega arith; begin = omega arith; end = omega arith; value = omega arith; item = omega arith };
      document = p.1.1;
    }

module _ (n : ℕ) (c : Lent) (image : List ℕ) {y : Reading} (ey : y ≡ read_lent n c) where
  -- refused by the records, or by the columns
  pub write_refused : {k p : ℕ} → y ≡ Refused k p → WritePromise n c image (Refused k p) image
  unfolding write_answer write_image read_write
  write_refused r = let e = sym ey ∙ r in (rw e, rw e)

  module _ (a : y ≡ Accepted) where
    pub accepted-sound : LentSound n c
    accepted-sound = lent-sound n c (sym ey ∙ a)

    module _ (s : ℕ) (size : s ≡ 512 * blocks_for node_form n) where
      long : length (image_of (nodes_lent n c)) ≡ s
      long = image-length (nodes_lent n c) ∙ ap (λ (m : ℕ). 512 * blocks_for node_form m) (lent-count n c) ∙ sym size

      -- refused by the image's length
      pub write_short : length image < s → WritePromise n c image (Refused 12 0) image
      unfolding write_answer write_image read_write
      write_short h = let e = sym ey ∙ a in let t = lt-leb s (length image) h in (rw (e, long, t), rw (e, long, t))

      -- written
      pub write_done : s ≤ length image → {after : List ℕ} → Put image 0 (image_of (nodes_lent n c)) after → WritePromise n c image (Ok s) after
      unfolding write_answer write_image read_write
      write_done h p =
          let e = sym ey ∙ a in
          let t = le-leb s (length image) h in
          let there = p.is ∙ put_rest image (image_of (nodes_lent n c)) (omega (arith, long)) in
          (rw (e, long, t), rw (e, long, t) (there ∙ ap (λ (k : ℕ). image_of (nodes_lent n c) ++ drop k image) long))
