-- What the call that writes records does with those of a text: where it writes, the bytes are the image of the records that the text lists.
use mathlib.Core.Path.{◌≡◌, refl}
use mathlib.Core.Bool.{Bool, true, false, ◌&&◌}
use mathlib.Core.List.{List}
use Prim.Native.Nat.{ℕ, ◌≤◌}
use native.Mathlib.Omega.{arith}
use borrow.Author.Tests.{leb-true}
use lib.Dec.{leb}
use lib.ListN.{length, take, drop}
use lib.Seq.{take_at}
use Rattle.meaning.specs.Reading.{Reading, Accepted}
use Rattle.std.specs.Prelude.{Ok, Err}
use Rattle.meaning.specs.Order.{need, and_then}
use Rattle.meaning.specs.Block.{limit}
use Rattle.meaning.specs.Document.{of_nodes}
use Rattle.meaning.specs.Nodes.{accept, image_of}
use Rattle.meaning.specs.Lent.{Lent, nodes_lent, long_enough, read_lent}
use Rattle.meaning.specs.Answer.{read_write, output_after, write_answer, write_image}
use Rattle.meaning.proofs.Basics.{and_r}

-- what is refused is not written
outcome : (y : Reading) (m : ℕ) {b : ℕ} → output_after y m ≡ Ok b → (y ≡ Accepted) × (m ≡ b)
outcome Accepted m e = (refl, cc)
outcome (Err why) m e = let wrong : ◌≡◌ {A = ℕ} 0 1 = cc in absurd (omega arith)

-- what is accepted has its first part accepted
accepted-first : (y z : Reading) → and_then y z ≡ Accepted → y ≡ Accepted
accepted-first Accepted z e = refl
accepted-first (Err why) z e = e

-- a test that did not refuse has passed
needed : (t : Bool) (k p : ℕ) → need t k p ≡ Accepted → t ≡ true
needed true k p e = refl
needed false k p e = let wrong : ◌≡◌ {A = ℕ} 0 1 = cc in absurd (omega arith)

module _ (n : ℕ) (c : Lent) (image : List ℕ) {b : ℕ} (e : write_answer n c image ≡ Ok b) where
  -- the records were accepted, and the image is so long
  accepted : (read_write n c image ≡ Accepted) × (length (image_of (nodes_lent n c)) ≡ b)
  unfolding write_answer
  accepted = outcome (read_write n c image) (length (image_of (nodes_lent n c))) e

  -- there are no more records than a document can have
  pub written_few : n ≤ limit
  unfolding read_write read_lent
  written_few =
      let few = leb 1 n && leb n limit in
      let lent = accepted-first (read_lent n c) (need (leb (length (image_of (nodes_lent n c))) (length image)) 12 0) accepted.0 in
      let test = accepted-first (need few 1 0) (and_then (need (long_enough n c) 12 0) (accept (of_nodes (nodes_lent n c)))) lent in
      leb-true n limit (and_r (leb 1 n) (leb n limit) (needed few 1 0 test))

  -- the bytes that were written
  pub written_image : take b (write_image n c image) ≡ image_of (nodes_lent n c)
  unfolding write_image
  written_image = rw e (take_at (image_of (nodes_lent n c)) (drop b image) b accepted.1)
