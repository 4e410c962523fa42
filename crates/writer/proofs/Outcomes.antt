-- What an answer of `write_nodes`, and the lent image afterwards, say of the records and of the image: by which refusal, or what was written.
use mathlib.Core.Path.{◌≡◌, refl, sym, ap, ◌∙◌}
use mathlib.Core.Logic.{◌↔◌}
use mathlib.Core.Bool.{Bool, true, false, ◌&&◌}
use mathlib.Core.List.{List, ◌++◌}
use Prim.Native.Nat.{ℕ, ◌+◌, ◌*◌, ◌≤◌, ◌<◌}
use native.Mathlib.Omega.{arith}
use borrow.Author.Tests.{leb-true, le-leb}
use lib.Dec.{leb}
use lib.IntN.{pos}
use lib.Signed.{mag}
use lib.ListN.{length, get_or, take, drop}
use lib.Seq.{take_at, drop_at}
use Rattle.meaning.specs.Reading.{Reading, Accepted, Refused}
use Rattle.std.specs.Prelude.{Result, Ok, Err}
use Rattle.meaning.specs.declared.Refusal.{Refusal}
use Rattle.meaning.specs.declared.Node.{Node}
use Rattle.meaning.specs.Order.{need, and_then}
use Rattle.meaning.specs.Block.{node_form, limit, blocks_for}
use Rattle.meaning.specs.Nodes.{nodes_of, image_of, read_nodes}
use Rattle.meaning.specs.Lent.{Lent, node_at, nodes_lent, read_lent, long_enough}
use Rattle.meaning.specs.Answer.{output_after, image_after, read_write, write_answer, write_image}
use Rattle.meaning.proofs.Says.{says}
use Rattle.meaning.proofs.Walks.{map_listed, get_d_listed}
use Rattle.meaning.proofs.Unique.{output_unique}
use Rattle.meaning.proofs.Orders.{contrary, refused_alike, then_accepted, need-accepted}
use Rattle.writer.specs.Promise.{WritePromise}
use Rattle.writer.proofs.WrittenNodes.{ValuesFit, image-length, image-records, image-read}
use Rattle.writer.proofs.Writes.{lent-count, LentSound, lent-sound}

-- each value is a number of 32 bits, as the column's type says
abbrev pub Fitting : ℕ → Lent → Type 0
Fitting n c = (i : ℕ) → i < n → mag (get_or c.value i (pos 0)) < 2147483648

fitting : (n : ℕ) (c : Lent) → Fitting n c → ValuesFit (nodes_lent n c)
unfolding nodes_lent
fitting n c f i h =
    let l : i < n = rw (lent-count n c) at h in
    let e : 0 + i ≡ i = omega arith in
    rw (map_listed (λ (m : Node). m.value) (node_at c) 0 n, get_d_listed (λ k. (node_at c k).value) 0 n i (pos 0) l, e) (f i l)

-- an answer by a reading
as_read : (y : Reading) (m a b : ℕ) → (output_after y m ≡ Refused a b) ↔ (y ≡ Refused a b)
as_read Accepted m a b = (λ e. let z : ◌≡◌ {A = ℕ} 0 1 = cc in absurd (omega arith), λ e. absurd (contrary refl e))
as_read (Err why) m a b = (λ e. (cc), λ e. (cc))

as_written : (y : Reading) (m k : ℕ) → output_after y m ≡ Ok k → (y ≡ Accepted) × (k ≡ m)
as_written Accepted m k e = (refl, cc)
as_written (Err why) m k e = let z : ◌≡◌ {A = ℕ} 0 1 = cc in absurd (omega arith)

-- a refusal with another number than a test's own: the test passed, and the refusal came from what follows it ..
refused_later : (t : Bool) (k p : ℕ) (y : Reading) (a b : ℕ) → (a ≡ k → ⊥) → and_then (need t k p) y ≡ Refused a b → (t ≡ true) × (y ≡ Refused a b)
refused_later true k p y a b other e = (refl, e)
refused_later false k p y a b other e = absurd (other (sym (refused_alike e).0))

-- .. or from what comes before it
refused_sooner : (y : Reading) (t : Bool) (k p a b : ℕ) → (a ≡ k → ⊥) → and_then y (need t k p) ≡ Refused a b → y ≡ Refused a b
refused_sooner Accepted true k p a b other e = absurd (contrary refl e)
refused_sooner Accepted false k p a b other e = absurd (other (sym (refused_alike e).0))
refused_sooner (Err why) t k p a b other e = e

module _ (n : ℕ) (c : Lent) (image : List ℕ) {x : Result ℕ Refusal} {after : List ℕ} (p : WritePromise n c image x after) where
  answer : x ≡ write_answer n c image
  answer = output_unique x (write_answer n c image) p.0

  -- refused as the records, the columns and the image's length are
  pub refused_as_read : (a b : ℕ) → (x ≡ Refused a b) ↔ (read_write n c image ≡ Refused a b)
  unfolding write_answer
  refused_as_read a b =
      let w = as_read (read_write n c image) (length (image_of (nodes_lent n c))) a b in
      (λ e. w.0 (sym answer ∙ e), λ e. answer ∙ w.1 e)

  -- then every byte is as it was
  pub refused_kept : (a b : ℕ) → x ≡ Refused a b → after ≡ image
  unfolding write_image
  refused_kept a b e = p.1 ∙ ap (λ (y : Result ℕ Refusal). image_after y (image_of (nodes_lent n c)) image) (sym answer ∙ e)

  module _ (m : ℕ) (e : x ≡ Ok m) where
    read-well : (read_write n c image ≡ Accepted) × (m ≡ length (image_of (nodes_lent n c)))
    unfolding write_answer
    read-well = as_written (read_write n c image) (length (image_of (nodes_lent n c))) m (sym answer ∙ e)

    -- written: the records and the columns are sound, ..
    pub written_sound : LentSound n c
    unfolding read_write
    written_sound = lent-sound n c (then_accepted (read_lent n c) _ read-well.0).0

    -- .. m is the length of their image, and there is room for it, ..
    pub written_long : m ≡ length (image_of (nodes_lent n c))
    written_long = read-well.1

    pub written_size : m ≡ 512 * blocks_for node_form n
    written_size = written_long ∙ image-length (nodes_lent n c) ∙ ap (λ (k : ℕ). 512 * blocks_for node_form k) (lent-count n c)

    pub written_room : m ≤ length image
    unfolding read_write
    written_room =
        let long = length (image_of (nodes_lent n c)) in
        let t = need-accepted (leb long (length image)) 12 0 (then_accepted (read_lent n c) _ read-well.0).1 in
        omega (arith, written_long, leb-true long (length image) t)

    -- .. and the lent image holds it, and past it what it held
    pub written_bytes : after ≡ image_of (nodes_lent n c) ++ drop m image
    unfolding write_image
    written_bytes = p.1 ∙ ap (λ (y : Result ℕ Refusal). image_after y (image_of (nodes_lent n c)) image) (sym answer ∙ e)

    pub written_front : take m after ≡ image_of (nodes_lent n c)
    written_front = ap (take m) written_bytes ∙ take_at (image_of (nodes_lent n c)) (drop m image) m (sym written_long)

    pub written_rest : drop m after ≡ drop m image
    written_rest = ap (drop m) written_bytes ∙ drop_at (image_of (nodes_lent n c)) (drop m image) m (sym written_long)

    -- the reader accepts what was written, and gives the same records
    pub written_accepted : Fitting n c → read_nodes (take m after) ≡ Accepted
    written_accepted f =
        let s = written_sound in
        let count = lent-count n c in
        rw (written_front, image-read (nodes_lent n c) (omega (arith, count, s.some)) (omega (arith, count, s.few)) (fitting n c f)) s.document

    pub written_records : Fitting n c → nodes_of (take m after) ≡ nodes_lent n c
    written_records f =
        let s = written_sound in
        rw written_front (image-records (nodes_lent n c) (omega (arith, lent-count n c, s.some)) (fitting n c f))

  -- with a count and columns that are taken, the image of the records is refused as the call is
  pub refused_as_image : 1 ≤ n → n ≤ limit → long_enough n c ≡ true → Fitting n c → (a b : ℕ) → read_nodes (image_of (nodes_lent n c)) ≡ Refused a b → x ≡ Refused a b
  unfolding read_write read_lent
  refused_as_image one few long f a b e =
      let count = lent-count n c in
      let read = image-read (nodes_lent n c) (omega (arith, count)) (omega (arith, count)) (fitting n c f) in
      (refused_as_read a b).1 (rw (both_true one few, long, sym read ∙ e))
    where
      both_true : 1 ≤ n → n ≤ limit → leb 1 n && leb n limit ≡ true
      both_true h k = simp says (h, k)

  -- what is refused with another number than 1 and 12 is refused by the document of the records, and so by the reader of their image
  pub image-refused_so : Fitting n c → (a b : ℕ) → (a ≡ 1 → ⊥) → (a ≡ 12 → ⊥) → x ≡ Refused a b → read_nodes (image_of (nodes_lent n c)) ≡ Refused a b
  unfolding read_write read_lent
  image-refused_so f a b not-1 not-12 e =
      let r = (refused_as_read a b).0 e in
      let count = lent-count n c in
      let one = refused_later (leb 1 n && leb n limit) 1 0 _ a b not-1 (refused_sooner _ (leb (length (image_of (nodes_lent n c))) (length image)) 12 0 a b not-12 r) in
      let two = refused_later (long_enough n c) 12 0 _ a b not-12 one.1 in
      let q = simp says at one.0 in
      image-read (nodes_lent n c) (omega (arith, count)) (omega (arith, count)) (fitting n c f) ∙ two.1

  -- columns that are not refused, and room for their image: it is written
  pub accepted-written : read_lent n c ≡ Accepted → length (image_of (nodes_lent n c)) ≤ length image
      → (x ≡ Ok (length (image_of (nodes_lent n c)))) × (after ≡ image_of (nodes_lent n c) ++ drop (length (image_of (nodes_lent n c))) image)
  unfolding write_answer write_image read_write
  accepted-written e h =
      let t = le-leb (length (image_of (nodes_lent n c))) (length image) h in
      (answer ∙ rw (e, t), p.1 ∙ rw (e, t))
