-- The ways out of a call `slice`: the image's refusal, a day past the last, and the list. Over plain variables: what each call gave, with what it ensures.
use mathlib.Core.Path.{◌≡◌, refl, sym}
use mathlib.Core.List.{List}
use Prim.Native.Nat.{ℕ, ◌≤◌, ◌<◌}
use borrow.Author.Tests.{le-leb, lt-leb}
use Rattle.std.specs.Prelude.{Result, Ok}
use Rattle.meaning.specs.declared.Refusal.{Refusal}
use Rattle.meaning.specs.Reading.{Refused, Accepted}
use Rattle.meaning.specs.Nodes.{doc_of, read_nodes}
use Rattle.meaning.specs.Day.{slice}
use Rattle.meaning.specs.Answer.{storing, lent_after, read_slice, slice_answer, slice_lent}
use Rattle.columns.specs.declared.Columns.{Columns}
use Rattle.nodes.specs.Unpacking.{Unpacks}
use Rattle.nodes.proofs.Held.{refused_image, held-image}
use Rattle.opening.specs.Promises.{SlicePromise}

module _ (image : List ℕ) (day : ℕ) (lent : List ℕ) where
  abbrev Right : Result ℕ Refusal → List ℕ → Type 0
  Right = SlicePromise image day lent

  -- refused while reading
  by-reading : {k p : ℕ} → read_slice image day ≡ Refused k p → Right (Refused k p) lent
  unfolding slice_answer slice_lent storing
  by-reading e = rw e (refl, refl)

  -- an accepted image: a day past the last, or the slice stored or not
  module _ (accepted : read_nodes image ≡ Accepted) where
    pub late_day : 36524 < day → Right (Refused 11 0) lent
    unfolding read_slice
    late_day l = by-reading (rw (accepted, lt-leb day 36524 l))

    pub listed_day : day ≤ 36524 → {y : Result ℕ Refusal} {out : List ℕ} → y ≡ storing Accepted (slice (doc_of image) day) lent
        → out ≡ lent_after y (slice (doc_of image) day) lent → Right y out
    unfolding read_slice slice_answer slice_lent
    listed_day l p q = rw (accepted, le-leb day 36524 l, sym p) (refl, q)

  module _ {c : Columns} (u : Unpacks image c) where
    pub slice-refused : {k p : ℕ} → c.loaded ≡ Refused k p → Right (Refused k p) lent
    unfolding read_slice
    slice-refused r = by-reading (rw (refused_image image u.answer r))

    module _ {n : ℕ} (r : c.loaded ≡ Ok n) where
      pub slice-late : 36524 < day → Right (Refused 11 0) lent
      slice-late = late_day (held-image image u.answer r).accepted

      pub slice-listed : day ≤ 36524 → {y : Result ℕ Refusal} {out : List ℕ} → y ≡ storing Accepted (slice (doc_of image) day) lent
          → out ≡ lent_after y (slice (doc_of image) day) lent → Right y out
      slice-listed = listed_day (held-image image u.answer r).accepted
