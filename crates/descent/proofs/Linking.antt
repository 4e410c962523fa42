-- Chains of versions and of items, built from the columns of a document, are what the descent goes along.
use mathlib.Core.Path.{◌≡◌, ◌∙◌, ap, fun_ext}
use mathlib.Core.Bool.{Bool, true}
use mathlib.Core.List.{List}
use Prim.Native.Nat.{ℕ}
use native.Mathlib.Omega.{arith}
use lib.ListN.{length}
use Rattle.meaning.specs.Reading.{Accepted}
use Rattle.meaning.specs.Block.{limit}
use Rattle.meaning.specs.Document.{Doc, version_of}
use Rattle.meaning.specs.Nodes.{accept}
use Rattle.meaning.specs.Day.{alive}
use Rattle.meaning.proofs.Basics.{and_l, and_r}
use Rattle.meaning.proofs.Says.{says}
use Rattle.meaning.proofs.Sound.{Version}
use Rattle.meaning.proofs.Places.{counted}
use Rattle.meaning.proofs.Slices.{one-alive}
use Rattle.meaning.proofs.Accepted.{accepted-sound}
use Rattle.columns.specs.Chains.{keyed, Chained}
use Rattle.columns.specs.Lent.{Lends, Periods}
use Rattle.columns.specs.Judgeable.{Judgeable}
use Rattle.descent.specs.Descent.{current_of, item_in, Single, Linked}

-- a version of item i
version : (doc : Doc) (i v : ℕ) → version_of doc i v ≡ true → Version doc i v
unfolding version_of
version doc i v e = let w = simp says at e in record { here = counted doc v (omega (arith, w.0)); kind = w.0; of = w.1 }

-- an item of an accepted document has one current version at most
pub single : (doc : Doc) → accept doc ≡ Accepted → Single doc
unfolding current_of
single doc e =
    record {
      one = λ d i u v a b.
          one-alive doc (accepted-sound doc e) d i u v
          (version doc i u (and_l (version_of doc i u) (alive doc d u) a))
          (version doc i v (and_l (version_of doc i v) (alive doc d v) b))
          (and_r (version_of doc i u) (alive doc d u) a)
          (and_r (version_of doc i v) (alive doc d v) b);
    }

module _ (doc : Doc) {kinds parents : List ℕ} (k : Lends doc.size doc.kind 0 kinds) (p : Lends doc.size doc.parent 0 parents) where
  versions-keyed : (i : ℕ) → keyed kinds parents 2 i ≡ version_of doc i
  unfolding version_of
  versions-keyed i = fun_ext (λ v. rw (k.at v, p.at v))

  items_keyed : (v : ℕ) → keyed kinds parents 1 v ≡ item_in doc v
  unfolding item_in
  items_keyed v = fun_ext (λ j. rw (k.at j, p.at j))

-- the chains that the columns give
pub linked : {doc : Doc} {kinds parents begins ends version-last version-lower item-last item-lower : List ℕ}
    → Lends doc.size doc.kind 0 kinds → Lends doc.size doc.parent 0 parents → Periods doc begins ends → Judgeable doc → Single doc
    → Chained limit kinds parents 2 (length kinds) version-last version-lower → Chained limit kinds parents 1 (length kinds) item-last item-lower
    → Linked doc version-last version-lower item-last item-lower begins ends
linked {doc} k p w g s a b =
    let versions = versions-keyed doc k p in
    let items = items_keyed doc k p in
    record {
      periods = w;
      judgeable = g;
      single = s;
      version_last_room = a.last_room;
      version_lower_room = a.lower_room;
      item_last_room = b.last_room;
      item_lower_room = b.lower_room;
      version_ends = λ i h. rw (versions i, k.size) at (a.ends i h);
      version_steps = λ i v h l e. rw (versions i) at (a.steps i v h (omega (arith, k.size)) (ap (λ (f : ℕ → Bool). f v) (versions i) ∙ e));
      item_ends = λ v h. rw (items v, k.size) at (b.ends v h);
      item_steps = λ v j h l e. rw (items v) at (b.steps v j h (omega (arith, k.size)) (ap (λ (f : ℕ → Bool). f j) (items v) ∙ e));
    }
