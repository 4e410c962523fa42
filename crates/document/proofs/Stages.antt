-- The answer on a document by the tests in their order. Over plain variables: what each call gave, with what it ensures.
use mathlib.Core.Path.{◌≡◌, refl, sym, ◌∙◌}
use mathlib.Core.Logic.{⊎_elim}
use mathlib.Core.Bool.{Bool, not}
use mathlib.Core.List.{List, []}
use Prim.Native.Nat.{ℕ, zero, suc}
use lib.IntN.{ℤ}
use lib.ListN.{length, get_or}
use Rattle.std.specs.Prelude.{Some, None, Err}
use Rattle.meaning.specs.Reading.{Reading, Accepted, Refused}
use Rattle.meaning.specs.Walk.{first, on_found, Found}
use Rattle.meaning.specs.Order.{need, and_then, earliest, in_order}
use Rattle.meaning.specs.Document.{Doc, columns, version_of}
use Rattle.meaning.specs.Nodes.{read_record, misplaced, share_day, overlap, clash, clashes, whole_from, whole, document_tests, accept}
use Rattle.meaning.proofs.Basics.{went}
use Rattle.document.specs.Steady.{periods}
use Rattle.document.proofs.Handed.{first-misplaced_same}

-- a test that fails where f passes refuses at the lowest number that f finds
pub earliest-first : (f : ℕ → Bool) (k i n : ℕ) → earliest (λ j. need (not (f j)) k j) i n ≡ on_found (first f i n) (λ j. Refused k j) Accepted
unfolding earliest first
earliest-first f k i zero = refl
earliest-first f k i (suc n) = ⊎_elim (λ y. rw y) (λ z. rw z (earliest-first f k (suc i) n)) (went (f i))

ap₃ : {A B : Type 0} (f : A → A → A → B) {x x' y y' z z' : A} → x ≡ x' → y ≡ y' → z ≡ z' → f x y z ≡ f x' y' z'
ap₃ f p q r = λ i. f (p i) (q i) (r i)

ends : (x : Reading) → and_then x Accepted ≡ x
ends Accepted = refl
ends (Err why) = refl

-- the four tests in their order
pub accept-stages : (doc : Doc) → accept doc
    ≡ and_then (earliest (read_record doc) 0 doc.size)
    (and_then (on_found (first (misplaced doc) 0 doc.size) (λ j. Refused 7 j) Accepted)
    (and_then (on_found (first (clashes doc) 0 doc.size) (λ j. Refused 9 j) Accepted) (need (whole doc) 10 0)))
unfolding accept document_tests in_order earliest
accept-stages doc =
    ap₃ (λ x y z. and_then (earliest (read_record doc) 0 doc.size) (and_then x (and_then y z)))
    (earliest-first (misplaced doc) 7 0 doc.size) (earliest-first (clashes doc) 9 0 doc.size) (ends _ ∙ ends (need (whole doc) 10 0))

-- the columns of a document, and what of it each test reads
module _ (kinds vkinds names parents begins ends' : List ℕ) (values : List ℤ) (items spares : List ℕ) where
  abbrev doc : Doc
  doc = columns kinds vkinds names parents begins ends' values items spares

  abbrev some : Doc
  some = periods kinds parents begins ends'

  clashes-same : first (clashes (columns kinds [] names parents begins ends' [] items [])) 0 (length kinds) ≡ first (clashes doc) 0 (length kinds)
  unfolding clashes clash overlap share_day version_of
  clashes-same = refl

  whole_from-same : (n last i : ℕ) → whole_from some last i n ≡ whole_from doc last i n
  unfolding whole_from version_of
  whole_from-same zero last i = refl
  whole_from-same (suc n) last i = rw (whole_from-same n last (suc i), whole_from-same n (get_or ends' i 0) (suc i))

  whole_same : whole some ≡ whole doc
  unfolding whole
  whole_same = whole_from-same (length kinds) 0 0

  -- each way out: refused by a record, ..
  module _ {x : Reading} (ex : x ≡ earliest (read_record doc) 0 (length kinds)) where
    pub by-record : {k p : ℕ} → x ≡ Refused k p → x ≡ accept doc
    by-record r = r ∙ sym (accept-stages doc ∙ rw (sym ex ∙ r))

    -- .. by 7, ..
    module _ (ax : x ≡ Accepted) {y : Found} (ey : y ≡ first (misplaced some) 0 (length kinds)) where
      pub by_place : {v : ℕ} → y ≡ Some v → Refused 7 v ≡ accept doc
      by_place r = sym (accept-stages doc ∙ rw (sym ex ∙ ax, sym (first-misplaced_same kinds vkinds names parents begins ends' values items spares) ∙ sym ey ∙ r))

      -- .. by 9, ..
      module _ (ny : y ≡ None) {z : Found} (ez : z ≡ first (clashes (columns kinds [] names parents begins ends' [] items [])) 0 (length kinds)) where
        pub by-clash : {i : ℕ} → z ≡ Some i → Refused 9 i ≡ accept doc
        by-clash r = sym (accept-stages doc ∙ rw (sym ex ∙ ax, sym (first-misplaced_same kinds vkinds names parents begins ends' values items spares) ∙ sym ey ∙ ny, sym clashes-same ∙ sym ez ∙ r))

        -- .. or the root decides
        pub by-root : (t : Bool) {w : Bool} → z ≡ None → w ≡ whole some → w ≡ t → need t 10 0 ≡ accept doc
        by-root t nz ew et =
            sym (accept-stages doc
            ∙ rw (sym ex ∙ ax, sym (first-misplaced_same kinds vkinds names parents begins ends' values items spares) ∙ sym ey ∙ ny, sym clashes-same ∙ sym ez ∙ nz, sym whole_same ∙ sym ew ∙ et))
