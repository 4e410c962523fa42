-- Whether a record offends hangs on the presence of the versions that the rule reads and on no others: once over the kind, on a day and in a window.
use mathlib.Core.Path.{◌≡◌, refl, ap, ap₂, fun_ext}
use mathlib.Core.Logic.{⊎_elim}
use mathlib.Core.Bool.{Bool, true, false, ◌&&◌, ◌||◌, not}
use Prim.Native.Nat.{ℕ, zero, suc}
use lib.Dec.{eqb, leb}
use lib.IntN.{pos, ◌-ℤ◌}
use borrow.Author.Tests.{eq-eqb}
use Rattle.meaning.specs.declared.Rule.{Rule}
use Rattle.meaning.specs.Walk.{any, count}
use Rattle.meaning.specs.Document.{Doc, number_of}
use Rattle.meaning.specs.Rules.{by_kind, is_reference}
use Rattle.meaning.specs.Select.{selected, field_of, reads_own, valued, same_value, within, is_nil, is_number, present, gives, has_nil, has}
use Rattle.meaning.specs.Day.{values, shares_only, taken, key, unique, reference, cardinality, datatype, breaks, offends}
use Rattle.meaning.specs.Window.{Window, valueless, shares, shared_in, key_in, reference_in, under, counts, cardinality_in, follows, jumps, datatype_in, breaks_in, offends_in}
use Rattle.meaning.proofs.Basics.{went, and_same}
use Rattle.meaning.proofs.Selects.{selected-read, field_read}

module _ (doc : Doc) (p p' : ℕ → Bool) where
  -- the two presences agree on what the rule reads by itself
  unfoldable pub Agree : Rule → Type 0
  Agree r = (i : ℕ) → reads_own doc r i ≡ true → p i ≡ p' i

  module _ (r : Rule) (a : Agree r) where
    field_same : (v : ℕ) → selected doc r v ≡ true → (f : ℕ) → field_of doc r v f && p f ≡ (field_of doc r v f && p' f)
    unfolding Agree
    field_same v s f = and_same (field_of doc r v f) (p f) (p' f) (λ e. a f (field_read doc r v f s e))

    gives_same : (v : ℕ) → selected doc r v ≡ true → gives doc p r v ≡ gives doc p' r v
    unfolding gives
    gives_same v s = fun_ext (λ f. ap (λ b. b && valued doc f) (field_same v s f))

    has_same : (v : ℕ) → selected doc r v ≡ true → has doc p r v ≡ has doc p' r v
    unfolding has
    has_same v s = fun_ext (λ f. ap (λ (h : ℕ → Bool). any (λ g. h g && same_value doc f g) 0 doc.size) (gives_same v s))

    present-same : (v : ℕ) → present doc p r v ≡ present doc p' r v
    unfolding present Agree
    present-same v = and_same (selected doc r v) (p v) (p' v) (λ e. a v (selected-read doc r v e))

    -- behind presence, a test is the same if it is where the version is selected
    behind : (v : ℕ) (b c : Bool) → (selected doc r v ≡ true → b ≡ c) → present doc p r v && b ≡ (present doc p' r v && c)
    unfolding present
    behind v b c h = ⊎_elim (λ s. rw s (ap₂ ◌&&◌ (rw s at (present-same v)) (h s))) (λ s. rw s) (went (selected doc r v))

    -- the two ways to give a value, with presence first
    present-gives : (v f : ℕ) → present doc p r v && gives doc p r v f ≡ (present doc p' r v && gives doc p' r v f)
    present-gives v f = behind v (gives doc p r v f) (gives doc p' r v f) (λ s. ap (λ (h : ℕ → Bool). h f) (gives_same v s))

    -- a version that is present, and has a nil
    pub nil_agree : (v : ℕ) → present doc p r v && has_nil doc p r v ≡ (present doc p' r v && has_nil doc p' r v)
    unfolding has_nil
    nil_agree v = behind v _ _ (λ s. ap (λ (h : ℕ → Bool). any (λ f. h f && is_nil doc f) 0 doc.size) (gives_same v s))

    under_same : under doc p r ≡ under doc p' r
    unfolding under
    under_same =
        fun_ext (λ n. fun_ext (λ f. ap (λ (h : ℕ → Bool). any h 0 doc.size) (fun_ext (λ v. ap (λ b. b && eqb (number_of doc v) n) (present-gives v f)))))

    counts_same : counts doc p r ≡ counts doc p' r
    unfolding counts
    counts_same =
        ap {B = ℕ → ℕ → Bool} (λ (h : ℕ → ℕ → Bool) (n f : ℕ). h n f && not (eqb r.distinct 1 && (is_nil doc f || any (λ g. same_value doc f g && h n g) 0 f))) under_same

    jumps-same : jumps doc p r ≡ jumps doc p' r
    unfolding jumps follows
    jumps-same =
        ap {B = ℕ → ℕ → ℕ → Bool} (λ (h : ℕ → ℕ → Bool) (n f g : ℕ).
        not (within r (doc.value f -ℤ doc.value g))
        && (is_number doc g && leb (doc.end g) (doc.begin f) && h n g
        && not (any (λ x. leb (doc.end g) (doc.begin x) && leb (doc.end x) (doc.begin f) && h n x && not (is_nil doc x)) 0 doc.size)))
        under_same

    values_same : (v : ℕ) → selected doc r v ≡ true → values doc p r v ≡ values doc p' r v
    unfolding values
    values_same v s = ap (λ (h : ℕ → Bool). count h 0 doc.size) (gives_same v s)

  module _ (r : Rule) (a : Agree r) (q : Rule) (b : Agree q) (v : ℕ) (s : selected doc r v ≡ true) where
    -- a value that v has, also had by u
    common_same : (u : ℕ) → selected doc q u ≡ true
        → any (λ f. gives doc p r v f && has doc p q u f) 0 doc.size ≡ any (λ f. gives doc p' r v f && has doc p' q u f) 0 doc.size
    common_same u t = ap₂ (λ (g h : ℕ → Bool). any (λ f. g f && h f) 0 doc.size) (gives_same r a v s) (has_same q b u t)

    -- a version that is not selected shares nothing
    unselected : (u : ℕ) → selected doc q u ≡ false → shares_only doc p r v q u ≡ shares_only doc p' r v q u
    unfolding shares_only present
    unselected u t = rw t

    only_same : shares_only doc p r v q ≡ shares_only doc p' r v q
    unfolding shares_only
    only_same =
        fun_ext (λ u.
        ⊎_elim
        (λ t. ap₂ ◌&&◌ (ap₂ (λ x n. x && eqb n 1) (present-same q b u) (values_same q b u t)) (common_same u t))
        (unselected u)
        (went (selected doc q u)))

    shares-same : shares doc p r v q ≡ shares doc p' r v q
    unfolding shares
    shares-same = fun_ext (λ u. behind q b u _ _ (common_same u))

    held_same : (f : ℕ) → any (λ u. present doc p q u && has doc p q u f) 0 doc.size ≡ any (λ u. present doc p' q u && has doc p' q u f) 0 doc.size
    held_same f = ap (λ (h : ℕ → Bool). any h 0 doc.size) (fun_ext (λ u. behind q b u (has doc p q u f) (has doc p' q u f) (λ t. ap (λ (h : ℕ → Bool). h f) (has_same q b u t))))

  module _ (q r : Rule) (a : Agree r) (b : is_reference r ≡ true → Agree q) where
    breaks-same : (k : ℕ) → r.kind ≡ k → (v : ℕ) → selected doc r v ≡ true → breaks doc p q r v k ≡ breaks doc p' q r v k
    unfolding by_kind breaks key unique reference cardinality datatype taken has_nil
    breaks-same zero e v s = refl
    breaks-same (suc zero) e v s = rw (values_same r a v s, gives_same r a v s, only_same r a r a v s)
    breaks-same (suc (suc zero)) e v s = rw (values_same r a v s, only_same r a r a v s)
    breaks-same (suc (suc (suc zero))) e v s = rw (values_same r a v s, only_same r a q (b (eq-eqb r.kind 3 e)) v s)
    breaks-same (suc (suc (suc (suc zero)))) e v s =
        ap (λ (h : ℕ → Bool). not (within r (pos (count h 0 doc.size)))) (fun_ext (field_same r a v s))
    breaks-same (suc (suc (suc (suc (suc k))))) e v s = rw (gives_same r a v s)

    -- on a day
    pub offends-agree : offends doc p q r ≡ offends doc p' q r
    unfolding offends
    offends-agree = fun_ext (λ v. behind r a v _ _ (breaks-same r.kind refl v))

    breaks_in-same : (w : Window) (k : ℕ) → r.kind ≡ k → (v : ℕ) → breaks_in doc p w q r v k ≡ breaks_in doc p' w q r v k
    unfolding by_kind breaks_in key_in valueless has_nil shared_in reference_in cardinality_in datatype_in
    breaks_in-same w zero e v = refl
    breaks_in-same w (suc zero) e v = behind r a v _ _ (λ s. rw (gives_same r a v s, shares-same r a r a v s))
    breaks_in-same w (suc (suc zero)) e v = behind r a v _ _ (λ s. rw (shares-same r a r a v s))
    breaks_in-same w (suc (suc (suc zero))) e v =
        behind r a v _ _
        (λ s. ap₂ (λ (g h : ℕ → Bool). any (λ f. g f && not (h f)) 0 doc.size) (gives_same r a v s) (fun_ext (held_same r a q (b (eq-eqb r.kind 3 e)) v s)))
    breaks_in-same w (suc (suc (suc (suc zero)))) e v = behind r a v _ _ (λ s. rw (counts_same r a))
    breaks_in-same w (suc (suc (suc (suc (suc k))))) e v =
        ap (λ (h : ℕ → Bool). any h 0 doc.size)
        (fun_ext (λ u.
        ap₂ (λ (x : Bool) (h : ℕ → ℕ → ℕ → Bool). x && not (is_nil doc v) && (not (is_number doc v) || any (h (number_of doc u) v) 0 doc.size))
        (present-gives r a u v) (jumps-same r a)))

    -- in a window
    pub offends_in-agree : (w : Window) → offends_in doc p w q r ≡ offends_in doc p' w q r
    unfolding offends_in
    offends_in-agree w = fun_ext (breaks_in-same w r.kind refl)
