-- A nil equals nothing, so a selected version that has one offends a key and a reference, on a day and in windows; a unique allows it, a datatype passes it over.
use mathlib.Core.Path.{◌≡◌, refl, ◌∙◌}
use mathlib.Core.Logic.{◌⊎◌, ⊎_elim}
use mathlib.Core.Bool.{Bool, true, false, ◌&&◌, ◌||◌, not}
use Prim.Native.Nat.{ℕ, zero, suc, ◌≤◌, ◌<◌}
use native.Mathlib.Omega.{arith}
use lib.Dec.{ltb, eqb}
use borrow.Author.Tests.{eqb-true, lt-ltb}
use Rattle.meaning.specs.declared.Rule.{Rule}
use Rattle.meaning.specs.Walk.{any, count}
use Rattle.meaning.specs.Document.{Doc}
use Rattle.meaning.specs.Rules.{by_kind}
use Rattle.meaning.specs.Select.{is_nil, same_value, present, gives, has_nil, has}
use Rattle.meaning.specs.Day.{present_on, values, shares_only, taken, key, unique, reference, datatype, breaks, offends}
use Rattle.meaning.specs.Window.{Window, meets, key_in, reference_in, datatype_in, breaks_in, offends_in, windows}
use Rattle.meaning.proofs.Basics.{went, clear, never, and_l, and_r, both, or_l}
use Rattle.meaning.proofs.Walks.{any_some, any-true, any_none}
use Rattle.meaning.proofs.Says.{says}
use Rattle.meaning.proofs.Faults.{NoFault}
use Rattle.meaning.proofs.Timetable.{Nth}
use Rattle.meaning.proofs.Windows.{NoFaultAmong}

-- a nil equals no value, its own included, and no value equals a nil
module _ (doc : Doc) (f : ℕ) (nil : is_nil doc f ≡ true) where
  pub nil_equals_none : (g : ℕ) → same_value doc f g ≡ false
  unfolding same_value
  nil_equals_none g = never _ (λ e. clear nil (simp says at e).1)

  pub none-equals_nil : (g : ℕ) → same_value doc g f ≡ false
  unfolding same_value is_nil
  none-equals_nil g = never _ (λ e. let w = simp says at e in w.1 (w.0.0 ∙ eqb-true (doc.vkind f) 3 nil))

  -- so no version has it
  pub nil_unheld : (p : ℕ → Bool) (q : Rule) (u : ℕ) → has doc p q u f ≡ false
  unfolding has
  nil_unheld p q u = any_none _ 0 doc.size (λ g a b. never _ (λ e. clear (and_r (gives doc p q u g) _ e) (nil_equals_none g)))

module _ (f g h : ℕ → Bool) where
  -- what passes two tests passes a third that the second implies
  some_more : (i n : ℕ) → ((k : ℕ) → g k ≡ true → h k ≡ true) → any (λ k. f k && g k) i n ≡ true → any (λ k. f k && h k) i n ≡ true
  some_more i n t e =
      let w = any-true _ i n e in
      let k = w.0 in
      let y = w.1.passes in
      any_some _ i n k (record { from = w.1.from; below = w.1.below; passes = both (f k) (h k) (and_l (f k) (g k) y) (t k (and_r (f k) (g k) y)) })

module _ (f h : ℕ → Bool) where
  none-counted : (i n : ℕ) → count f i n ≡ 0 → any (λ k. f k && h k) i n ≡ false
  unfolding count any
  none-counted i zero e = refl
  none-counted i (suc n) e =
      ⊎_elim
      (λ y. let z : suc (count f (suc i) n) ≡ 0 = rw y at e in absurd (omega arith))
      (λ z. rw z (none-counted (suc i) n (rw z at e)))
      (went (f i))

module _ (f h : ℕ → Bool) where
  -- where one number passes f, and fails h, none passes both
  one-counted : (i n : ℕ) → count f i n ≡ 1 → any (λ k. f k && not (h k)) i n ≡ true → any (λ k. f k && h k) i n ≡ false
  unfolding count any
  one-counted i zero e a = refl
  one-counted i (suc n) e a =
      ⊎_elim
      (λ (y : f i ≡ true).
      let c : suc (count f (suc i) n) ≡ 1 = rw y at e in
      let rest : count f (suc i) n ≡ 0 = omega arith in
      ⊎_elim
      (λ (t : h i ≡ true).
      let b : any (λ k. f k && not (h k)) (suc i) n ≡ true = rw t at (rw y at a) in
      absurd (clear b (none-counted f (λ k. not (h k)) (suc i) n rest)))
      (λ (t : h i ≡ false). rw (y, t) (none-counted f h (suc i) n rest))
      (went (h i)))
      (λ z. rw z (one-counted (suc i) n (rw z at e) (rw z at a)))
      (went (f i))

module _ (doc : Doc) (p : ℕ → Bool) (q r : Rule) (v : ℕ) (nil : has_nil doc p r v ≡ true) where
  nil_breaks_key : key doc p r v ≡ true
  unfolding key
  nil_breaks_key = simp says (λ h. absurd (clear nil h.1))

  nil_breaks_key_in : key_in doc p r v ≡ true
  unfolding key_in
  nil_breaks_key_in = simp says (λ h. absurd (clear nil h.1))

  -- a value of v that u has not
  unshared : (u : ℕ) → any (λ f. gives doc p r v f && not (has doc p q u f)) 0 doc.size ≡ true
  unfolding has_nil
  unshared u = some_more (gives doc p r v) (is_nil doc) _ 0 doc.size (λ f e. rw (nil_unheld doc f e p q u)) nil

  -- so as the only value of v it is nobody's only value
  nil_alone : values doc p r v ≡ 1 → (n : ℕ) → any (shares_only doc p r v q) 0 n ≡ false
  unfolding values shares_only
  nil_alone e n =
      any_none _ 0 n
      (λ u a b.
      never _ (λ t.
      clear (and_r (present doc p q u && eqb (values doc p q u) 1) _ t) (one-counted (gives doc p r v) (has doc p q u) 0 doc.size e (unshared u))))

  nil_breaks_reference : reference doc p q r v ≡ true
  unfolding reference values has_nil
  nil_breaks_reference = go (values doc p r v) refl
    where
      go : (n : ℕ) → values doc p r v ≡ n → ltb 1 n || (eqb n 1 && not (any (shares_only doc p r v q) 0 doc.size)) ≡ true
      go zero e = absurd (clear nil (none-counted (gives doc p r v) (is_nil doc) 0 doc.size e))
      go (suc zero) e = rw (nil_alone e doc.size)
      go (suc (suc n)) e = or_l (ltb 1 (suc (suc n))) _ (lt-ltb 1 (suc (suc n)) (omega arith))

  nil_breaks_reference_in : reference_in doc p q r v ≡ true
  unfolding reference_in has_nil
  nil_breaks_reference_in =
      some_more (gives doc p r v) (is_nil doc) _ 0 doc.size
      (λ f e. simp says (λ u a b h. nil_unheld doc f e p q u))
      nil

  -- by the kinds that want a value that is known
  nil_breaks : (k : ℕ) → (k ≡ 1) ⊎ (k ≡ 3) → breaks doc p q r v k ≡ true
  unfolding breaks by_kind
  nil_breaks k = ⊎_elim (λ e. rw e nil_breaks_key) (λ e. rw e nil_breaks_reference)

  nil_breaks_in : (w : Window) → present doc p r v ≡ true → (k : ℕ) → (k ≡ 1) ⊎ (k ≡ 3) → breaks_in doc p w q r v k ≡ true
  unfolding breaks_in by_kind
  nil_breaks_in w here k = ⊎_elim (λ e. rw (e, here) nil_breaks_key_in) (λ e. rw (e, here) nil_breaks_reference_in)

-- the rule is a key or a reference
abbrev pub WantsKnown : Rule → Type 0
WantsKnown r = (r.kind ≡ 1) ⊎ (r.kind ≡ 3)

-- A SELECTED VERSION WITH A NIL offends a key and a reference: on a day, ..
module _ (doc : Doc) (p : ℕ → Bool) (q r : Rule) (v : ℕ) (here : present doc p r v ≡ true) (nil : has_nil doc p r v ≡ true) where
  pub nil_offends : WantsKnown r → offends doc p q r v ≡ true
  unfolding offends
  nil_offends k = both _ _ here (nil_breaks doc p q r v nil r.kind k)

  -- .. and in a window
  pub nil_offends_in : (w : Window) → WantsKnown r → offends_in doc p w q r v ≡ true
  unfolding offends_in
  nil_offends_in w k = nil_breaks_in doc p q r v nil w here r.kind k

-- no selected version has a nil: on a day of the period, in a window of it
abbrev pub NilFreeDays : Doc → Rule → Type 0
NilFreeDays doc r =
    (d v : ℕ) → r.begin ≤ d → d < r.end → v < doc.size → present doc (present_on doc d) r v ≡ true → has_nil doc (present_on doc d) r v ≡ false

abbrev pub NilFreeWindows : Doc → Rule → Type 0
NilFreeWindows doc r =
    (j : ℕ) (w : Window) → Nth (windows r) j w → (v : ℕ) → v < doc.size → present doc (meets doc w) r v ≡ true → has_nil doc (meets doc w) r v ≡ false

-- So it is where a key or a reference holds
module _ (doc : Doc) (q r : Rule) (wants : WantsKnown r) where
  pub holds-nil_free : NoFault doc q r → NilFreeDays doc r
  holds-nil_free h d v a b c here = never _ (λ nil. clear (nil_offends doc (present_on doc d) q r v here nil wants) (h d v a b c))

  pub holds-nil_free_in : NoFaultAmong doc q r (windows r) → NilFreeWindows doc r
  holds-nil_free_in h j w n v c here = never _ (λ nil. clear (nil_offends_in doc (meets doc w) q r v here nil w wants) (h j w n v c))

-- A unique allows a nil as the only value of a day.
pub nil_unique : (doc : Doc) (p : ℕ → Bool) (r : Rule) (v : ℕ) → has_nil doc p r v ≡ true → values doc p r v ≡ 1 → unique doc p r v ≡ false
unfolding unique taken
nil_unique doc p r v nil e = rw (e, nil_alone doc p r r v nil e v)

-- A datatype passes nils over: on a day where a version has no other value, ..
pub nil_datatype : (doc : Doc) (p : ℕ → Bool) (r : Rule) (v : ℕ) → ((f : ℕ) → gives doc p r v f ≡ true → is_nil doc f ≡ true) → datatype doc p r v ≡ false
unfolding datatype
nil_datatype doc p r v all = any_none _ 0 doc.size (λ f a b. never _ (λ e. let w = simp says at e in clear (all f w.0) w.1.0))

-- .. and in a window
pub nil_datatype_in : (doc : Doc) (p : ℕ → Bool) (r : Rule) (f v : ℕ) → is_nil doc f ≡ true → datatype_in doc p r f v ≡ false
unfolding datatype_in
nil_datatype_in doc p r f v nil = never _ (λ e. let w = simp says at e in clear nil w.0.1)
