-- A version offends the rule in the window exactly where its row offends, or a nil spoils it: for a key, a unique rule and a reference.
use mathlib.Core.Path.{◌≡◌, refl, sym, ◌∙◌, ap, ap₂}
use mathlib.Core.Logic.{◌⊎◌, ⊎_elim}
use mathlib.Core.Bool.{Bool, true, false, ◌&&◌, ◌||◌, not, cond, and-false, and_assoc, or-true, or-false}
use mathlib.Core.List.{List}
use Prim.Native.Nat.{ℕ, zero, suc, ◌+◌, ◌<◌}
use native.Mathlib.Omega.{arith}
use lib.Dec.{eqb}
use lib.ListN.{get_or}
use borrow.Author.Tests.{eqb-true, eqb-false, eq-eqb, ne_eqb}
use Rattle.meaning.specs.declared.Rule.{Rule}
use Rattle.meaning.specs.Walk.{any, first, Found}
use Rattle.meaning.specs.Document.{Doc, is_version, number_of}
use Rattle.meaning.specs.Rules.{by_kind, is_key, is_reference}
use Rattle.meaning.specs.Select.{selected, field_of, valued, is_nil, same_value, present, gives, has_nil, has}
use Rattle.meaning.specs.Window.{Window, meets, valueless, shares, shared_in, key_in, reference_in, breaks_in, offends_in}
use Rattle.meaning.proofs.Basics.{went, and_l, and_same}
use Rattle.meaning.proofs.Walks.{any_none, any_same, first-same}
use Rattle.meaning.proofs.Selects.{selected-version, field_version, one-holder, read-version}
use Rattle.meaning.proofs.Agree.{Agree, nil_agree, offends_in-agree}
use Rattle.columns.specs.Lent.{Periods}
use Rattle.values.specs.Represents.{Represents}
use Rattle.values.proofs.Equals.{known_same, rep-nil, nil_unlike}
use Rattle.prepare.specs.Spoiling.{spoils, AsideIn}
use Rattle.prepare.specs.Rows.{wants, in_row}
use Rattle.day.specs.declared.lent.Trail.{Trail}
use Rattle.day.specs.declared.lent.Stretch.{Stretch}
use Rattle.day.specs.Along.{during, size, there, stands, ReadyAlong, ReferredAlong}
use Rattle.day.proofs.Single.{eqb_sym}
use Rattle.groups.specs.Groups.{Groups}
use Rattle.sharing.specs.Row.{some_of, asks, shows, lacking}
use Rattle.sharing.specs.Table.{holder, rival, row_shares, row_misses}

-- a test that hangs on no number, out of a walk
any_out : (b : Bool) (g h : ℕ → Bool) (n : ℕ) → any (λ f. g f && (b && h f)) 0 n ≡ (b && any (λ f. g f && h f) 0 n)
any_out true g h n = refl
any_out false g h n = any_none _ 0 n (λ f a b. and-false (g f))

-- a first test that is the same where the second passes
before_same : (a c b x : Bool) → (b ≡ true → a ≡ c) → a && (b && x) ≡ (c && (b && x))
before_same a c true x h = ap (λ z. z && x) (h refl)
before_same a c false x h = and-false a ∙ sym (and-false c)

-- two tests of one walk, each in a walk of its own
any-either : (g a b : ℕ → Bool) (i n : ℕ) → any (λ f. g f && (a f || b f)) i n ≡ (any (λ f. g f && a f) i n || any (λ f. g f && b f) i n)
unfolding any
any-either g a b i zero = refl
any-either g a b i (suc n) = rw (any-either g a b (suc i) n) (meet (g i) (a i) (b i) (any (λ f. g f && a f) (suc i) n) (any (λ f. g f && b f) (suc i) n))
  where
    meet : (g a b x y : Bool) → cond (g && (a || b)) true (x || y) ≡ (cond (g && a) true x || cond (g && b) true y)
    meet true true b x y = refl
    meet true false true true y = refl
    meet true false true false y = refl
    meet true false false x y = refl
    meet false a b x y = refl

-- the middle one of three tests behind a first one, put last, by itself
last_out : (p a b c : Bool) → p && (a || b || c) ≡ ((p && (a || c)) || (p && b))
last_out false a b c = refl
last_out true true b c = refl
last_out true false true true = refl
last_out true false true false = refl
last_out true false false true = refl
last_out true false false false = refl

-- two tests behind two, each by itself
apart : (a x l k n : Bool) → (a ≡ true → l ≡ (k || n)) → a && x && l ≡ ((a && (x && k)) || (a && x && n))
apart true true l k n h = h refl
apart true false l k n h = refl
apart false x l k n h = refl

-- a third test that is the same where the first passes
behind : (a x k l : Bool) → (a ≡ true → k ≡ l) → a && (x && k) ≡ (a && x && l)
behind true x k l h = ap (λ z. x && z) (h refl)
behind false x k l h = refl

-- two classes are the same where they are when counted from one
from_one : (a b : ℕ) → eqb (a + 1) (b + 1) ≡ eqb a b
from_one a b =
    ⊎_elim
    (λ y. eq-eqb (a + 1) (b + 1) (ap (λ c. c + 1) (eqb-true a b y)) ∙ sym y)
    (λ z. ne_eqb (a + 1) (b + 1) (λ q. eqb-false a b z (omega arith)) ∙ sym z)
    (went (eqb a b))

module _ (doc : Doc) (begins ends reps : List ℕ) (represents : Represents doc reps) (from to : ℕ) where
  abbrev p : ℕ → Bool
  p = during begins ends from to

  abbrev rep : ℕ → ℕ
  rep f = get_or reps f 0

  chosen : (r : Rule) (v : ℕ) → present doc p r v ≡ true → selected doc r v ≡ true
  unfolding present
  chosen r v e = and_l (selected doc r v) (p v) e

  gives-field : (r : Rule) (v f : ℕ) → gives doc p r v f ≡ true → field_of doc r v f ≡ true
  unfolding gives
  gives-field r v f e = and_l (field_of doc r v f) (p f) (and_l _ (valued doc f) e)

  module _ (r : Rule) (w : (f : ℕ) → wants doc r f ≡ valued doc f) (v : ℕ) (s : selected doc r v ≡ true) where
    gives-version : (f : ℕ) → gives doc p r v f ≡ true → is_version doc f ≡ true
    gives-version f e = field_version doc r v f s (gives-field r v f e)

    -- the present ones of a row are the field versions that give a value
    row_gives : (f : ℕ) → in_row doc r v f && p f ≡ gives doc p r v f
    unfolding in_row gives
    row_gives f = rw (s, w f) (swap (field_of doc r v f) (valued doc f) (p f))
      where
        swap : (a b x : Bool) → a && b && x ≡ (a && x && b)
        swap true true true = refl
        swap true true false = refl
        swap true false true = refl
        swap true false false = refl
        swap false b x = refl

    asks-is : (test : ℕ → Bool) → asks p doc.size rep (in_row doc r v) test ≡ any (λ f. gives doc p r v f && test (rep f)) 0 doc.size
    unfolding asks some_of
    asks-is test =
        any_same _ _ 0 doc.size
        (λ f a b. sym (and_assoc (in_row doc r v f) (p f) (test (rep f))) ∙ ap (λ z. z && test (rep f)) (row_gives f))

    lacking-is : (needy : Bool) → lacking p doc.size rep (in_row doc r v) needy ≡ (needy && valueless doc p r v)
    unfolding lacking some_of valueless
    lacking-is needy = ap (λ b. needy && not b) (any_same _ _ 0 doc.size (λ f a b. row_gives f))

  -- a record u holds the value of f, if representatives tell whether a value of u is equal to it
  module _ (q : Rule) (w : (f : ℕ) → wants doc q f ≡ valued doc f) where
    holder-is : (f u : ℕ) → (selected doc q u ≡ true → (g : ℕ) → gives doc p q u g ≡ true → same_value doc f g ≡ eqb (rep f) (rep g))
        → holder p doc.size rep (selected doc q) (in_row doc q) (rep f) u ≡ (present doc p q u && has doc p q u f)
    unfolding holder present has shows
    holder-is f u tells =
        behind (selected doc q u) (p u) _ _
        (λ s.
        asks-is q w u s (λ x. eqb x (rep f))
        ∙ any_same _ _ 0 doc.size (λ g a b. and_same (gives doc p q u g) _ _ (λ i. eqb_sym (rep g) (rep f) ∙ sym (tells s g i))))

  -- where versions with a value matter
  module _ (q r : Rule) (w : (f : ℕ) → wants doc r f ≡ valued doc f) where
    -- a value of v that another record u holds
    holds-is : (v : ℕ) → selected doc r v ≡ true → (u : ℕ) → (u ≡ v → ⊥)
        → asks p doc.size rep (in_row doc r v) (λ x. holder p doc.size rep (selected doc r) (in_row doc r) x u) ≡ shares doc p r v r u
    unfolding shares
    holds-is v s u apart =
        asks-is r w v s _
        ∙ any_same _ _ 0 doc.size
        (λ f a b.
        and_same (gives doc p r v f) _ _
        (λ i.
        holder-is r w f u
        (λ t g j.
        represents.same f g (gives-version r w v s f i) (gives-version r w u t g j)
        (λ e. apart (one-holder doc r u v g (gives-field r u g j) (rw (← e) (gives-field r v f i)))))))
        ∙ any_out (present doc p r u) (gives doc p r v) (has doc p r u) doc.size

    -- by the kind, a nil spoils the version, or not
    spoils-by : (v : ℕ) {k : ℕ} → r.kind ≡ k → spoils doc p r v ≡ ((eqb k 1 || eqb k 3) && (present doc p r v && has_nil doc p r v))
    unfolding spoils
    spoils-by v e = ap (λ n. (eqb n 1 || eqb n 3) && (present doc p r v && has_nil doc p r v)) e

    module _ (groups : List ℕ) (grouped : Groups doc groups) where
      abbrev class : ℕ → ℕ
      class v = get_or groups v 0 + 1

      rival-is : (v : ℕ) → selected doc r v ≡ true → (u : ℕ) → (u ≡ v → ⊥) → rival p doc.size rep (selected doc r) (in_row doc r) class v u ≡ (not (eqb (number_of doc u) (number_of doc v)) && shares doc p r v r u)
      unfolding rival shares
      rival-is v s u apart =
          ap (λ b. not (eqb (class u) (class v)) && b) (holds-is v s u apart)
          ∙ before_same _ _ (present doc p r u) _
          (λ i. ap not (from_one (get_or groups u 0) (get_or groups v 0) ∙ sym (grouped.same u v (selected-version doc r u (chosen r u i)) (selected-version doc r v s))))

      shares-is : (needy : Bool) (v : ℕ) → row_shares p doc.size rep (selected doc r) (in_row doc r) class needy v ≡ (present doc p r v && ((needy && valueless doc p r v) || shared_in doc p r v))
      unfolding row_shares present shared_in
      shares-is needy v =
          behind (selected doc r v) (p v) _ _
          (λ s. ap₂ ◌||◌ (lacking-is r w v s needy) (any_same _ _ 0 v (λ u a b. rival-is v s u (λ e. omega arith))))

      offends-told : (window : Window) (needy : Bool) → ((r.kind ≡ 1) × (needy ≡ true)) ⊎ ((r.kind ≡ 2) × (needy ≡ false)) → (v : ℕ)
          → offends_in doc p window q r v ≡ (row_shares p doc.size rep (selected doc r) (in_row doc r) class needy v || spoils doc p r v)
      unfolding offends_in by_kind breaks_in key_in
      offends-told window needy kinds v =
          let shared : Bool → Bool = λ b. present doc p r v && ((b && valueless doc p r v) || shared_in doc p r v) in
          ⊎_elim
          (λ k.
          ap (breaks_in doc p window q r v) k.0
          ∙ last_out (present doc p r v) (valueless doc p r v) (has_nil doc p r v) (shared_in doc p r v)
          ∙ sym (ap₂ ◌||◌ (shares-is needy v ∙ ap shared k.1) (spoils-by v k.0)))
          (λ k. ap (breaks_in doc p window q r v) k.0 ∙ sym (ap₂ ◌||◌ (shares-is needy v ∙ ap shared k.1) (spoils-by v k.0) ∙ or-false _))
          kinds

    -- what is known are the values of the rule referred to
    module _ (referred : (f : ℕ) → wants doc q f ≡ valued doc f) (known : ℕ → Bool)
        (stands : (y : ℕ) → known y ≡ any (holder p doc.size rep (selected doc q) (in_row doc q) y) 0 doc.size) where
      -- a value is not held, unless it is a nil, where it is not known
      unheld_is : (v f : ℕ) → selected doc r v ≡ true → gives doc p r v f ≡ true
          → not (any (λ u. present doc p q u && has doc p q u f) 0 doc.size) ≡ (not (known (rep f)) || is_nil doc f)
      unfolding has
      unheld_is v f s i =
          ⊎_elim
          (λ n.
          rw n
          (ap not
          (any_none _ 0 doc.size
          (λ u a b.
          ap (λ x. present doc p q u && x) (any_none _ 0 doc.size (λ g c d. rw (nil_unlike doc f g n) (and-false (gives doc p q u g))))
          ∙ and-false (present doc p q u)))
          ∙ sym (or-true (not (known (rep f))))))
          (λ n.
          rw n
          (sym
          (or-false (not (known (rep f)))
          ∙ ap not
          (stands (rep f)
          ∙ any_same _ _ 0 doc.size
          (λ u c d. holder-is q referred f u (λ t g j. known_same represents f g (gives-version r w v s f i) (gives-version q referred u t g j) n))))))
          (went (is_nil doc f))

      misses_told : (window : Window) → r.kind ≡ 3 → (v : ℕ)
          → offends_in doc p window q r v ≡ (row_misses p doc.size rep (selected doc r) (in_row doc r) known v || spoils doc p r v)
      unfolding row_misses offends_in by_kind breaks_in reference_in present has_nil
      misses_told window kind v =
          ap (breaks_in doc p window q r v) kind
          ∙ apart (selected doc r v) (p v) _ _ _
          (λ s.
          any_same _ _ 0 doc.size (λ f a b. and_same (gives doc p r v f) _ _ (unheld_is v f s))
          ∙ any-either (gives doc p r v) (λ f. not (known (rep f))) (is_nil doc) 0 doc.size
          ∙ ap (λ b. b || any (λ f. gives doc p r v f && is_nil doc f) 0 doc.size) (sym (asks-is r w v s (λ x. not (known x)))))
          ∙ sym (ap (λ b. row_misses p doc.size rep (selected doc r) (in_row doc r) known v || b) (spoils-by v kind))

  -- the marks tell what has no nil
  nil_missed : (r : Rule) → ((f : ℕ) → wants doc r f ≡ valued doc f) → (known : ℕ → Bool) → ((y : ℕ) → y < doc.size → known y ≡ not (is_nil doc y)) → (v : ℕ)
      → row_misses p doc.size rep (selected doc r) (in_row doc r) known v ≡ (present doc p r v && has_nil doc p r v)
  unfolding row_misses present has_nil
  nil_missed r w known marks v =
      behind (selected doc r v) (p v) _ _
      (λ s.
      asks-is r w v s (λ x. not (known x))
      ∙ any_same _ _ 0 doc.size
      (λ f a b.
      and_same (gives doc p r v f) _ _
      (λ i. ap not (marks (rep f) (represents.low f (omega arith)) ∙ ap not (rep-nil represents f (gives-version r w v s f i))) ∙ not_not (is_nil doc f))))
    where
      not_not : (b : Bool) → not (not b) ≡ b
      not_not true = refl
      not_not false = refl

  -- the code's presence is the window's
  module _ (periods : Periods doc begins ends) (window : Window) (e : window.from ≡ from) (i : window.to ≡ to) where
    during-meets : (v : ℕ) → is_version doc v ≡ true → p v ≡ meets doc window v
    unfolding meets
    during-meets v y = rw (y, e, i, periods.begin.at v, periods.end.at v)

    during-agrees : (r : Rule) → Agree doc p (meets doc window) r
    unfolding Agree
    during-agrees r v y = during-meets v (read-version doc r v y)

    in_window : (q r : Rule) → offends_in doc p window q r ≡ offends_in doc (meets doc window) window q r
    in_window q r = offends_in-agree doc p (meets doc window) q r (during-agrees r) (λ _. during-agrees q) window

    spoilt_in : (r : Rule) (v : ℕ) → spoils doc p r v ≡ spoils doc (meets doc window) r v
    unfolding spoils
    spoilt_in r v = ap (λ b. (is_key r || is_reference r) && b) (nil_agree doc p (meets doc window) r (during-agrees r) v)

-- the first row that offends is the first version that does, nils aside
module _ (t : Trail) (s : Stretch) (doc : Doc) (q r : Rule) (w : Window) (own : ReadyAlong doc r t s)
    (valued_only : (f : ℕ) → wants doc r f ≡ valued doc f) (e : w.from ≡ s.from) (i : w.to ≡ s.to) {x : Found} where
  answer-by : (bad : ℕ → Bool) → ((v : ℕ) → offends_in doc (there s) w q r v ≡ (bad v || spoils doc (there s) r v))
      → x ≡ first bad 0 doc.size → AsideIn doc w q r x
  answer-by bad same found =
      record {
        test = bad;
        lowest = found;
        told = λ v.
            ap (λ (h : ℕ → Bool). h v) (sym (in_window doc _ _ _ own.represents s.from s.to own.periods w e i q r)) ∙ same v
            ∙ ap (λ b. bad v || b) (spoilt_in doc _ _ _ own.represents s.from s.to own.periods w e i r v);
      }

  pub shared_answer : (groups : List ℕ) → Groups doc groups → (needy : Bool) → ((r.kind ≡ 1) × (needy ≡ true)) ⊎ ((r.kind ≡ 2) × (needy ≡ false))
      → x ≡ first (row_shares (there s) (size s) (stands s) (selected doc r) (in_row doc r) (λ v. get_or groups v 0 + 1) needy) 0 (size s)
      → AsideIn doc w q r x
  shared_answer groups grouped needy kinds found =
      answer-by _ (offends-told doc _ _ _ own.represents s.from s.to q r valued_only groups grouped w needy kinds) (rw own.periods.begin.size at found)

  pub missing_answer : (held : Trail) → ReferredAlong doc q held s → r.kind ≡ 3 → (known : ℕ → Bool)
      → ((y : ℕ) → known y ≡ any (holder (there s) (size s) (stands s) (selected doc q) (in_row doc q) y) 0 (size s))
      → x ≡ first (row_misses (there s) (size s) (stands s) (selected doc r) (in_row doc r) known) 0 (size s)
      → AsideIn doc w q r x
  missing_answer held referred kind known holders found =
      let n = own.periods.begin.size in
      answer-by _
      (misses_told doc _ _ _ own.represents s.from s.to q r valued_only referred.valued_only known (λ y. rw n at (holders y)) w kind) (rw n at found)

  -- a mark that is missing from a value is a nil's
  pub nil_answer : (known : ℕ → Bool) → ((y : ℕ) → y < doc.size → known y ≡ not (is_nil doc y))
      → x ≡ first (row_misses (there s) (size s) (stands s) (selected doc r) (in_row doc r) known) 0 (size s)
      → x ≡ first (λ v. present doc (meets doc w) r v && has_nil doc (meets doc w) r v) 0 doc.size
  nil_answer known marks found =
      (rw own.periods.begin.size at found)
      ∙ first-same _ _ 0 doc.size
      (λ v a b.
      nil_missed doc _ _ _ own.represents s.from s.to r valued_only known marks v
      ∙ nil_agree doc (there s) (meets doc w) r (during-agrees doc _ _ _ own.represents s.from s.to own.periods w e i r) v)
