-- A version offends the rule exactly where its row offends, or a nil spoils it: once over the kinds.
use mathlib.Core.Path.{◌≡◌, refl, sym, ◌∙◌, ap, ap₂, fun_ext}
use mathlib.Core.Logic.{⊎_elim}
use mathlib.Core.Bool.{Bool, true, false, ◌&&◌, ◌||◌, not, and_comm, and_assoc, and-true, and-false, or-true, or-false, false≢true}
use mathlib.Core.List.{List}
use Prim.Native.Nat.{ℕ, zero, suc, ◌<◌}
use native.Mathlib.Omega.{arith}
use lib.IntN.{pos}
use lib.Dec.{eqb, leb, ltb}
use lib.ListN.{get_or}
use borrow.Author.Tests.{eqb-true, eqb-false, eq-eqb, ne_eqb, ltb-true, lt-ltb}
use Rattle.meaning.specs.declared.Rule.{Rule}
use Rattle.meaning.specs.Walk.{any, count, first, Found}
use Rattle.meaning.specs.Document.{Doc, is_version}
use Rattle.meaning.specs.Rules.{by_kind, is_key, is_reference, is_sequenced}
use Rattle.meaning.specs.Select.{selected, field_of, valued, is_nil, is_number, same_value, within, present, gives, has_nil, has}
use Rattle.meaning.specs.Day.{alive, values, shares_only, taken, key, unique, reference, cardinality, datatype, breaks, offends}
use Rattle.meaning.proofs.Basics.{went, le_or_lt, and_l, and_same}
use Rattle.meaning.proofs.Walks.{any_none, any_some, any-true, any_same, count_same}
use Rattle.meaning.proofs.Selects.{selected-version, field_version, one-holder}
use Rattle.columns.specs.Lent.{Periods}
use Rattle.marks.specs.Marks.{marked}
use Rattle.values.specs.Represents.{Represents}
use Rattle.values.proofs.Equals.{known_same, nil_unlike}
use Rattle.prepare.specs.Spoiling.{spoils, AsideOn}
use Rattle.prepare.specs.Rows.{wants_by, wants, in_row}
use Rattle.day.specs.Ready.{counted, distinct, referring, TermsBy, Terms}
use Rattle.day.specs.Settled.{Posed}
use Rattle.day.specs.Row.{number, only, outside, wrong, keeps, row_breaks}
use Rattle.day.specs.Along.{during, size, there, stands, ReadyAlong}
use Rattle.day.specs.declared.lent.Trail.{Trail}
use Rattle.day.specs.declared.lent.Stretch.{Stretch}
use Rattle.day.specs.declared.terms.Bounds.{Bounds}
use Rattle.day.specs.Table.{holder, seen_below, row_offends}
use Rattle.day.proofs.Single.{One, one, any-count, eqb_sym, outside-one, outside-most, outside-within}

-- the middle one of three tests, put last
last_out : (a b c : Bool) → a || b || c ≡ (a || c || b)
last_out true b c = refl
last_out false true true = refl
last_out false true false = refl
last_out false false true = refl
last_out false false false = refl

module _ (doc : Doc) (begins ends reps : List ℕ) (periods : Periods doc begins ends) (represents : Represents doc reps) (d to : ℕ)
    (on_day : (v : ℕ) → is_version doc v ≡ true → ltb (doc.begin v) to ≡ leb (doc.begin v) d) where
  abbrev p : ℕ → Bool
  p = during begins ends d to

  abbrev rep : ℕ → ℕ
  rep f = get_or reps f 0

  there-alive : (v : ℕ) → is_version doc v ≡ true → p v ≡ alive doc d v
  unfolding alive
  there-alive v e = rw (e, periods.begin.at v, periods.end.at v, on_day v e)

  module _ (r : Rule) where
    -- the present ones of a row are the present field versions that the rule wants
    row_is : (v : ℕ) → selected doc r v ≡ true → (f : ℕ) → in_row doc r v f && p f ≡ (field_of doc r v f && alive doc d f && wants doc r f)
    unfolding in_row
    row_is v s f = rw s (swap (field_of doc r v f) (wants doc r f) (p f) (alive doc d f) (λ y. there-alive f (field_version doc r v f s y)))
      where
        swap : (a b x y : Bool) → (a ≡ true → x ≡ y) → a && b && x ≡ (a && y && b)
        swap true b x y h = ap (λ z. b && z) (h refl) ∙ and_comm b y
        swap false b x y h = refl

    gives-field : (v f : ℕ) → gives doc (alive doc d) r v f ≡ true → field_of doc r v f ≡ true
    unfolding gives
    gives-field v f e = and_l (field_of doc r v f) (alive doc d f) (and_l _ (valued doc f) e)

    gives-version : (v : ℕ) → selected doc r v ≡ true → (f : ℕ) → gives doc (alive doc d) r v f ≡ true → is_version doc f ≡ true
    gives-version v s f e = field_version doc r v f s (gives-field v f e)

    module _ (w : (f : ℕ) → wants doc r f ≡ valued doc f) (v : ℕ) (s : selected doc r v ≡ true) where
      row_gives : (λ f. in_row doc r v f && p f) ≡ gives doc (alive doc d) r v
      unfolding gives
      row_gives = fun_ext (λ f. row_is v s f ∙ ap (λ b. field_of doc r v f && alive doc d f && b) (w f))

      number_is : number p doc.size (in_row doc r v) ≡ values doc (alive doc d) r v
      unfolding number values
      number_is = ap (λ (h : ℕ → Bool). count h 0 doc.size) row_gives

      only-is : (test : ℕ → Bool) → only p doc.size (in_row doc r v) rep test ≡ (eqb (values doc (alive doc d) r v) 1 && any (λ f. gives doc (alive doc d) r v f && test (rep f)) 0 doc.size)
      unfolding only
      only-is test = ap₂ (λ k (h : ℕ → Bool). eqb k 1 && any (λ f. h f && test (rep f)) 0 doc.size) number_is row_gives

      -- what is asked of the only value is asked of the one field version that gives it
      only-asks : (test : ℕ → Bool) (b : Bool) → ((o : One (gives doc (alive doc d) r v) 0 doc.size) → test (rep o.at) ≡ b)
          → only p doc.size (in_row doc r v) rep test ≡ (eqb (values doc (alive doc d) r v) 1 && b)
      unfolding values
      only-asks test b h =
          only-is test
          ∙ and_same (eqb (values doc (alive doc d) r v) 1) _ b
          (λ e. let o = one (gives doc (alive doc d) r v) 0 doc.size (eqb-true _ 1 e) in o.asks (λ f. test (rep f)) ∙ h o)

  -- the holders of a value among the rows of q
  module _ (q : Rule) (w : (f : ℕ) → wants doc q f ≡ valued doc f) where
    abbrev holds : ℕ → ℕ → Bool
    holds = holder p doc.size rep (selected doc q) (in_row doc q)

    holds-is : (y u : ℕ) → holds y u ≡ (present doc (alive doc d) q u && eqb (values doc (alive doc d) q u) 1 && any (λ g. gives doc (alive doc d) q u g && eqb (rep g) y) 0 doc.size)
    unfolding holder present
    holds-is y u = regroup (selected doc q u) (p u) (alive doc d u) _ _ _ (λ s. there-alive u (selected-version doc q u s)) (λ s. only-is q w u s (λ x. eqb x y))
      where
        regroup : (a x y k l m : Bool) → (a ≡ true → x ≡ y) → (a ≡ true → k ≡ (l && m)) → a && (x && k) ≡ (a && y && l && m)
        regroup true x y k l m h g = ap₂ ◌&&◌ (h refl) (g refl) ∙ sym (and_assoc y l m)
        regroup false x y k l m h g = refl

    chosen : (u : ℕ) → present doc (alive doc d) q u ≡ true → selected doc q u ≡ true
    unfolding present
    chosen u e = and_l (selected doc q u) (alive doc d u) e

    -- u holds the only value of v, if representatives tell whether a value of u is equal to it
    shares-is : (r : Rule) (v : ℕ) (o : One (gives doc (alive doc d) r v) 0 doc.size) (u : ℕ)
        → (selected doc q u ≡ true → (g : ℕ) → gives doc (alive doc d) q u g ≡ true → same_value doc o.at g ≡ eqb (rep o.at) (rep g))
        → holds (rep o.at) u ≡ shares_only doc (alive doc d) r v q u
    unfolding shares_only has
    shares-is r v o u tells =
        holds-is (rep o.at) u
        ∙ and_same (present doc (alive doc d) q u && eqb (values doc (alive doc d) q u) 1) _ _
        (λ e.
        let t = chosen u (and_l (present doc (alive doc d) q u) _ e) in
        any_same _ _ 0 doc.size (λ g a b. and_same (gives doc (alive doc d) q u g) _ _ (λ i. eqb_sym (rep g) (rep o.at) ∙ sym (tells t g i)))
        ∙ sym (o.asks (has doc (alive doc d) q u)))

    -- nobody shares a nil
    nil_shared : (r : Rule) (v : ℕ) (o : One (gives doc (alive doc d) r v) 0 doc.size) → is_nil doc o.at ≡ true → any (shares_only doc (alive doc d) r v q) 0 doc.size ≡ false
    unfolding shares_only has
    nil_shared r v o n =
        any_none _ 0 doc.size
        (λ u a b.
        ap (λ x. present doc (alive doc d) q u && eqb (values doc (alive doc d) q u) 1 && x)
        (o.asks (has doc (alive doc d) q u) ∙ any_none _ 0 doc.size (λ g a b. rw (nil_unlike doc o.at g n) (and-false (gives doc (alive doc d) q u g))))
        ∙ and-false (present doc (alive doc d) q u && eqb (values doc (alive doc d) q u) 1))

  -- by the kind k of r: old are the marks before the first row, of the rule referred to or of none
  module _ (q r : Rule) (referred : is_reference r ≡ true → (f : ℕ) → wants doc q f ≡ valued doc f) (sequenced : is_sequenced r ≡ true) (mode low high : ℕ) (old : ℕ → Bool)
      (fresh : (mode ≡ referring → ⊥) → (y : ℕ) → old y ≡ false)
      (stands : is_reference r ≡ true → mode ≡ referring → (y : ℕ) → old y ≡ any (holder p doc.size rep (selected doc q) (in_row doc q) y) 0 doc.size) where
    wants-by_lem : (k : ℕ) → r.kind ≡ k → (f : ℕ) → wants doc r f ≡ wants_by doc r f k
    unfolding wants
    wants-by_lem k e f = rw (sequenced, e)

    abbrev seen : ℕ → ℕ → Bool
    seen = seen_below p doc.size rep (selected doc r) (in_row doc r) mode old

    module _ (v : ℕ) (s : selected doc r v ≡ true) where
      -- a value of a key or a unique rule is seen in a lower row; that has no version of this row
      distinct_is : (w : (f : ℕ) → wants doc r f ≡ valued doc f) → mode ≡ distinct → only p doc.size (in_row doc r v) rep (λ x. wrong mode (seen v x)) ≡ taken doc (alive doc d) r v
      unfolding taken seen_below wrong keeps gives
      distinct_is w m =
          only-asks r w v s (λ x. wrong mode (seen v x)) _
          (λ o. rw (fresh (λ e. omega (arith, m, e)) (rep o.at), m)
          (any_same _ _ 0 v
          (λ u a b.
          shares-is r w r v o u
          (λ t g i.
          represents.same o.at g (gives-version r v s o.at o.passes) (gives-version r u t g i)
          (λ e. let same = one-holder doc r u v g (gives-field r u g i) (rw (← e) (gives-field r v o.at o.passes)) in omega arith)))))

      -- a value of a reference that is no nil is not seen in the rows of the rule referred to
      unseen_is : is_reference r ≡ true → mode ≡ referring → (o : One (gives doc (alive doc d) r v) 0 doc.size) → is_nil doc o.at ≡ false
          → wrong mode (seen v (rep o.at)) ≡ not (any (shares_only doc (alive doc d) r v q) 0 doc.size)
      unfolding seen_below wrong keeps
      unseen_is k m o n =
          rw (stands k m (rep o.at), m)
          (ap not
          (or-false _
          ∙ any_same _ _ 0 doc.size
          (λ u a b.
          shares-is q (referred k) r v o u
          (λ t g i. known_same represents o.at g (gives-version r v s o.at o.passes) (gives-version q u t g i) n))))

      counted_is : mode ≡ counted → only p doc.size (in_row doc r v) rep (λ x. wrong mode (seen v x)) ≡ false
      unfolding only wrong
      counted_is m =
          ap (λ b. eqb (number p doc.size (in_row doc r v)) 1 && b) (any_none _ 0 doc.size (λ f a b. rw m (and-false (in_row doc r v f && p f))))
          ∙ and-false (eqb (number p doc.size (in_row doc r v)) 1)

      valued_by : (k : ℕ) → r.kind ≡ k → ((f : ℕ) → wants_by doc r f k ≡ valued doc f) → (f : ℕ) → wants doc r f ≡ valued doc f
      valued_by k e h f = wants-by_lem k e f ∙ h f

      -- to a cardinality every field version counts, to a datatype those with a wrong value
      all-number : ((f : ℕ) → wants doc r f ≡ true) → number p doc.size (in_row doc r v) ≡ count (λ f. field_of doc r v f && alive doc d f) 0 doc.size
      unfolding number
      all-number w =
          count_same _ _ 0 doc.size
          (λ f a b. row_is r v s f ∙ ap (λ x. field_of doc r v f && alive doc d f && x) (w f) ∙ and-true (field_of doc r v f && alive doc d f))

      wrong-number : ((f : ℕ) → wants doc r f ≡ (valued doc f && not (is_nil doc f || (is_number doc f && within r (doc.value f)))))
          → number p doc.size (in_row doc r v) ≡ count (λ f. gives doc (alive doc d) r v f && not (is_nil doc f || (is_number doc f && within r (doc.value f)))) 0 doc.size
      unfolding number gives
      wrong-number w =
          count_same _ _ 0 doc.size
          (λ f a b.
          row_is r v s f ∙ ap (λ x. field_of doc r v f && alive doc d f && x) (w f)
          ∙ sym (and_assoc (field_of doc r v f && alive doc d f) (valued doc f) (not (is_nil doc f || (is_number doc f && within r (doc.value f))))))

      -- a row has none, one, or at most one
      none : low ≡ 0 → high ≡ 0 → outside low high (number p doc.size (in_row doc r v)) ≡ ltb 0 (number p doc.size (in_row doc r v))
      none l h = rw (l, h) (outside-most 0 (number p doc.size (in_row doc r v)))

      just_one : (w : (f : ℕ) → wants doc r f ≡ valued doc f) → low ≡ 1 → high ≡ 1 → outside low high (number p doc.size (in_row doc r v)) ≡ not (eqb (values doc (alive doc d) r v) 1)
      just_one w l h = rw (l, h, number_is r w v s) (outside-one (values doc (alive doc d) r v))

      most-one : (w : (f : ℕ) → wants doc r f ≡ valued doc f) → low ≡ 0 → high ≡ 1 → outside low high (number p doc.size (in_row doc r v)) ≡ ltb 1 (values doc (alive doc d) r v)
      most-one w l h = rw (l, h, number_is r w v s) (outside-most 1 (values doc (alive doc d) r v))

      -- a row with a nil has a value
      nil_given : has_nil doc (alive doc d) r v ≡ true → 0 < values doc (alive doc d) r v
      unfolding has_nil values
      nil_given e =
          let f = any-true _ 0 doc.size e in
          ltb-true 0 _ (sym (any-count (gives doc (alive doc d) r v) 0 doc.size)
          ∙ any_some (gives doc (alive doc d) r v) 0 doc.size f.0 (record { from = f.1.from; below = f.1.below; passes = and_l _ _ f.1.passes }))

      lone : eqb (values doc (alive doc d) r v) 1 ≡ true → One (gives doc (alive doc d) r v) 0 doc.size
      unfolding values
      lone e = one (gives doc (alive doc d) r v) 0 doc.size (eqb-true _ 1 e)

      nil_asked : (o : One (gives doc (alive doc d) r v) 0 doc.size) → has_nil doc (alive doc d) r v ≡ is_nil doc o.at
      unfolding has_nil
      nil_asked o = o.asks (is_nil doc)

      -- so a reference offends by its row, or by a nil
      reference-told : (w : (f : ℕ) → wants doc r f ≡ valued doc f) → is_reference r ≡ true → mode ≡ referring → low ≡ 0 → high ≡ 1
          → reference doc (alive doc d) q r v ≡ (row_breaks p doc.size rep mode low high (in_row doc r v) (seen v) || has_nil doc (alive doc d) r v)
      unfolding reference row_breaks
      reference-told w k m l h =
          meet (ltb 1 (values doc (alive doc d) r v)) (eqb (values doc (alive doc d) r v) 1) (any (shares_only doc (alive doc d) r v q) 0 doc.size)
          unseen (has_nil doc (alive doc d) r v)
          (λ e.
          let o = lone e in
          let n = nil_asked o in
          let x = o.asks (λ f. wrong mode (seen v (rep f))) in
          ⊎_elim
          (λ y. let here : has_nil doc (alive doc d) r v ≡ true = n ∙ y in rw (here, nil_shared q (referred k) r v o y) (sym (or-true unseen)))
          (λ z. let not_here : has_nil doc (alive doc d) r v ≡ false = n ∙ z in rw not_here (sym (unseen_is k m o z) ∙ sym x ∙ sym (or-false _)))
          (went (is_nil doc o.at)))
          (λ e t. lt-ltb 1 (values doc (alive doc d) r v) (⊎_elim (λ l. absurd (eqb-false (values doc (alive doc d) r v) 1 e (omega (arith, nil_given t)))) (λ l. l) (le_or_lt (values doc (alive doc d) r v) 1)))
          ∙ sym (ap (λ b. b || has_nil doc (alive doc d) r v) (ap₂ ◌||◌ (most-one w l h) (only-is r w v s (λ x. wrong mode (seen v x)))))
        where
          unseen : Bool
          unseen = any (λ f. gives doc (alive doc d) r v f && wrong mode (seen v (rep f))) 0 doc.size

          meet : (a e s x n : Bool) → (e ≡ true → not s ≡ (x || n)) → (e ≡ false → n ≡ true → a ≡ true) → a || (e && not s) ≡ (a || (e && x) || n)
          meet true e s x n f g = refl
          meet false true s x n f g = f refl
          meet false false s x true f g = absurd (false≢true (g refl refl))
          meet false false s x false f g = refl

      -- by the kind: a row breaks the rule, or a nil spoils it
      breaks-told : (k : ℕ) → r.kind ≡ k → TermsBy r k mode low high
          → breaks doc (alive doc d) q r v k ≡ (row_breaks p doc.size rep mode low high (in_row doc r v) (seen v) || ((eqb k 1 || eqb k 3) && has_nil doc (alive doc d) r v))
      unfolding row_breaks by_kind breaks TermsBy wants_by key unique cardinality datatype
      breaks-told zero e terms = absurd terms
      breaks-told (suc zero) e terms =
          let w = valued_by 1 e (λ f. refl) in
          rw (just_one w terms.1 terms.2, distinct_is w terms.0) (last_out (not (eqb (values doc (alive doc d) r v) 1)) (has_nil doc (alive doc d) r v) (taken doc (alive doc d) r v))
      breaks-told (suc (suc zero)) e terms =
          let w = valued_by 2 e (λ f. refl) in
          sym (or-false _ ∙ ap₂ ◌||◌ (most-one w terms.1 terms.2) (distinct_is w terms.0))
      breaks-told (suc (suc (suc zero))) e terms = reference-told (valued_by 3 e (λ f. refl)) (eq-eqb r.kind 3 e) terms.0 terms.1 terms.2
      breaks-told (suc (suc (suc (suc zero)))) e terms =
          sym
          (or-false _ ∙ ap₂ ◌||◌ (outside-within r low high _ terms.1 terms.2) (counted_is terms.0) ∙ or-false _
          ∙ ap (λ c. not (within r (pos c))) (all-number (wants-by_lem 4 e)))
      breaks-told (suc (suc (suc (suc (suc k))))) e terms =
          let other = suc (suc (suc (suc (suc k)))) in
          rw (ne_eqb other 1 (λ z. omega arith), ne_eqb other 3 (λ z. omega arith))
          (sym
          (or-false _ ∙ ap₂ ◌||◌ (none terms.1 terms.2) (counted_is terms.0) ∙ or-false _
          ∙ ap (ltb 0) (wrong-number (wants-by_lem other e)) ∙ sym (any-count _ 0 doc.size)))

    pub offends-told : Terms r mode low high → (v : ℕ)
        → offends doc (alive doc d) q r v ≡ (row_offends p doc.size rep (selected doc r) (in_row doc r) mode old low high v || spoils doc (alive doc d) r v)
    unfolding row_offends offends present spoils Terms
    offends-told terms v =
        behind (selected doc r v) (p v) (alive doc d v) _ _ (is_key r || is_reference r) (has_nil doc (alive doc d) r v) (λ s. there-alive v (selected-version doc r v s)) (λ s. breaks-told v s r.kind refl terms)
      where
        spread : (y k n h : Bool) → y && (k || (n && h)) ≡ ((y && k) || (n && (y && h)))
        spread true k n h = refl
        spread false k n h = sym (and-false n)

        behind : (a x y l k n h : Bool) → (a ≡ true → x ≡ y) → (a ≡ true → l ≡ (k || (n && h))) → a && y && l ≡ ((a && (x && k)) || (n && (a && y && h)))
        behind true x y l k n h f g = rw (f refl, g refl) (spread y k n h)
        behind false x y l k n h f g = sym (and-false n)

-- the lists of a rule, and of the rule that it refers to
module _ (own held : Trail) (s : Stretch) (b : Bounds) where
  -- the first row that offends, by these marks, is the first version that does, nils aside
  abbrev Answers : List ℕ → Type 0
  Answers marks =
      (doc : Doc) (q r : Rule) → Posed doc q r own held s b → (x : Found)
      → x ≡ first (row_offends (there s) (size s) (stands s) (selected doc r) (in_row doc r) b.mode (marked marks) b.low b.high) 0 (size s)
      → AsideOn doc (alive doc s.from) q r x

  -- the marks tell the only values of the rule referred to
  pub answers-referring : b.mode ≡ referring → (marks marks' : List ℕ) → marks ≡ marks'
      → ((doc : Doc) (q : Rule) → ReadyAlong doc q held s → (y : ℕ)
      → marked marks' y ≡ any (holder (there s) (size s) (stands s) (selected doc q) (in_row doc q) y) 0 (size s))
      → Answers marks
  answers-referring m marks marks' e holders doc q r p x found =
      let n = p.ready.periods.begin.size in
      record {
        test = _;
        lowest = rw n at found;
        told = offends-told doc _ _ _ p.ready.periods p.ready.represents s.from s.to p.on_day q r (λ k. (p.referred k).valued_only) p.sequenced b.mode b.low b.high (marked marks)
            (λ i. absurd (i m))
            (λ k i y. rw e (rw n at (holders doc q (p.referred k).ready y)))
            p.terms;
      }

  -- the marks tell nothing yet
  pub answers-fresh : (b.mode ≡ referring → ⊥) → (marks marks' : List ℕ) → marks ≡ marks' → ((x : ℕ) → marked marks' x ≡ false) → Answers marks
  answers-fresh m marks marks' e none doc q r p x found =
      record {
        test = _;
        lowest = rw p.ready.periods.begin.size at found;
        told = offends-told doc _ _ _ p.ready.periods p.ready.represents s.from s.to p.on_day q r (λ k. (p.referred k).valued_only) p.sequenced b.mode b.low b.high (marked marks)
            (λ i y. rw e (none y))
            (λ k i. absurd (m i))
            p.terms;
      }
