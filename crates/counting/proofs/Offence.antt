-- An item number is out of range by what is counted under it exactly where the meaning says that its versions offend.
use mathlib.Core.Path.{◌≡◌, refl, sym, ◌∙◌, ap, ap₂, fun_ext}
use mathlib.Core.Logic.{⊎_elim}
use mathlib.Core.Bool.{Bool, true, false, ◌&&◌, ◌||◌, not, cond}
use mathlib.Core.List.{List}
use Prim.Native.Nat.{ℕ, ◌<◌}
use native.Mathlib.Nat.{le_refl}
use native.Mathlib.Omega.{arith}
use lib.IntN.{ℤ, pos}
use lib.Signed.{le_z}
use lib.Dec.{eqb, leb}
use lib.ListN.{get_or}
use borrow.Author.Tests.{eqb-true, eq-eqb, le-leb}
use Rattle.meaning.specs.declared.Rule.{Rule}
use Rattle.meaning.specs.Walk.{any, count, first}
use Rattle.meaning.specs.Document.{Doc, is_version, above, number_of}
use Rattle.meaning.specs.Rules.{by_kind, is_sequenced}
use Rattle.meaning.specs.Select.{selected, field_of, valued, is_nil, same_value, present, gives}
use Rattle.meaning.specs.Window.{Window, shortened, meets, under, counts, cardinality_in, breaks_in, offends_in}
use Rattle.meaning.proofs.Basics.{went, tests_same, and_l, and_r, and_same, both}
use Rattle.meaning.proofs.Walks.{any_some, any-true, count_same, first-same}
use Rattle.meaning.proofs.Says.{says}
use Rattle.meaning.proofs.Selects.{selected-version, selected-here, field_version}
use Rattle.columns.specs.Lent.{Periods}
use Rattle.columns.specs.Judgeable.{Judgeable}
use Rattle.values.specs.Represents.{Represents}
use Rattle.values.proofs.Equals.{known_same}
use Rattle.values.proofs.Counts.{taken, counts-taken}
use Rattle.prepare.specs.Rows.{wants, in_row}
use Rattle.prepare.proofs.Valued.{counted-wants}
use Rattle.groups.specs.Groups.{in_group}
use Rattle.groups.proofs.Gathering.{group_under, under-group, row-version}
use Rattle.day.proofs.Single.{outside-bounds}
use Rattle.day.specs.declared.lent.Trail.{Trail}
use Rattle.day.specs.declared.lent.Stretch.{Stretch}
use Rattle.day.specs.Along.{during, size, there, stands}
use Rattle.counting.specs.declared.Asked.{Asked}
use Rattle.counting.specs.Number.{number_in, breaks}
use Rattle.counting.specs.Ready.{ReadyAlong, Terms}
use Rattle.counting.proofs.Numbering.{first-of_value}
use Rattle.counting.proofs.Looking.{offending}

-- the bound that is asked, 0 where the window is shortened, is the rule's or none
asked : (short : Bool) (lowest : ℤ) (low c : ℕ) → pos low ≡ cond short (pos 0) lowest → leb low c ≡ (short || le_z lowest (pos c))
asked true lowest low c e = let none : low ≡ 0 = cc in le-leb low c (omega arith)
asked false lowest low c e = rw (← e)

-- a document that can be judged, in a window
module _ (doc : Doc) (judgeable : Judgeable doc) (w : Window) where
  -- a version that is not of the root stands in one that lasts as long or longer
  above-meets : (f : ℕ) → 0 < doc.parent f → meets doc w f ≡ true → meets doc w (above doc f) ≡ true
  unfolding meets
  above-meets f q e =
      let m = simp says at e in
      let w = (judgeable.seated f m.0.0).over q in
      simp says ((w.version, omega (arith, w.from)), omega (arith, w.to))

  module _ (r : Rule) (windowed : is_sequenced r ≡ false) (kind : r.kind ≡ 4) where
    -- nils are passed over where values are counted
    wanted : (f : ℕ) → wants doc r f ≡ (valued doc f && not (eqb r.distinct 1 && is_nil doc f))
    wanted f = counted-wants doc r f windowed kind

    -- a selected version is present where a field version of it is
    holder-meets : (v f : ℕ) → selected doc r v ≡ true → field_of doc r v f ≡ true → meets doc w f ≡ true → meets doc w v ≡ true
    unfolding field_of
    holder-meets v f s e m =
        ⊎_elim
        (λ z. rw (eqb-true f v (rw z at e)) at m)
        (λ z.
        let up : above doc f ≡ v = (simp says at (rw z at e)).1 in
        let here = selected-here doc r v s in
        let some : doc.parent f ≡ 0 → ⊥ = λ q. omega (arith, ap doc.parent q, judgeable.top) in
        rw up at (above-meets f (omega arith) m))
        (went (eqb r.field 0))

    -- what is counted of those under an item number are the present ones of its group
    under-is : (n f : ℕ) → taken doc (meets doc w) r n (eqb r.distinct 1) f ≡ (in_group doc r n f && meets doc w f)
    unfolding under present gives in_row
    under-is n f =
        let test : ℕ → Bool = λ v. present doc (meets doc w) r v && gives doc (meets doc w) r v f && eqb (number_of doc v) n in
        let spared = not (eqb r.distinct 1 && is_nil doc f) in
        tests_same (taken doc (meets doc w) r n (eqb r.distinct 1) f) (in_group doc r n f && meets doc w f)
        (λ e.
        let k = any-true test 0 doc.size (and_l (under doc (meets doc w) r n f) spared e) in
        let v = k.0 in
        let t = simp says at k.1.passes in
        let want = wanted f ∙ both (valued doc f) spared t.0.1.1 (and_r (under doc (meets doc w) r n f) spared e) in
        both (in_group doc r n f) (meets doc w f)
        (under-group doc r n f (record { of = v; row = simp says ((t.0.0.0, t.0.1.0.0), want); number = t.1 }))
        t.0.1.0.1)
        (λ e.
        let u = group_under doc r n f (and_l (in_group doc r n f) (meets doc w f) e) in
        let m = and_r (in_group doc r n f) (meets doc w f) e in
        let v = u.of in
        let t = simp says at u.row in
        let want = sym (wanted f) ∙ t.1 in
        both (under doc (meets doc w) r n f) spared
        (any_some test 0 doc.size v
        (record {
          from = omega arith;
          below = omega (arith, selected-here doc r v t.0.0);
          passes = simp says (((t.0.0, holder-meets v f t.0.0 t.0.1 m), ((t.0.1, m), and_l (valued doc f) spared want)), u.number);
        }))
        (and_r (valued doc f) spared want))

    under-version : (n f : ℕ) → under doc (meets doc w) r n f ≡ true → is_version doc f ≡ true
    unfolding under present gives
    under-version n f e =
        let k = any-true _ 0 doc.size e in
        let t = simp says at k.1.passes in
        field_version doc r k.0 f t.0.0.0 t.0.1.0.0

    module _ (begins ends reps : List ℕ) (periods : Periods doc begins ends) (represents : Represents doc reps) where
      abbrev p : ℕ → Bool
      p = during begins ends w.from w.to

      abbrev rep : ℕ → ℕ
      rep f = get_or reps f 0

      there-meets : (v : ℕ) → is_version doc v ≡ true → p v ≡ meets doc w v
      unfolding meets
      there-meets v e = rw (e, periods.begin.at v, periods.end.at v)

      group_is : (n : ℕ) → (λ f. in_group doc r n f && p f) ≡ taken doc (meets doc w) r n (eqb r.distinct 1)
      group_is n =
          fun_ext (λ f.
          and_same (in_group doc r n f) (p f) (meets doc w f) (λ i. let u = group_under doc r n f i in there-meets f (row-version doc r u.of f u.row))
          ∙ sym (under-is n f))

      -- what is counted by values or by field versions is what the meaning counts
      number_is : (distinct : Bool) → distinct ≡ eqb r.distinct 1 → (n : ℕ)
          → number_in p doc.size rep distinct (in_group doc r n) ≡ count (counts doc (meets doc w) r n) 0 doc.size
      unfolding number_in counts
      number_is distinct d n = ap (counted distinct) (group_is n ∙ ap (taken doc (meets doc w) r n) (sym d)) ∙ by distinct d
        where
          counted : Bool → (ℕ → Bool) → ℕ
          counted b h = cond b (count (λ x. any (λ f. h f && eqb (rep f) x) 0 doc.size) 0 doc.size) (count h 0 doc.size)

          same : (f g : ℕ) → taken doc (meets doc w) r n true f ≡ true → taken doc (meets doc w) r n true g ≡ true → same_value doc f g ≡ eqb (rep f) (rep g)
          same f g a b =
              known_same represents f g (under-version n f (and_l (under doc (meets doc w) r n f) (not (is_nil doc f)) a)) (under-version n g (and_l (under doc (meets doc w) r n g) (not (is_nil doc g)) b))
              (simp says at (and_r (under doc (meets doc w) r n f) (not (is_nil doc f)) a))

          by : (b : Bool) → b ≡ eqb r.distinct 1 → counted b (taken doc (meets doc w) r n b) ≡ count (counts doc (meets doc w) r n) 0 doc.size
          by true e =
              sym (first-of_value doc.size rep represents.low (taken doc (meets doc w) r n true) (same_value doc) same doc.size (le_refl doc.size))
              ∙ count_same _ _ 0 doc.size (λ f a b. sym (counts-taken doc (meets doc w) r n (sym e) f))
          by false e = count_same _ _ 0 doc.size (λ f a b. rw (← e))

      breaks-is : (distinct : Bool) (low high : ℕ) → Terms r (shortened w) distinct low high → (v : ℕ)
          → breaks p doc.size rep distinct low high (in_group doc r (number_of doc v)) ≡ cardinality_in doc (meets doc w) w r v
      unfolding breaks cardinality_in
      breaks-is distinct low high terms v =
          outside-bounds low high _
          ∙ ap (λ c. not (leb low c && leb c high)) (number_is distinct terms.distinct_is (number_of doc v))
          ∙ ap₂ (λ a b. not (a && b)) (asked (shortened w) r.low low _ terms.low_is) (rw (← terms.high_is))

      offends-is : (q : Rule) (distinct : Bool) (low high : ℕ) → Terms r (shortened w) distinct low high → (v : ℕ)
          → offending (selected doc r) p (λ u. breaks p doc.size rep distinct low high (in_group doc r (number_of doc u))) v ≡ offends_in doc (meets doc w) w q r v
      unfolding offends_in by_kind breaks_in present
      offends-is q distinct low high terms v =
          behind (selected doc r v) (p v) (meets doc w v) _ _ (λ s. there-meets v (selected-version doc r v s)) (breaks-is distinct low high terms v)
          ∙ sym (ap (breaks_in doc (meets doc w) w q r v) terms.kind)
        where
          behind : (a x y k l : Bool) → (a ≡ true → x ≡ y) → k ≡ l → a && (x && k) ≡ (a && y && l)
          behind true x y k l h g = ap₂ ◌&&◌ (h refl) g
          behind false x y k l h g = refl

-- the item number of version v is out of range, by the columns
abbrev pub bad_in : Stretch → Asked → Doc → Rule → ℕ → Bool
bad_in s a doc r v = breaks (there s) (size s) (stands s) a.distinct a.low a.high (in_group doc r (number_of doc v))

module _ (doc : Doc) (r : Rule) (t : Trail) (s : Stretch) (groups : List ℕ) (own : ReadyAlong doc r t s groups) (a : Asked) where
  -- versions of one class are of one item number
  pub alike : (u v : ℕ) → selected doc r u ≡ true → selected doc r v ≡ true → get_or groups u 0 ≡ get_or groups v 0 → bad_in s a doc r u ≡ bad_in s a doc r v
  alike u v i j e =
      let n = eqb-true (number_of doc u) (number_of doc v)
      (own.classes.same u v (selected-version doc r u i) (selected-version doc r v j) ∙ eq-eqb (get_or groups u 0) (get_or groups v 0) e) in
      ap (λ k. breaks (there s) (size s) (stands s) a.distinct a.low a.high (in_group doc r k)) n

  -- the first version that is selected, present and out of range is the first that offends
  pub answers : (q : Rule) (w : Window) → Terms r (shortened w) a.distinct a.low a.high → w.from ≡ s.from → w.to ≡ s.to
      → first (offending (selected doc r) (there s) (bad_in s a doc r)) 0 (size s) ≡ first (offends_in doc (meets doc w) w q r) 0 doc.size
  answers q w terms e i =
      ap (λ n. first (offending (selected doc r) (there s) (λ v. breaks (there s) n (stands s) a.distinct a.low a.high (in_group doc r (number_of doc v)))) 0 n)
      own.periods.begin.size
      ∙ rw (sym e, sym i)
      (first-same _ _ 0 doc.size (λ v i j. offends-is doc own.judgeable w r own.windowed terms.kind _ _ _ own.periods own.represents q a.distinct a.low a.high terms v))
