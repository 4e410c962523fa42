-- What an offender in a window comes to, by the kind of its rule.
use mathlib.Core.Path.{◌≡◌, refl, sym, ◌∙◌, ap}
use mathlib.Core.Logic.{◌⊎◌, inl, inr, ⊎_elim}
use mathlib.Core.Bool.{Bool, true, false, ◌&&◌, ◌||◌, not}
use mathlib.Core.List.{List}
use Prim.Native.Nat.{ℕ, zero, suc, ◌≤◌, ◌<◌}
use native.Mathlib.Omega.{arith}
use lib.IntN.{pos}
use lib.Signed.{le_z}
use lib.Dec.{leb, eqb}
use lib.ListN.{get_or}
use borrow.Author.Tests.{leb-false, ltb-true, not-true}
use Rattle.meaning.specs.declared.Rule.{Rule}
use Rattle.meaning.specs.Walk.{count}
use Rattle.meaning.specs.Document.{Doc, number_of}
use Rattle.meaning.specs.Rules.{by_kind, is_sequenced}
use Rattle.meaning.specs.Select.{selected, valued, is_nil, present, gives, has_nil, has}
use Rattle.meaning.specs.Window.{Window, shortened, meets, valueless, shares, shared_in, key_in, reference_in, under, counts, cardinality_in, breaks_in, offends_in}
use Rattle.meaning.proofs.Basics.{went, clear, and_l, and_r, both, and_else, or_cases, neither_l, neither_r}
use Rattle.meaning.proofs.Walks.{any_some, any-true}
use Rattle.meaning.proofs.Says.{says}
use Rattle.meaning.proofs.Selects.{version-here, selected-here}
use Rattle.columns.specs.Judgeable.{Judgeable}
use Rattle.values.proofs.Counts.{taken}
use Rattle.prepare.specs.Rows.{wants, in_row}
use Rattle.prepare.specs.Spoiling.{spoils}
use Rattle.prepare.proofs.Valued.{low-wants, counted-wants, known_only}
use Rattle.groups.specs.Groups.{in_group}
use Rattle.groups.proofs.Gathering.{row-version, row-selected, group_under, under-group}
use Rattle.steps.specs.Reaching.{wrong_after, Reaches}
use Rattle.steps.proofs.Windowed.{offends-in_lem}
use Rattle.parts.proofs.Tallies.{some, two}
use Rattle.soonest.proofs.Offences.{Lacks, Shared, Unheld, Some, nil_given, spoilt_by}

module _ (doc : Doc) (p : ℕ → Bool) (r : Rule) (w : (f : ℕ) → wants doc r f ≡ valued doc f) (v : ℕ) where
  -- what a selected version gives is a present one of its row
  gives_row : selected doc r v ≡ true → (f : ℕ) → gives doc p r v f ≡ true → (in_row doc r v f ≡ true) × (p f ≡ true)
  unfolding gives in_row
  gives_row s f e = let t = simp says at e in (simp says ((s, t.0.0), w f ∙ t.1), t.0.1)

  -- and the other way round
  row_gives : (f : ℕ) → in_row doc r v f ≡ true → p f ≡ true → gives doc p r v f ≡ true
  unfolding gives in_row
  row_gives f e h = let t = simp says at e in simp says ((t.0.1, h), sym (w f) ∙ t.1)

-- a present version is selected, and there
present-chosen : (doc : Doc) (p : ℕ → Bool) (r : Rule) (v : ℕ) → present doc p r v ≡ true → (selected doc r v ≡ true) × (p v ≡ true)
unfolding present
present-chosen doc p r v e = simp says at e

-- a field version stands below the count
row_below : (doc : Doc) (r : Rule) (v f : ℕ) → in_row doc r v f ≡ true → f < doc.size
row_below doc r v f e = version-here doc f (row-version doc r v f e)

module _ (doc : Doc) (p : ℕ → Bool) (r : Rule) (w : (f : ℕ) → wants doc r f ≡ valued doc f) (v : ℕ) (s : present doc p r v ≡ true) where
  -- a version without a value
  lacks : valueless doc p r v ≡ true → Lacks doc p r
  unfolding present valueless
  lacks e =
      let t = simp says at s in
      let none = simp says at e in
      record {
        v = v;
        chosen = t.0;
        here = t.1;
        none =
            λ f i h.
            clear (row_gives doc p r w v f i h) (none f (omega arith) (omega (arith, row_below doc r v f i)));
      }

  -- a version with a value that one of another item number has
  shared : shared_in doc p r v ≡ true → Shared doc p r (number_of doc)
  unfolding present shared_in shares has
  shared e =
      let other = any-true _ 0 v e in
      let u = other.0 in
      let t = simp says at other.1.passes in
      let one = any-true _ 0 doc.size t.1.1 in
      let f = one.0 in
      let i = simp says at one.1.passes in
      let two = any-true _ 0 doc.size i.1 in
      let g = two.0 in
      let j = simp says at two.1.passes in
      let mine = gives_row doc p r w v (present-chosen doc p r v s).0 f i.0 in
      let theirs = gives_row doc p r w u t.1.0.0 g j.0 in
      record {
        u = v;
        v = u;
        f = f;
        g = g;
        apart = λ n. t.0 (sym n);
        first = mine.0;
        second = theirs.0;
        first_here = mine.1;
        second_here = theirs.1;
        same = j.1;
      }

  -- a version with a value that none of the other rule has, or a nil
  unheld : (q : Rule) → ((f : ℕ) → wants doc q f ≡ valued doc f) → ((u g : ℕ) → in_row doc q u g ≡ true → p g ≡ true → p u ≡ true)
      → reference_in doc p q r v ≡ true → (has_nil doc p r v ≡ true) ⊎ Unheld doc p r q
  unfolding present reference_in has
  unheld q w' held e =
      let one = any-true _ 0 doc.size e in
      let f = one.0 in
      let i = simp says at one.1.passes in
      let mine = gives_row doc p r w v (present-chosen doc p r v s).0 f i.0 in
      ⊎_elim
      (λ n. inl (nil_given doc p r v f one.1.below i.0 n))
      (λ n. inr
      (record {
        v = v;
        f = f;
        known = n;
        in-row = mine.0;
        here = mine.1;
        none =
            λ u g j h same.
            let chosen = row-selected doc q u g j in
            clear same
            (i.1 u (omega arith) (omega (arith, selected-here doc q u chosen)) (chosen, held u g j h) g (omega arith) (omega (arith, row_below doc q u g j))
            (row_gives doc p q w' u g j h));
      }))
      (went (is_nil doc f))

-- An offender of a key, a unique rule and a reference.
module _ (doc : Doc) (p : ℕ → Bool) (w : Window) (q r : Rule) (v : ℕ) (bad : offends_in doc p w q r v ≡ true) where
  -- the offence by the kind
  broken : (k : ℕ) → r.kind ≡ k → breaks_in doc p w q r v k ≡ true
  unfolding offends_in
  broken k e = ap (breaks_in doc p w q r v) (sym e) ∙ bad

  -- to the first three kinds what has a value matters
  low : r.kind ≤ 3 → (f : ℕ) → wants doc r f ≡ valued doc f
  low h f = low-wants doc r f h

  -- a key: a version lacks a value, or two of different item numbers share one; or it has a nil
  pub key-offence : r.kind ≡ 1 → (Lacks doc p r ⊎ Shared doc p r (number_of doc)) ⊎ (spoils doc p r v ≡ true)
  unfolding by_kind breaks_in key_in
  key-offence k =
      let b = broken 1 k in
      let here = and_l (present doc p r v) _ b in
      let w = low (omega arith) in
      ⊎_elim
      (λ t.
      ⊎_elim (λ e. inl (inl (lacks doc p r w v here e))) (λ e. inr (spoilt_by doc p r v (inl k) here e)) (or_cases (valueless doc p r v) (has_nil doc p r v) t))
      (λ e. inl (inr (shared doc p r w v here e)))
      (or_cases (valueless doc p r v || has_nil doc p r v) (shared_in doc p r v) (and_r (present doc p r v) _ b))

  -- a unique rule: two share one
  pub unique-offence : r.kind ≡ 2 → Shared doc p r (number_of doc)
  unfolding by_kind breaks_in
  unique-offence k = let b = broken 2 k in shared doc p r (low (omega arith)) v (and_l (present doc p r v) _ b) (and_r (present doc p r v) _ b)

  -- a reference: a value that the rule referred to, which takes the valued ones, has in no present row; or a nil
  pub reference-offence : ((f : ℕ) → wants doc q f ≡ valued doc f) → ((u g : ℕ) → in_row doc q u g ≡ true → p g ≡ true → p u ≡ true)
      → r.kind ≡ 3 → Unheld doc p r q ⊎ (spoils doc p r v ≡ true)
  unfolding by_kind breaks_in
  reference-offence w held k =
      let b = broken 3 k in
      let here = and_l (present doc p r v) _ b in
      ⊎_elim (λ e. inr (spoilt_by doc p r v (inr k) here e)) inl (unheld doc p r (low (omega arith)) v here q w held (and_r (present doc p r v) _ b))

-- what passes a weaker test is no fewer
pub count-within : (f g : ℕ → Bool) → ((k : ℕ) → f k ≡ true → g k ≡ true) → (i n : ℕ) → count f i n ≤ count g i n
unfolding count
count-within f g h i zero = omega arith
count-within f g h i (suc n) =
    let rest = count-within f g h (suc i) n in
    ⊎_elim
    (λ (y : f i ≡ true).
    let a : count f i (suc n) ≡ suc (count f (suc i) n) = rw y in
    let b : count g i (suc n) ≡ suc (count g (suc i) n) = rw (h i y) in
    omega arith)
    (λ (z : f i ≡ false).
    let a : count f i (suc n) ≡ count f (suc i) n = rw z in
    ⊎_elim
    (λ (y : g i ≡ true). let b : count g i (suc n) ≡ suc (count g (suc i) n) = rw y in omega arith)
    (λ (x : g i ≡ false). let b : count g i (suc n) ≡ count g (suc i) n = rw x in omega arith)
    (went (g i)))
    (went (f i))

-- v is selected and present, and so is one under its item number
pub record SomeAll (doc : Doc) (p : ℕ → Bool) (r : Rule) : Type 0 where
  pub v : ℕ
  pub f : ℕ
  pub chosen : selected doc r v ≡ true
  pub here : p v ≡ true
  pub one : in_group doc r (number_of doc v) f ≡ true
  pub one_here : p f ≡ true

-- v is selected and present, and so are two under its item number
pub record TwiceAll (doc : Doc) (p : ℕ → Bool) (r : Rule) : Type 0 where
  pub v : ℕ
  pub f : ℕ
  pub g : ℕ
  pub chosen : selected doc r v ≡ true
  pub here : p v ≡ true
  pub apart : f ≡ g → ⊥
  pub first : in_group doc r (number_of doc v) f ≡ true
  pub second : in_group doc r (number_of doc v) g ≡ true
  pub first_here : p f ≡ true
  pub second_here : p g ≡ true

-- v is selected and present, and under its item number fewer than `low` are counted
pub record Fewer (doc : Doc) (p : ℕ → Bool) (r : Rule) (low : ℕ) : Type 0 where
  pub v : ℕ
  pub chosen : selected doc r v ≡ true
  pub here : p v ≡ true
  pub fewer : count (counts doc p r (number_of doc v)) 0 doc.size < low

-- v is selected and present, and under its item number more than `high` are counted
pub record Beyond (doc : Doc) (p : ℕ → Bool) (r : Rule) (high : ℕ) : Type 0 where
  pub v : ℕ
  pub chosen : selected doc r v ≡ true
  pub here : p v ≡ true
  pub beyond : high < count (counts doc p r (number_of doc v)) 0 doc.size

-- v is selected and present, and under its item number more than `high` are present
pub record More (doc : Doc) (p : ℕ → Bool) (r : Rule) (high : ℕ) : Type 0 where
  pub v : ℕ
  pub chosen : selected doc r v ≡ true
  pub here : p v ≡ true
  pub more : high < count (λ f. in_group doc r (number_of doc v) f && p f) 0 doc.size

-- a number that is not within a rule's bounds lies below the one, where that is asked, or above the other
outside-cases : (short : Bool) (r : Rule) (low high c : ℕ) → pos low ≡ r.low → pos high ≡ r.high → not ((short || le_z r.low (pos c)) && le_z (pos c) r.high) ≡ true
    → ((short ≡ false) × (c < low)) ⊎ (high < c)
outside-cases short r low high c l h e =
    let out : (short || leb low c) && leb c high ≡ false = rw (sym l, sym h) at (not-true ((short || le_z r.low (pos c)) && le_z (pos c) r.high) e) in
    and_else (short || leb low c) (leb c high) (λ z. inl (neither_l short (leb low c) z, leb-false low c (neither_r short (leb low c) z))) (λ z. inr (leb-false c high z)) out

module _ (doc : Doc) (p : ℕ → Bool) (r : Rule) (flat : is_sequenced r ≡ false) (kind : r.kind ≡ 4) (n : ℕ) where
  -- f is no nil, or not values are counted
  abbrev spared : ℕ → Bool
  spared f = not (eqb r.distinct 1 && is_nil doc f)

  -- what is taken of those under an item number is a present one of its group
  pub under-present : (f : ℕ) → taken doc p r n (eqb r.distinct 1) f ≡ true → in_group doc r n f && p f ≡ true
  unfolding under present gives in_row
  under-present f e =
      let w = any-true _ 0 doc.size (and_l (under doc p r n f) (spared f) e) in
      let v = w.0 in
      let t = simp says at w.1.passes in
      let want = counted-wants doc r f flat kind ∙ both (valued doc f) (spared f) t.0.1.1 (and_r (under doc p r n f) (spared f) e) in
      both (in_group doc r n f) (p f) (under-group doc r n f (record { of = v; row = simp says ((t.0.0.0, t.0.1.0.0), want); number = t.1 })) t.0.1.0.1

  -- and the other way round, where a present one's version is present
  pub present-under : ((v f : ℕ) → in_row doc r v f ≡ true → p f ≡ true → p v ≡ true) → (f : ℕ) → in_group doc r n f ≡ true → p f ≡ true → taken doc p r n (eqb r.distinct 1) f ≡ true
  unfolding under present gives in_row
  present-under held f i h =
      let u = group_under doc r n f i in
      let v = u.of in
      let t = simp says at u.row in
      let want = sym (counted-wants doc r f flat kind) ∙ t.1 in
      both (under doc p r n f) (spared f)
      (any_some _ 0 doc.size v
      (record {
        from = omega arith;
        below = omega (arith, selected-here doc r v t.0.0);
        passes = simp says (((t.0.0, held v f u.row h), ((t.0.1, h), and_l (valued doc f) (spared f) want)), u.number);
      }))
      (and_r (valued doc f) (spared f) want)

  -- what is counted is a present one of the group
  counts-present : (f : ℕ) → counts doc p r n f ≡ true → in_group doc r n f && p f ≡ true
  unfolding counts
  counts-present f e =
      let at_most = and_r (under doc p r n f) _ e in
      under-present f (both (under doc p r n f) (spared f) (and_l (under doc p r n f) _ e) (nil_spared (eqb r.distinct 1) (is_nil doc f) _ at_most))
    where
      nil_spared : (d b c : Bool) → not (d && (b || c)) ≡ true → not (d && b) ≡ true
      nil_spared false b c e = refl
      nil_spared true false c e = refl
      nil_spared true true c e = e

  -- where not values are counted, whatever is under an item number is
  every_counts : eqb r.distinct 1 ≡ false → (f : ℕ) → taken doc p r n (eqb r.distinct 1) f ≡ true → counts doc p r n f ≡ true
  unfolding counts
  every_counts every f e = let u = and_l (under doc p r n f) (spared f) e in rw (every, u) refl

-- An offender of a cardinality, be it of values or of field versions.
module _ (doc : Doc) (p : ℕ → Bool) (w : Window) (q r : Rule) (flat : is_sequenced r ≡ false) (low high : ℕ) where
  -- too few are counted under its item number, and the window is not shortened, or too many
  pub counted-offence : pos low ≡ r.low → pos high ≡ r.high → r.kind ≡ 4 → (v : ℕ) → offends_in doc p w q r v ≡ true → ((shortened w ≡ false) × Fewer doc p r low) ⊎ Beyond doc p r high
  unfolding by_kind breaks_in cardinality_in
  counted-offence l h k v bad =
      let b = broken doc p w q r v bad 4 k in
      let here = present-chosen doc p r v (and_l (present doc p r v) _ b) in
      ⊎_elim
      (λ c. inl (c.0, record { v = v; chosen = here.0; here = here.1; fewer = c.1 }))
      (λ c. inr (record { v = v; chosen = here.0; here = here.1; beyond = c }))
      (outside-cases (shortened w) r low high _ l h (and_r (present doc p r v) _ b))

  -- those counted are present
  pub cardinality-offence : pos low ≡ r.low → pos high ≡ r.high → r.kind ≡ 4 → (v : ℕ) → offends_in doc p w q r v ≡ true → ((shortened w ≡ false) × Fewer doc p r low) ⊎ More doc p r high
  cardinality-offence l h k v bad =
      ⊎_elim
      (λ s. inl s)
      (λ s.
      let n = number_of doc s.v in
      inr
      (record {
        v = s.v;
        chosen = s.chosen;
        here = s.here;
        more = omega (arith, s.beyond, count-within (counts doc p r n) (λ f. in_group doc r n f && p f) (counts-present doc p r flat k n) 0 doc.size);
      }))
      (counted-offence l h k v bad)

  -- and those present are counted, where every version counts
  pub fewer_present : r.kind ≡ 4 → ((v f : ℕ) → in_row doc r v f ≡ true → p f ≡ true → p v ≡ true) → eqb r.distinct 1 ≡ false → (s : Fewer doc p r low)
      → count (λ f. in_group doc r (number_of doc s.v) f && p f) 0 doc.size < low
  fewer_present k held every s =
      let n = number_of doc s.v in
      omega (
        arith,
        s.fewer,
        count-within (λ f. in_group doc r n f && p f) (counts doc p r n)
            (λ f t. every_counts doc p r flat k n every f (present-under doc p r flat k n held f (and_l (in_group doc r n f) (p f) t) (and_r (in_group doc r n f) (p f) t)))
            0 doc.size,
      )

-- What more than `high` present ones under an item number come to.
module _ (doc : Doc) (p : ℕ → Bool) (r : Rule) (high : ℕ) (s : More doc p r high) where
  -- under the item number, and present
  abbrev there : ℕ → Bool
  there f = in_group doc r (number_of doc s.v) f && p f

  -- and each by itself
  parts : (f : ℕ) → there f ≡ true → (in_group doc r (number_of doc s.v) f ≡ true) × (p f ≡ true)
  parts f e = simp says at e

  -- there are as many in the group, present or not
  pub more_all : high < count (in_group doc r (number_of doc s.v)) 0 doc.size
  more_all =
      let n = number_of doc s.v in
      omega (arith, s.more, count-within there (in_group doc r n) (λ f e. (parts f e).0) 0 doc.size)

  -- one is present
  pub more_one : SomeAll doc p r
  more_one =
      let w = some there 0 doc.size (omega (arith, s.more)) in
      let a = parts w.0 w.1.passes in
      record { v = s.v; f = w.0; chosen = s.chosen; here = s.here; one = a.0; one_here = a.1 }

  -- and is so in some row
  pub more_some : Some doc p r
  more_some =
      let o = more_one in
      let u = group_under doc r (number_of doc o.v) o.f o.one in
      record { v = u.of; f = o.f; in-row = u.row; here = o.one_here }

  -- two are, where one is allowed
  pub more_two : 1 ≤ high → TwiceAll doc p r
  more_two l =
      let w = two there 0 doc.size (omega (arith, s.more)) in
      let a = parts w.one w.one_passes.passes in
      let b = parts w.other w.other_passes.passes in
      record {
        v = s.v;
        f = w.one;
        g = w.other;
        chosen = s.chosen;
        here = s.here;
        apart = λ e. omega (arith, w.less);
        first = a.0;
        second = b.0;
        first_here = a.1;
        second_here = b.1;
      }

-- f, in the row of v, is present, and its reach lies after day `from`
pub record Wrong (doc : Doc) (p : ℕ → Bool) (r : Rule) (reach : List ℕ) (from f : ℕ) : Type 0 where
  pub v : ℕ
  pub in-row : in_row doc r v f ≡ true
  pub here : p f ≡ true
  pub late : from < get_or reach f 0

-- An offender of a datatype, itself a field version, in a window.
module _ (doc : Doc) (q r : Rule) (ok : Judgeable doc) (flat : is_sequenced r ≡ false) (w : Window) (reach : List ℕ) (s : Reaches doc r reach) where
  -- it is present, in a row, and its reach lies after the first day
  pub datatype-offence : w.from ≤ 36524 → r.kind ≡ 5 → (f : ℕ) → offends_in doc (meets doc w) w q r f ≡ true → Wrong doc (meets doc w) r reach w.from f
  unfolding wrong_after
  datatype-offence l k f bad =
      let e : wrong_after doc r f w.from && meets doc w f ≡ true = sym (offends-in_lem doc r ok (known_only doc r flat (omega arith)) w q f k) ∙ bad in
      let wrong = and_l (wrong_after doc r f w.from) (meets doc w f) e in
      let row = any-true _ 0 doc.size wrong in
      let v = row.0 in
      let i = and_l (in_row doc r v f) _ row.1.passes in
      record {
        v = v;
        in-row = i;
        here = and_r (wrong_after doc r f w.from) (meets doc w f) e;
        late = ltb-true w.from (get_or reach f 0) (s.above f w.from (row_below doc r v f i) l ∙ wrong);
      }
