-- What the offence of a day comes to, by the rule's kind.
use mathlib.Core.Path.{◌≡◌, refl, sym, ◌∙◌, ap}
use mathlib.Core.Logic.{◌⊎◌, inl, inr, ⊎_elim}
use mathlib.Core.Bool.{Bool, true, false, ◌&&◌, ◌||◌, not, and-true}
use Prim.Native.Nat.{ℕ, zero, suc, ◌≤◌, ◌<◌}
use native.Mathlib.Omega.{arith}
use lib.IntN.{pos}
use lib.Dec.{leb, ltb, eqb}
use borrow.Author.Tests.{eqb-true, eqb-false, eq-eqb, ltb-true, leb-false, not-true}
use Rattle.meaning.specs.declared.Rule.{Rule}
use Rattle.meaning.specs.Walk.{any, count}
use Rattle.meaning.specs.Document.{Doc}
use Rattle.meaning.specs.Rules.{by_kind, is_sequenced}
use Rattle.meaning.specs.Select.{selected, field_of, valued, is_nil, is_number, same_value, within, present, gives, has_nil, has}
use Rattle.meaning.specs.Day.{values, shares_only, taken, key, unique, reference, cardinality, datatype, breaks, offends}
use Rattle.meaning.proofs.Basics.{went, le_or_lt, clear, and_l, and_r, both, and_else, or_cases}
use Rattle.meaning.proofs.Walks.{any-true, any_some, any_false, count_same}
use Rattle.meaning.proofs.Selects.{selected-here}
use Rattle.prepare.specs.Rows.{wants_by, wants, in_row}
use Rattle.prepare.specs.Spoiling.{spoils}
use Rattle.groups.proofs.Gathering.{row-selected}
use Rattle.soonest.proofs.Offences.{Lacks, Twice, Shared, Unmatched, Some, nil_given, spoilt_by}
use Rattle.parts.proofs.Tallies.{some, two}
use Rattle.soonest.proofs.Held.{held_by, held, row_here, held_one, held-lacks, held-some, held-twice, gives-held, values_held}
use Rattle.soonest.proofs.Nested.{Nested}

-- v is selected and present, and the number of its row that is present lies outside low..high
pub record Outside (doc : Doc) (p : ℕ → Bool) (r : Rule) (low high : ℕ) : Type 0 where
  pub v : ℕ
  pub chosen : selected doc r v ≡ true
  pub here : p v ≡ true
  pub outside : (held doc p r v < low) ⊎ (high < held doc p r v)

-- a number outside a rule's min..max
outside-within : (r : Rule) (low high c : ℕ) → pos low ≡ r.low → pos high ≡ r.high → not (within r (pos c)) ≡ true → (c < low) ⊎ (high < c)
unfolding within
outside-within r low high c l h e =
    let t : leb low c && leb c high ≡ false = rw (sym l, sym h) at (not-true (within r (pos c)) e) in
    and_else (leb low c) (leb c high) (λ z. inl (leb-false low c z)) (λ z. inr (leb-false c high z)) t

module _ (doc : Doc) (p : ℕ → Bool) where
  -- the rows of r hold what has a value
  module _ (r : Rule) (w : (f : ℕ) → wants doc r f ≡ valued doc f) where
    -- what gives a value is in the row, and present
    held_gives : (v f : ℕ) → selected doc r v ≡ true → gives doc p r v f ≡ true → (in_row doc r v f ≡ true) × (p f ≡ true)
    held_gives v f s e =
        let b = sym (gives-held doc p r w v s f) ∙ e in
        (and_l (in_row doc r v f) (p f) b, and_r (in_row doc r v f) (p f) b)

    -- and what is in the row and present gives a value
    gives_of : (v f : ℕ) → in_row doc r v f ≡ true → p f ≡ true → gives doc p r v f ≡ true
    gives_of v f i e = gives-held doc p r w v (row-selected doc r v f i) f ∙ both (in_row doc r v f) (p f) i e

    module _ (v : ℕ) (s : selected doc r v ≡ true) where
      -- more values than one
      values-twice : ltb 1 (values doc p r v) ≡ true → Twice doc p r
      values-twice e = held-twice doc p r v (rw (values_held doc p r w v s) at (ltb-true 1 (values doc p r v) e))

      -- no value, or more than one
      values-not_one : p v ≡ true → eqb (values doc p r v) 1 ≡ false → Lacks doc p r ⊎ Twice doc p r
      values-not_one e n =
          let other : values doc p r v ≡ 1 → ⊥ = eqb-false (values doc p r v) 1 n in
          let same = values_held doc p r w v s in
          ⊎_elim
          (λ (l : held doc p r v ≤ 0). inl (held-lacks doc p r v s e (omega arith)))
          (λ (g : 0 < held doc p r v). inr (held-twice doc p r v (omega arith)))
          (le_or_lt (held doc p r v) 0)

      -- the only value is that of a lower row
      taken-shared : taken doc p r v ≡ true → Shared doc p r (λ v. v)
      unfolding taken shares_only present has
      taken-shared e =
          let lower = any-true (shares_only doc p r v r) 0 v (and_r (eqb (values doc p r v) 1) _ e) in
          let u = lower.0 in
          let held-there = and_l (present doc p r u && eqb (values doc p r u) 1) _ lower.1.passes in
          let chosen = and_l (selected doc r u) (p u) (and_l (present doc p r u) (eqb (values doc p r u) 1) held-there) in
          let mine = any-true (λ f. gives doc p r v f && has doc p r u f) 0 doc.size (and_r (present doc p r u && eqb (values doc p r u) 1) _ lower.1.passes) in
          let f = mine.0 in
          let its = any-true (λ g. gives doc p r u g && same_value doc f g) 0 doc.size (and_r (gives doc p r v f) (has doc p r u f) mine.1.passes) in
          let g = its.0 in
          let a = held_gives v f s (and_l (gives doc p r v f) (has doc p r u f) mine.1.passes) in
          let b = held_gives u g chosen (and_l (gives doc p r u g) (same_value doc f g) its.1.passes) in
          record {
            u = v;
            v = u;
            f = f;
            g = g;
            apart = λ i. omega (arith, lower.1.below);
            first = a.0;
            second = b.0;
            first_here = a.1;
            second_here = b.1;
            same = and_r (gives doc p r u g) (same_value doc f g) its.1.passes;
          }

  -- what r refers to, q: the rows of both hold what has a value, and a row of q is present where one of it is
  module _ (q r : Rule) (w' : (f : ℕ) → wants doc q f ≡ valued doc f) (w : (f : ℕ) → wants doc r f ≡ valued doc f) (nested : Nested doc p q) where
    -- g, present in the row of u, has the value of f, and is the only one there
    only_shared : (v f : ℕ) → in_row doc r v f ≡ true → p f ≡ true → (u g : ℕ) → in_row doc q u g ≡ true → p g ≡ true → same_value doc f g ≡ true
        → held doc p q u ≤ 1 → shares_only doc p r v q u ≡ true
    unfolding shares_only present has
    only_shared v f i e u g j d m l =
        let chosen = row-selected doc q u g j in
        let one : held doc p q u ≡ 1 = omega (arith, held_one doc p q u g j d) in
        both (present doc p q u && eqb (values doc p q u) 1) _
        (both (present doc p q u) (eqb (values doc p q u) 1)
        (both (selected doc q u) (p u) chosen (nested u g j d))
        (eq-eqb (values doc p q u) 1 (values_held doc p q w' u chosen ∙ one)))
        (any_some (λ f. gives doc p r v f && has doc p q u f) 0 doc.size f
        (record {
          from = omega arith;
          below = omega (arith, row_here doc p r v f i);
          passes = both (gives doc p r v f) (has doc p q u f) (gives_of r w v f i e)
              (any_some (λ g. gives doc p q u g && same_value doc f g) 0 doc.size g
              (record { from = omega arith; below = omega (arith, row_here doc p q u g j); passes = both (gives doc p q u g) (same_value doc f g) (gives_of q w' u g j d) m }));
        }))

    -- where all that is present in the row of u is g, that is one at most
    one-held : (u g : ℕ) → ((h : ℕ) → in_row doc q u h ≡ true → p h ≡ true → h ≡ g) → held doc p q u ≤ 1
    one-held u g only = ⊎_elim
        (λ l. l)
        (λ more.
        let t = two (held_by doc p q u) 0 doc.size more in
        let is : (h : ℕ) → held_by doc p q u h ≡ true → h ≡ g = λ h e. only h (and_l (in_row doc q u h) (p h) e) (and_r (in_row doc q u h) (p h) e) in
        absurd (omega (arith, t.less, is t.one t.one_passes.passes, is t.other t.other_passes.passes)))
        (le_or_lt (held doc p q u) 1)

    -- a present one whose value no row of q has as its only one
    unmatched : (v f : ℕ) → in_row doc r v f ≡ true → p f ≡ true → any (shares_only doc p r v q) 0 doc.size ≡ false → is_nil doc f ≡ false → Unmatched doc p r q
    unmatched v f i e n k =
        record {
          v = v;
          f = f;
          known = k;
          in-row = i;
          here = e;
          none = λ u g j d m only.
              clear (only_shared v f i e u g j d m (one-held u g only))
              (any_false (shares_only doc p r v q) 0 doc.size n u (omega arith) (omega (arith, selected-here doc q u (row-selected doc q u g j))));
        }

  -- v offends the rule r, which refers to q
  module _ (q r : Rule) (v : ℕ) (offence : offends doc p q r v ≡ true) where
    -- it is selected, and present
    pub offender-here : present doc p r v ≡ true
    unfolding offends
    offender-here = and_l (present doc p r v) (breaks doc p q r v r.kind) offence

    pub offender-chosen : selected doc r v ≡ true
    unfolding present
    offender-chosen = and_l (selected doc r v) (p v) offender-here

    pub offender-present : p v ≡ true
    unfolding present
    offender-present = and_r (selected doc r v) (p v) offender-here

    -- the test of its kind k passed
    broken : (k : ℕ) → r.kind ≡ k → breaks doc p q r v k ≡ true
    unfolding offends
    broken k e = ap (breaks doc p q r v) (sym e) ∙ and_r (present doc p r v) (breaks doc p q r v r.kind) offence

    -- the rule is sequenced
    module _ (sequenced : is_sequenced r ≡ true) where
      -- what is wanted by the kind k
      wants-by_lem : (k : ℕ) → r.kind ≡ k → (f : ℕ) → wants doc r f ≡ wants_by doc r f k
      unfolding wants
      wants-by_lem k e f = rw (sequenced, e)

      -- no value, two values, or the one value of another row; or a nil
      pub key-offence : r.kind ≡ 1 → (Lacks doc p r ⊎ (Twice doc p r ⊎ Shared doc p r (λ v. v))) ⊎ (spoils doc p r v ≡ true)
      unfolding breaks by_kind key wants_by
      key-offence k =
          let w : (f : ℕ) → wants doc r f ≡ valued doc f = wants-by_lem 1 k in
          let not-one = not (eqb (values doc p r v) 1) in
          ⊎_elim
          (λ b.
          ⊎_elim
          (λ n.
          inl
          (⊎_elim inl (λ t. inr (inl t))
          (values-not_one r w v offender-chosen offender-present (not-true (eqb (values doc p r v) 1) n))))
          (λ n. inr (spoilt_by doc p r v (inl k) offender-here n))
          (or_cases not-one (has_nil doc p r v) b))
          (λ t. inl (inr (inr (taken-shared r w v offender-chosen t))))
          (or_cases (not-one || has_nil doc p r v) (taken doc p r v) (broken 1 k))

      -- two values, or the one value of another row
      pub unique-offence : r.kind ≡ 2 → Twice doc p r ⊎ Shared doc p r (λ v. v)
      unfolding breaks by_kind unique wants_by
      unique-offence k =
          let w : (f : ℕ) → wants doc r f ≡ valued doc f = wants-by_lem 2 k in
          ⊎_elim
          (λ n. inl (values-twice r w v offender-chosen n))
          (λ t. inr (taken-shared r w v offender-chosen t))
          (or_cases (ltb 1 (values doc p r v)) (taken doc p r v) (broken 2 k))

      -- two values, or a value that no referred row has as its only one; or a nil
      pub reference-offence : r.kind ≡ 3 → ((f : ℕ) → wants doc q f ≡ valued doc f) → Nested doc p q → (Twice doc p r ⊎ Unmatched doc p r q) ⊎ (spoils doc p r v ≡ true)
      unfolding breaks by_kind reference wants_by
      reference-offence k w' nested =
          let w : (f : ℕ) → wants doc r f ≡ valued doc f = wants-by_lem 3 k in
          let lone = not (any (shares_only doc p r v q) 0 doc.size) in
          ⊎_elim
          (λ n. inl (inl (values-twice r w v offender-chosen n)))
          (λ t.
          let one : values doc p r v ≡ 1 = eqb-true (values doc p r v) 1 (and_l (eqb (values doc p r v) 1) lone t) in
          let s = some (held_by doc p r v) 0 doc.size (omega (arith, values_held doc p r w v offender-chosen)) in
          let f = s.0 in
          let i = and_l (in_row doc r v f) (p f) s.1.passes in
          let e = and_r (in_row doc r v f) (p f) s.1.passes in
          ⊎_elim
          (λ n. inr (spoilt_by doc p r v (inr k) offender-here (nil_given doc p r v f s.1.below (gives_of r w v f i e) n)))
          (λ n. inl (inr (unmatched q r w' w nested v f i e (not-true (any (shares_only doc p r v q) 0 doc.size) (and_r (eqb (values doc p r v) 1) lone t)) n)))
          (went (is_nil doc f)))
          (or_cases (ltb 1 (values doc p r v)) (eqb (values doc p r v) 1 && lone) (broken 3 k))

      -- too few or too many field versions
      pub cardinality-offence : r.kind ≡ 4 → (low high : ℕ) → pos low ≡ r.low → pos high ≡ r.high → Outside doc p r low high
      unfolding breaks by_kind cardinality wants_by in_row
      cardinality-offence k low high l h =
          let w : (f : ℕ) → wants doc r f ≡ true = wants-by_lem 4 k in
          let same : count (λ f. field_of doc r v f && p f) 0 doc.size ≡ held doc p r v =
          count_same _ _ 0 doc.size (λ f a b. rw (offender-chosen, w f, and-true (field_of doc r v f))) in
          record { v = v; chosen = offender-chosen; here = offender-present; outside = outside-within r low high (held doc p r v) l h (rw same at (broken 4 k)) }

      -- a present one with a value that is no nil, and no number or outside the rule's min..max
      wrong-some : ((f : ℕ) → wants doc r f ≡ (valued doc f && not (is_nil doc f || (is_number doc f && within r (doc.value f))))) → datatype doc p r v ≡ true → Some doc p r
      unfolding datatype gives in_row
      wrong-some w e =
          let wrong : ℕ → Bool = λ f. not (is_nil doc f || (is_number doc f && within r (doc.value f))) in
          let found = any-true (λ f. gives doc p r v f && wrong f) 0 doc.size e in
          let f = found.0 in
          let given = and_l (gives doc p r v f) (wrong f) found.1.passes in
          let field = and_l (field_of doc r v f && p f) (valued doc f) given in
          let wanted = both (valued doc f) (wrong f) (and_r (field_of doc r v f && p f) (valued doc f) given) (and_r (gives doc p r v f) (wrong f) found.1.passes) in
          record {
            v = v;
            f = f;
            in-row = both (selected doc r v && field_of doc r v f) (wants doc r f)
                (both (selected doc r v) (field_of doc r v f) offender-chosen (and_l (field_of doc r v f) (p f) field))
                (w f ∙ wanted);
            here = and_r (field_of doc r v f) (p f) field;
          }

      -- the same by the kind k
      datatype-by : (k : ℕ) → 5 ≤ k → breaks doc p q r v k ≡ true → ((f : ℕ) → wants doc r f ≡ wants_by doc r f k) → Some doc p r
      unfolding breaks by_kind wants_by
      datatype-by (suc (suc (suc (suc (suc k))))) h e w = wrong-some w e
      datatype-by zero h e w = absurd (omega arith)
      datatype-by (suc zero) h e w = absurd (omega arith)
      datatype-by (suc (suc zero)) h e w = absurd (omega arith)
      datatype-by (suc (suc (suc zero))) h e w = absurd (omega arith)
      datatype-by (suc (suc (suc (suc zero)))) h e w = absurd (omega arith)

      -- kind 5, and with it each that is not one of the other four
      pub datatype-offence : 5 ≤ r.kind → Some doc p r
      datatype-offence h = datatype-by r.kind h (broken r.kind refl) (wants-by_lem r.kind refl)

-- a number outside its bounds, where these are few
module _ (doc : Doc) (p : ℕ → Bool) (r : Rule) (v low high : ℕ) where
  -- none where one is the least
  pub below_one : selected doc r v ≡ true → p v ≡ true → low ≡ 1 → held doc p r v < low → Lacks doc p r
  below_one s e l h = held-lacks doc p r v s e (omega arith)

  -- some where none is allowed
  pub above-none : high ≡ 0 → high < held doc p r v → Some doc p r
  above-none z h = held-some doc p r v (omega arith)

  -- two where one is the most
  pub above-one : high ≡ 1 → high < held doc p r v → Twice doc p r
  above-one o h = held-twice doc p r v (omega arith)
