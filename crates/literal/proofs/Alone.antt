-- Only values: what stands in the column of them, and that a value shared with one of them is shared in the words of the definition.
use mathlib.Core.Path.{◌≡◌, sym, ◌∙◌}
use mathlib.Core.Bool.{Bool, true, false, ◌&&◌, not}
use mathlib.Core.List.{List}
use Prim.Native.Nat.{ℕ, ◌+◌, ◌-◌, ◌≤◌, ◌<◌}
use lib.IntN.{ℤ, pos}
use native.Mathlib.Omega.{arith}
use lib.Dec.{eqb}
use lib.ListN.{length, get_or, set}
use lib.Seq.{get_or-set_same, get_or-set_other}
use borrow.Author.Count.{below_more}
use borrow.Author.Tests.{eq-eqb, eqb-true, le-ltb, lt-ltb, ltb-true}
use Rattle.meaning.specs.declared.Rule.{Rule}
use Rattle.meaning.specs.Document.{Doc}
use Rattle.meaning.specs.Bytes.{eq_z}
use Rattle.meaning.specs.Walk.{any}
use Rattle.meaning.specs.Select.{selected, present, gives, has_nil, has, is_nil, same_value}
use Rattle.meaning.specs.Day.{values, shares_only}
use Rattle.meaning.proofs.Basics.{clear, and_same, and_r}
use Rattle.meaning.proofs.Walks.{any_same}
use Rattle.meaning.proofs.Says.{says}
use Rattle.marks.specs.Marks.{marked, Marks}
use Rattle.literal.specs.Laid.{Valued}
use Rattle.literal.specs.Counts.{Counts}
use Rattle.literal.specs.Only.{OnlyOf, Only, Inside, shares_at}
use Rattle.literal.proofs.Counting.{one-asks}

-- the entry of version u, which is selected and present where it is marked so
module _ (doc : Doc) (p : ℕ → Bool) (q : Rule) (presents chosen : List ℕ) (here : Marks p doc.size presents) (m : Marks (selected doc q) doc.size chosen)
    (u : ℕ) (low : u < doc.size) where
  pub chosen_present : marked chosen u && marked presents u ≡ present doc p q u
  unfolding present
  chosen_present = rw (m.mark u low, here.mark u low)

  none : (present doc p q u && eqb (values doc p q u) 1) ≡ false → OnlyOf doc p q u 0
  none z = record { has = le-ltb 0 0 (omega arith) ∙ sym z; low = omega arith; gives_it = λ h. absurd (omega arith) }

  pub only-absent : marked chosen u && marked presents u ≡ false → OnlyOf doc p q u 0
  only-absent z = none (simp says (λ y. absurd (clear y (sym chosen_present ∙ z))))

  module _ (many x : ℕ) (c : Counts (gives doc p q u) doc.size many x) where
    has-many : values doc p q u ≡ many
    unfolding values
    has-many = sym c.counts

    pub only-not_one : (many ≡ 1 → ⊥) → OnlyOf doc p q u 0
    only-not_one n = none (simp says (λ y e. n (sym has-many ∙ e)))

    pub only_one : marked chosen u && marked presents u ≡ true → many ≡ 1 → OnlyOf doc p q u (x + 1)
    only_one y e =
        let same : x + 1 - 1 ≡ x = omega arith in
        record {
          has = lt-ltb 0 (x + 1) (omega arith) ∙ sym (rw (sym chosen_present ∙ y) (eq-eqb (values doc p q u) 1 (has-many ∙ e)));
          low = omega (arith, c.low (omega arith));
          gives_it = λ _. rw same (c.passes (omega arith));
        }

-- a column is filled from the front: below i each entry is as asked
pub record Filled (is : ℕ → ℕ → Type 0) (i : ℕ) (column : List ℕ) : Type 0 where
  pub entry : (k : ℕ) → k < i → is k (get_or column k 0)

module _ (is : ℕ → ℕ → Type 0) where
  pub filled_none : (column : List ℕ) → Filled is 0 column
  filled_none column = record { entry = λ k h. absurd (omega arith) }

  pub filled-store : {i : ℕ} {column : List ℕ} → Filled is i column → i < length column → (x : ℕ) → is i x → Filled is (i + 1) (set column i x)
  filled-store {i} {column} f h x e =
      record {
        entry = below_more (λ k. is k (get_or (set column i x) k 0)) i
            (λ k l. rw (get_or-set_other column i k x 0 (λ p. omega arith)) (f.entry k l))
            (rw (get_or-set_same column i x 0 h) e);
      }

-- two values are equal if kind and number are, and they are no nils
module _ (doc : Doc) (vkinds : List ℕ) (vals : List ℤ) (w : Valued doc vkinds vals) (f : ℕ) where
  pub is-nil_lem : eqb (get_or vkinds f 0) 3 ≡ is_nil doc f
  unfolding is_nil
  is-nil_lem = rw (w.vkind.at f)

  pub same-is : (g : ℕ) (x : Bool) → x ≡ eq_z (get_or vals f (pos 0)) (get_or vals g (pos 0))
      → eqb (get_or vkinds f 0) (get_or vkinds g 0) && x && not (eqb (get_or vkinds f 0) 3) ≡ same_value doc f g
  unfolding same_value is_nil
  same-is g x e = rw (e, w.vkind.at f, w.vkind.at g, w.value.at f, w.value.at g)

  -- an entry of the column, counted from one
  module _ (only : List ℕ) (u past : ℕ) (e : past ≡ get_or only u 0) where
    pub shares-none : past ≡ 0 → false ≡ shares_at doc only f u
    unfolding shares_at
    shares-none z = sym (rw (sym e, z))

    pub shares-one : (past ≡ 0 → ⊥) → (x : Bool) → x ≡ same_value doc f (past - 1) → x ≡ shares_at doc only f u
    unfolding shares_at
    shares-one n x is = is ∙ sym (rw (sym e, lt-ltb 0 past (omega arith)))

-- f gives v its only value: what is asked of the values of v is asked of f
module _ (doc : Doc) (p : ℕ → Bool) (r : Rule) (v f many : ℕ) (c : Counts (gives doc p r v) doc.size many f) (one : many ≡ 1) where
  asked_it : (h : ℕ → Bool) → any (λ g. gives doc p r v g && h g) 0 doc.size ≡ h f
  asked_it = one-asks (gives doc p r v) doc.size f (sym c.counts ∙ one) (c.low (omega arith)) (c.passes (omega arith))

  pub nil_is : has_nil doc p r v ≡ is_nil doc f
  unfolding has_nil
  nil_is = asked_it (is_nil doc)

-- and the versions that share this value are those whose only value is equal to that of f
module _ (doc : Doc) (p : ℕ → Bool) (q r : Rule) (v f many : ℕ) (c : Counts (gives doc p r v) doc.size many f) (one : many ≡ 1) (only : List ℕ) (o : Only doc p q only) where
  -- that u's value is equal to the one of f
  theirs : (u x : ℕ) → values doc p q u ≡ 1 → x - 1 < doc.size → gives doc p q u (x - 1) ≡ true → has doc p q u f ≡ same_value doc f (x - 1)
  unfolding has values
  theirs u x e l y = one-asks (gives doc p q u) doc.size (x - 1) e l y (same_value doc f)

  shares-is : (u : ℕ) → u < doc.size → shares_at doc only f u ≡ shares_only doc p r v q u
  unfolding shares_only shares_at
  shares-is u h =
      let entry = o.at u h in
      let x = get_or only u 0 in
      rw entry.has
      (and_same (present doc p q u && eqb (values doc p q u) 1) _ _
      (λ y.
      let some : 0 < x = ltb-true 0 x (entry.has ∙ y) in
      let single : values doc p q u ≡ 1 = eqb-true (values doc p q u) 1 (and_r (present doc p q u) _ y) in
      let mine = asked_it doc p r v f many c one (has doc p q u) in
      sym (mine ∙ theirs u x single (omega (arith, entry.low)) (entry.gives_it some))))

  pub shared_is : (upto : ℕ) → upto ≤ doc.size → any (shares_at doc only f) 0 upto ≡ any (shares_only doc p r v q) 0 upto
  shared_is upto l = any_same (shares_at doc only f) (shares_only doc p r v q) 0 upto (λ u a b. shares-is u (omega arith))

-- the column, filled to its end
pub filled-inside : (n i : ℕ) (only : List ℕ) → Filled (λ u x. x ≤ n) i only → i ≡ n → n ≤ length only → Inside n only
filled-inside n i only s e room = record { room = room; low = λ u h. s.entry u (omega arith) }

pub filled-only : (doc : Doc) (p : ℕ → Bool) (q : Rule) (i : ℕ) (only : List ℕ) → Filled (OnlyOf doc p q) i only → i ≡ doc.size → Only doc p q only
filled-only doc p q i only s e = record { at = λ u h. s.entry u (omega arith) }
