-- Of which selected version a record is a field version, in whose row it is, and whether it is read.
use mathlib.Core.Path.{◌≡◌, refl, sym, ◌∙◌, ap}
use mathlib.Core.Logic.{⊎_elim}
use mathlib.Core.Bool.{Bool, true, false, ◌&&◌, cond, and-true, and_comm, or-false}
use mathlib.Core.List.{List}
use Prim.Native.Nat.{ℕ, suc, ◌+◌, ◌≤◌, ◌<◌}
use native.Mathlib.Omega.{arith}
use lib.Dec.{eqb}
use lib.ListN.{length, get_or, set}
use borrow.Author.Tests.{eq-eqb, ne_eqb, eqb-true}
use Rattle.meaning.specs.declared.Rule.{Rule}
use Rattle.meaning.specs.Block.{limit}
use Rattle.meaning.specs.Document.{Doc}
use Rattle.meaning.specs.Walk.{any}
use Rattle.meaning.specs.Select.{selected, field_of, reads_own}
use Rattle.meaning.proofs.Basics.{went, le_or_lt, clear, never, tests_same, and_l, and_r, both, or_r}
use Rattle.meaning.proofs.Walks.{any_some, any_none}
use Rattle.meaning.proofs.Says.{says}
use Rattle.meaning.proofs.Selects.{field_version}
use Rattle.columns.specs.Lent.{Tree}
use Rattle.prepare.specs.Rows.{wants, in_row}
use Rattle.prepare.specs.Sifts.{Sifts}
use Rattle.prepare.specs.Descent.{Left, Descends}
use Rattle.prepare.specs.Acting.{owner_of, Acts}
use Rattle.prepare.proofs.Descending.{left_other, left-selected, left-marks, down_top, down_below}
use Rattle.prepare.proofs.Filling.{Filled, filled_none, filled-store, Marked, filled-marks}
use Rattle.prepare.proofs.Keying.{KeyOf, filled-keys}

-- the owner of a version, at each way of finding it
module _ (field name above before left i : ℕ) where
  pub owner_self : field ≡ 0 → left ≡ 1 → i ≡ owner_of field name above before left i
  unfolding owner_of
  owner_self z e = rw (eq-eqb field 0 z, eq-eqb left 1 e)

  pub owner_not_self : field ≡ 0 → (left ≡ 1 → ⊥) → limit ≡ owner_of field name above before left i
  unfolding owner_of
  owner_not_self z e = rw (eq-eqb field 0 z, ne_eqb left 1 e)

  pub owner_above : (field ≡ 0 → ⊥) → (t : Bool) → eqb name field && eqb before 1 ≡ t → cond t above limit ≡ owner_of field name above before left i
  unfolding owner_of
  owner_above z t e = rw (ne_eqb field 0 z, e)

-- o is the owner of record f, a number from the document's size on for none
module _ (doc : Doc) (r : Rule) (f o : ℕ) (owned : (v : ℕ) → v < doc.size → eqb o v ≡ (field_of doc r v f && selected doc r v)) where
  pub row-wanted : wants doc r f ≡ true → (v : ℕ) → v < doc.size → eqb o v ≡ in_row doc r v f
  unfolding in_row
  row-wanted w v h = owned v h ∙ and_comm (field_of doc r v f) (selected doc r v) ∙ sym (rw w (and-true (selected doc r v && field_of doc r v f)))

  -- LIMIT stands for no row
  nowhere : doc.size ≤ limit → ((v : ℕ) → v < doc.size → in_row doc r v f ≡ true → ⊥) → (v : ℕ) → v < doc.size → eqb limit v ≡ in_row doc r v f
  nowhere few out v h = ne_eqb limit v (λ e. omega arith) ∙ sym (never (in_row doc r v f) (out v h))

  pub row-unwanted : doc.size ≤ limit → wants doc r f ≡ false → (v : ℕ) → v < doc.size → eqb limit v ≡ in_row doc r v f
  unfolding in_row
  row-unwanted few w = nowhere few (λ v h t. clear (simp says at t).1 w)

  row-unowned : doc.size ≤ o → (v : ℕ) → v < doc.size → eqb o v ≡ in_row doc r v f
  unfolding in_row
  row-unowned out v h =
      tests_same (eqb o v) (in_row doc r v f)
      (λ t. let e = simp says at t in absurd (omega arith))
      (λ t. let s = simp says at t in owned v h ∙ both (field_of doc r v f) (selected doc r v) s.0.1 s.0.0)

  -- v is selected, and f a field version of it
  abbrev reader : ℕ → Bool
  reader v = field_of doc r v f && selected doc r v

  reads-owned : o < doc.size → reads_own doc r f ≡ true
  unfolding reads_own
  reads-owned h =
      or_r (selected doc r f) (any reader 0 doc.size)
      (any_some reader 0 doc.size o (record { from = omega arith; below = omega arith; passes = sym (owned o h) ∙ eq-eqb o o refl }))

  reads-unowned : doc.size ≤ o → reads_own doc r f ≡ selected doc r f
  unfolding reads_own
  reads-unowned h =
      let none : any reader 0 doc.size ≡ false
      = any_none reader 0 doc.size (λ v _ l. let b : v < doc.size = omega arith in sym (owned v b) ∙ ne_eqb o v (λ e. omega arith)) in
      rw none (or-false (selected doc r f))

  -- what the code answers, of what is left, x
  module _ (x : ℕ) (left : Left doc r f x) where
    pub acts_unowned : doc.size ≤ o → Acts doc r f x o x
    acts_unowned h = record { passed = left; rowed = row-unowned h; marked = left-selected doc r f x left ∙ sym (reads-unowned h) }

    module _ (h : o < doc.size) (t : Bool) (w : t ≡ wants doc r f) where
      pub acts_wanted : t ≡ true → Acts doc r f x o 1
      acts_wanted y = record { passed = left; rowed = row-wanted (sym w ∙ y); marked = sym (reads-owned h) }

      pub acts_unwanted : doc.size ≤ limit → t ≡ false → Acts doc r f x limit 1
      acts_unwanted few n = record { passed = left; rowed = row-unwanted few (sym w ∙ n); marked = sym (reads-owned h) }

-- a record that is no version has no part
pub acts_other : (kinds names parents : List ℕ) (doc : Doc) (r : Rule) (t : Tree doc kinds names parents) (i : ℕ) → doc.size ≤ limit → (get_or kinds i 0 ≡ 2 → ⊥) → Acts doc r i 0 limit 0
acts_other kinds names parents doc r t i few n = acts_unowned doc r i limit owned 0 (left_other kinds names parents doc r t i n) few
  where
    owned : (v : ℕ) → v < doc.size → eqb limit v ≡ (field_of doc r v i && selected doc r v)
    owned v h =
        ne_eqb limit v (λ e. omega arith)
        ∙ sym (never _ (λ y.
        let s = simp says at y in
        let k : doc.kind i ≡ 2 = simp says at (field_version doc r v i s.1 s.0) in
        n (t.kind.at i ∙ k)))

-- the owner of version i, of item p, found by what is left
module _ (kinds names parents left : List ℕ) (steps i : ℕ) (d : Descends kinds names parents left steps i) (k : get_or kinds i 0 ≡ 2)
    (p : ℕ) (e : p ≡ get_or parents i 0) (before : ℕ) (root : p ≡ 0 → before ≡ suc steps) (else : 0 < p → before ≡ get_or left (get_or parents p 0) 0)
    (doc : Doc) (r : Rule) (t : Tree doc kinds names parents) (below : (w : ℕ) → w < i → Left doc r w (get_or left w 0)) (x : ℕ) (here : Left doc r i x) where
  few : doc.size ≤ limit
  few = omega (arith, t.kind.size, d.tree.kind.size, d.judgeable.few)

  -- the version above is selected where nothing but itself is left before
  over : 0 < p → eqb before 1 ≡ selected doc r (get_or parents p 0)
  over l = rw (else l) (left-selected doc r (get_or parents p 0) (get_or left (get_or parents p 0) 0) (below (get_or parents p 0) (down_below kinds names parents left steps i d k p e l)))

  -- a field version of v, with a field that is not 0
  field_is : (eqb r.field 0 ≡ false) → (v : ℕ) → field_of doc r v i ≡ (eqb (get_or names p 0) r.field && eqb (get_or parents p 0) v)
  unfolding field_of
  field_is z v = rw (z, eq-eqb (doc.kind i) 2 (sym (t.kind.at i) ∙ k), e, t.parent.at i, t.parent.at (doc.parent i), t.name.at (doc.parent i))

  field_self : (eqb r.field 0 ≡ true) → (v : ℕ) → field_of doc r v i ≡ eqb i v
  unfolding field_of
  field_self z v = rw z

  -- no v owns i
  nobody : ((v : ℕ) → v < doc.size → field_of doc r v i ≡ true → selected doc r v ≡ true → ⊥) → (v : ℕ) → v < doc.size → eqb limit v ≡ (field_of doc r v i && selected doc r v)
  nobody out v h = ne_eqb limit v (λ q. omega (arith, few)) ∙ sym (never _ (λ y. let s = simp says at y in out v h s.0 s.1))

  -- u owns i
  somebody : (u : ℕ) → ((v : ℕ) → field_of doc r v i ≡ eqb u v) → selected doc r u ≡ true → (v : ℕ) → v < doc.size → eqb u v ≡ (field_of doc r v i && selected doc r v)
  somebody u f y v h =
      tests_same (eqb u v) (field_of doc r v i && selected doc r v)
      (λ q. both (field_of doc r v i) (selected doc r v) (f v ∙ q) (ap (selected doc r) (sym (eqb-true u v q)) ∙ y))
      (λ q. sym (f v) ∙ and_l (field_of doc r v i) (selected doc r v) q)

  -- what stands above the root is no record
  none_above : (v : ℕ) → v < doc.size → get_or parents p 0 ≡ v → 0 < p
  none_above v h q = ⊎_elim (λ (l : p ≤ 0). absurd (omega (arith, down_top kinds names parents left steps i d k p e (omega arith), t.kind.size))) (λ l. l) (le_or_lt p 0)

  hit : eqb r.field 0 ≡ false → eqb (get_or names p 0) r.field && eqb before 1 ≡ true → (v : ℕ) → v < doc.size
      → eqb (get_or parents p 0) v ≡ (field_of doc r v i && selected doc r v)
  hit z y v h =
      let fits = and_l (eqb (get_or names p 0) r.field) (eqb before 1) y in
      let one = and_r (eqb (get_or names p 0) r.field) (eqb before 1) y in
      tests_same (eqb (get_or parents p 0) v) (field_of doc r v i && selected doc r v)
      (λ q.
      let same = eqb-true (get_or parents p 0) v q in
      both (field_of doc r v i) (selected doc r v) (field_is z v ∙ both (eqb (get_or names p 0) r.field) (eqb (get_or parents p 0) v) fits q)
      (ap (selected doc r) (sym same) ∙ sym (over (none_above v h same)) ∙ one))
      (λ q. and_r (eqb (get_or names p 0) r.field) (eqb (get_or parents p 0) v) (sym (field_is z v) ∙ and_l (field_of doc r v i) (selected doc r v) q))

  miss : eqb (get_or names p 0) r.field && eqb before 1 ≡ false → (u : ℕ) → u < doc.size
      → eqb (get_or names p 0) r.field && eqb (get_or parents p 0) u ≡ true → selected doc r u ≡ true → ⊥
  miss n u l f s =
      let fits = and_l (eqb (get_or names p 0) r.field) (eqb (get_or parents p 0) u) f in
      let same = eqb-true (get_or parents p 0) u (and_r (eqb (get_or names p 0) r.field) (eqb (get_or parents p 0) u) f) in
      clear (both (eqb (get_or names p 0) r.field) (eqb before 1) fits (over (none_above u l same) ∙ ap (selected doc r) same ∙ s)) n

  owner_owned : (v : ℕ) → v < doc.size → eqb (owner_of r.field (get_or names p 0) (get_or parents p 0) before x i) v ≡ (field_of doc r v i && selected doc r v)
  unfolding owner_of
  owner_owned v h =
      let own = left-selected doc r i x here in
      ⊎_elim
      (λ (z : eqb r.field 0 ≡ true).
      ⊎_elim
      (λ (y : eqb x 1 ≡ true). rw (z, y) (somebody i (field_self z) (sym own ∙ y) v h))
      (λ (n : eqb x 1 ≡ false). rw (z, n) (nobody (λ u l f s. clear (ap (selected doc r) (eqb-true i u (sym (field_self z u) ∙ f)) ∙ s) (sym own ∙ n)) v h))
      (went (eqb x 1)))
      (λ (z : eqb r.field 0 ≡ false).
      ⊎_elim
      (λ (y : eqb (get_or names p 0) r.field && eqb before 1 ≡ true). rw (z, y) (hit z y v h))
      (λ (n : eqb (get_or names p 0) r.field && eqb before 1 ≡ false). rw (z, n) (nobody (λ u l f s. miss n u l (sym (field_is z u) ∙ f) s) v h))
      (went (eqb (get_or names p 0) r.field && eqb before 1)))
      (went (eqb r.field 0))

  -- o is the owner that was found, and j the same number
  module _ (o : ℕ) (found : o ≡ owner_of r.field (get_or names p 0) (get_or parents p 0) before x i) (j : ℕ) (same : j ≡ o) where
    owned : (v : ℕ) → v < doc.size → eqb o v ≡ (field_of doc r v i && selected doc r v)
    owned v h = ap (λ z. eqb z v) found ∙ owner_owned v h

    pub role_unowned : length kinds ≤ j → Acts doc r i x o x
    role_unowned h = acts_unowned doc r i o owned x here (omega (arith, t.kind.size))

    module _ (h : j < length kinds) (w : Bool) (is : w ≡ wants doc r i) where
      pub role_wanted : w ≡ true → Acts doc r i x o 1
      role_wanted = acts_wanted doc r i o owned x here (omega (arith, t.kind.size)) w is

      pub role_unwanted : w ≡ false → Acts doc r i x limit 1
      role_unwanted = acts_unwanted doc r i o owned x here (omega (arith, t.kind.size)) w is few

-- what the roles of the records below i were, in three columns
pub record Sifting (doc : Doc) (r : Rule) (i : ℕ) (chosen row read : List ℕ) : Type 0 where
  pub passed : Filled (Left doc r) i chosen
  pub rowed : Filled (KeyOf doc r) i row
  pub marked : Filled (Marked (reads_own doc r)) i read

module _ (doc : Doc) (r : Rule) where
  pub sifting_none : (chosen row read : List ℕ) → Sifting doc r 0 chosen row read
  sifting_none chosen row read = record { passed = filled_none _ chosen; rowed = filled_none _ row; marked = filled_none _ read }

  pub sifting_on : {i : ℕ} {chosen row read : List ℕ} → Sifting doc r i chosen row read → i < length chosen → i < length row → i < length read
      → (x y z : ℕ) → Acts doc r i x y z → Sifting doc r (i + 1) (set chosen i x) (set row i y) (set read i z)
  sifting_on s a b c x y z t =
      record { passed = filled-store _ s.passed a x t.passed; rowed = filled-store _ s.rowed b y t.rowed; marked = filled-store _ s.marked c z t.marked }

  pub sifting_all : (i : ℕ) (chosen row read : List ℕ) → Sifting doc r i chosen row read → doc.size ≤ i → doc.size ≤ length chosen → doc.size ≤ length row → doc.size ≤ length read
      → Sifts doc r chosen row read
  sifting_all i chosen row read s h a b c =
      record {
        chosen_are = left-marks doc r i chosen s.passed h a;
        rows_are = filled-keys doc r i row s.rowed h b;
        reads_are = filled-marks (reads_own doc r) doc.size i read s.marked h c;
      }
