-- Where a rule counts values: what it counts under an item number at a place are the values of the records that have its class there.
use mathlib.Core.Path.{◌≡◌, refl, sym, ◌∙◌, ap}
use mathlib.Core.Bool.{Bool, true, false, ◌&&◌, not, and-false}
use mathlib.Core.Logic.{⊎_elim}
use mathlib.Core.List.{List}
use Prim.Native.Nat.{ℕ, ◌≤◌, ◌<◌}
use native.Mathlib.Omega.{arith}
use lib.Dec.{leb, ltb, eqb}
use Rattle.meaning.specs.declared.Rule.{Rule}
use Rattle.meaning.specs.Block.{limit}
use Rattle.meaning.specs.Walk.{any, count}
use Rattle.meaning.specs.Document.{Doc, is_version, number_of}
use Rattle.meaning.specs.Rules.{is_sequenced}
use Rattle.meaning.specs.Select.{selected, is_nil, same_value}
use Rattle.meaning.specs.Window.{meets, under, counts}
use Rattle.meaning.proofs.Basics.{went, tests_same, and_l, and_r, and_same}
use Rattle.meaning.proofs.Walks.{any_same, count_same}
use Rattle.meaning.proofs.Says.{says}
use Rattle.meaning.proofs.Selects.{selected-here}
use Rattle.marks.specs.Marks.{Marks}
use Rattle.values.specs.Represents.{Represents}
use Rattle.values.proofs.Equals.{known_same}
use Rattle.values.proofs.Counts.{taken, counts-taken}
use Rattle.prepare.specs.Rows.{in_row}
use Rattle.prepare.specs.Keys.{Keys}
use Rattle.groups.specs.Groups.{Groups, in_group}
use Rattle.groups.specs.Classes.{class_at}
use Rattle.groups.proofs.Gathering.{row-version, class-under, group_under}
use Rattle.passes.specs.Passes.{at}
use Rattle.crowds.specs.Crowds.{keyed_at}
use Rattle.distinct.specs.Values.{lowest_at, values, ByManyValues}
use Rattle.places.specs.declared.Places.{Places}
use Rattle.places.specs.Placing.{window_at}
use Rattle.soonest.specs.Lined.{Lined, ChosenIn, RowsIn}
use Rattle.parts.specs.Parts.{ByFewValues}
use Rattle.soonest.proofs.WindowOffences.{under-present, present-under}
use Rattle.soonest.proofs.Sweeping.{there-is, on-order, here}

-- Item number n, whose records have key `key`, and a place k at which they are present as p tells.
module _ (doc : Doc) (p : ℕ → Bool) (r : Rule) (flat : is_sequenced r ≡ false) (kind : r.kind ≡ 4) (held : (v f : ℕ) → in_row doc r v f ≡ true → p f ≡ true → p v ≡ true)
    (distinct : eqb r.distinct 1 ≡ true) (n key k : ℕ) (nums reps lo hi : List ℕ) (represents : Represents doc reps)
    (same : (x : ℕ) → x < doc.size → eqb (at nums x) key ≡ in_group doc r n x) (told : (x : ℕ) → in_group doc r n x ≡ true → p x ≡ (leb (at lo x) k && ltb k (at hi x))) where
  -- what is under the number, and no nil, has the key and is present
  under-is : (x : ℕ) → x < doc.size → taken doc p r n true x ≡ keyed_at nums lo hi key k x
  under-is x h =
      let group : taken doc p r n true x ≡ (in_group doc r n x && p x) =
      tests_same (taken doc p r n true x) (in_group doc r n x && p x)
      (λ t. under-present doc p r flat kind n x (rw distinct t))
      (λ t. rw distinct at (present-under doc p r flat kind n held x (and_l (in_group doc r n x) (p x) t) (and_r (in_group doc r n x) (p x) t))) in
      group ∙ rw (same x h) (and_same (in_group doc r n x) (p x) (leb (at lo x) k && ltb k (at hi x)) (told x))

  -- and is a version
  under-version : (x : ℕ) → taken doc p r n true x ≡ true → is_version doc x ≡ true
  under-version x t =
      let u = group_under doc r n x (and_l (in_group doc r n x) (p x) (under-present doc p r flat kind n x (rw distinct t))) in
      row-version doc r u.of x u.row

  -- of one that is, a lower one with its value is one with its representative
  lower_is : (f g : ℕ) → f < doc.size → taken doc p r n true f ≡ true → g < doc.size
      → (same_value doc f g && taken doc p r n true g) ≡ (eqb (at reps f) (at reps g) && keyed_at nums lo hi key k g)
  lower_is f g a t b =
      ⊎_elim
      (λ y.
      let rep = known_same represents f g (under-version f t) (under-version g y) (simp says at (and_r (under doc p r n f) (not (is_nil doc f)) t)) in
      rw (rep, under-is g b) refl)
      (λ z.
      let none : keyed_at nums lo hi key k g ≡ false = sym (under-is g b) ∙ z in
      rw (z, none) (and-false (same_value doc f g) ∙ sym (and-false (eqb (at reps f) (at reps g)))))
      (went (taken doc p r n true g))

  -- so it is counted exactly where it is the lowest of its value
  counts-is : (f : ℕ) → f < doc.size → counts doc p r n f ≡ lowest_at nums reps lo hi key k f
  counts-is f h =
      let lower : ℕ → Bool = λ g. eqb (at reps f) (at reps g) && keyed_at nums lo hi key k g in
      counts-taken doc p r n distinct f
      ∙ and_same (taken doc p r n true f) _ (not (any lower 0 f))
      (λ t. ap not (any_same (λ g. same_value doc f g && taken doc p r n true g) lower 0 f (λ g a b. lower_is f g h t (omega arith))))
      ∙ ap (λ t. t && not (any lower 0 f)) (under-is f h)

  pub counts-values : count (counts doc p r n) 0 doc.size ≡ values nums reps lo hi doc.size key k
  counts-values = count_same (counts doc p r n) (lowest_at nums reps lo hi key k) 0 doc.size (λ f a b. counts-is f (omega arith))

-- Place k of a document that is lined up, and a selected version v.
module _ (doc : Doc) (places : Places) (order lo hi : List ℕ) (lined : Lined doc places order lo hi) (k : ℕ) (inside : k < places.count) (r : Rule) (flat : is_sequenced r ≡ false) (kind : r.kind ≡ 4)
    (held : (v f : ℕ) → in_row doc r v f ≡ true → meets doc (window_at places k) f ≡ true → meets doc (window_at places k) v ≡ true) (distinct : eqb r.distinct 1 ≡ true) (rows : List ℕ)
    (keys : Keys doc r rows) (read : RowsIn doc lined.begun.member r) (groups nums reps : List ℕ) (few : doc.size ≤ limit) (classes : Groups doc groups) (represents : Represents doc reps)
    (each : (f : ℕ) → f < doc.size → at nums f ≡ class_at groups doc.size (at rows f)) (v : ℕ) (y : selected doc r v ≡ true) where
  number-values : count (counts doc (meets doc (window_at places k)) r (number_of doc v)) 0 doc.size ≡ values nums reps lo hi doc.size (at groups v) k
  number-values =
      counts-values doc (meets doc (window_at places k)) r flat kind held distinct (number_of doc v) (at groups v) k nums reps lo hi represents
      (λ f h. class-under doc r doc.size rows groups refl few keys classes v y f h (at nums f) (each f h))
      (λ f e. let u = group_under doc r (number_of doc v) f e in there-is doc places order lo hi lined k inside f (read u.of f u.row))

  -- too few values are counted under its item number
  pub few-valued : (chosen : List ℕ) → Marks (selected doc r) doc.size chosen → ChosenIn doc lined.begun.member r → (low D : ℕ)
      → ByFewValues order chosen groups nums reps lo hi doc.size low D → meets doc (window_at places k) v ≡ true
      → count (counts doc (meets doc (window_at places k)) r (number_of doc v)) 0 doc.size < low → D ≤ k
  unfolding ByFewValues
  few-valued chosen marks chosen_in low D b e less =
      let m = chosen_in v y in
      b v k (on-order doc places order lo hi lined k inside v m) (marks.mark v (selected-here doc r v y) ∙ y) (here doc places order lo hi lined k inside v m e) (omega (arith, number-values))

  -- or too many
  pub many-valued : (high D : ℕ) → ByManyValues nums reps lo hi doc.size high D
      → high < count (counts doc (meets doc (window_at places k)) r (number_of doc v)) 0 doc.size → D ≤ k
  unfolding ByManyValues
  many-valued high D b more = b (at groups v) k (classes.low v (selected-here doc r v y)) (omega (arith, number-values))
