-- A non-sequenced rule of each kind: what the passes promise of each part of its offence is that no version offends at an earlier place.
use mathlib.Core.Path.{◌≡◌, refl, sym, ap, ◌∙◌}
use mathlib.Core.Logic.{◌⊎◌, inl, ⊎_elim, ⊎_map}
use mathlib.Core.Bool.{true, false, ◌&&◌}
use mathlib.Core.List.{List}
use Prim.Native.Nat.{ℕ, ◌≤◌, ◌<◌}
use native.Mathlib.Omega.{arith}
use lib.IntN.{pos}
use lib.Dec.{ltb, eqb}
use borrow.Author.Tests.{leb-false, ltb-true, eqb-true, eq-eqb}
use Rattle.meaning.specs.declared.Rule.{Rule}
use Rattle.meaning.specs.Document.{Doc, is_version, number_of}
use Rattle.meaning.specs.Rules.{is_sequenced}
use Rattle.meaning.specs.Select.{selected, valued}
use Rattle.meaning.specs.Window.{shortened, meets, offends_in, least}
use Rattle.meaning.proofs.Basics.{le_or_lt, and_l, and_r}
use Rattle.meaning.proofs.Selects.{selected-version}
use Rattle.columns.specs.Judgeable.{Judgeable}
use Rattle.marks.specs.Marks.{Marks}
use Rattle.values.specs.Represents.{Represents}
use Rattle.prepare.specs.Rows.{wants, in_row}
use Rattle.prepare.specs.Keys.{Keys}
use Rattle.prepare.specs.Spoiling.{spoils}
use Rattle.groups.specs.Groups.{Groups}
use Rattle.groups.specs.Classes.{class_at}
use Rattle.groups.proofs.Gathering.{class-here}
use Rattle.passes.specs.Passes.{at, ByLeast}
use Rattle.places.specs.declared.Places.{Places}
use Rattle.places.proofs.Days.{least_above}
use Rattle.places.proofs.Shortened.{shortened-at}
use Rattle.places.specs.Placing.{start_of, end_of, window_at, Counted, High}
use Rattle.soonest.specs.Soon.{offends_at, Soon, SoonAside}
use Rattle.soonest.specs.Lined.{Begun, Lined, ChosenIn, RowsIn}
use Rattle.soonest.specs.Given.{Reaching}
use Rattle.crowds.specs.Crowds.{ByMany}
use Rattle.distinct.specs.Values.{ByManyValues}
use Rattle.parts.specs.Parts.{ByShared, ByUnheld, ByFew, ByFewValues, BelowWhole}
use Rattle.soonest.proofs.Nested.{meets-nested}
use Rattle.soonest.proofs.WindowOffences.{key-offence, unique-offence, reference-offence, cardinality-offence, counted-offence, fewer_present, datatype-offence}
use Rattle.soonest.proofs.Sweeping.{stands, row_is, row-held, row-chosen, row_here, shared_soon, few-numbered, many-numbered, lacks_soon, unheld_soon}
use Rattle.soonest.proofs.Valuing.{few-valued, many-valued}
use Rattle.soonest.proofs.DaySoon.{soon_from, aside_from}

module _ (doc : Doc) (q r : Rule) (places : Places) (order lo hi : List ℕ) (lined : Lined doc places order lo hi) (judgeable : Judgeable doc)
    (windowed : is_sequenced r ≡ false) (rows : List ℕ) (keys : Keys doc r rows) (read : RowsIn doc lined.begun.member r) (D : ℕ) where
  -- an offence as in a window
  or_nil : ((k v : ℕ) → k < places.count → offends_in doc (meets doc (window_at places k)) (window_at places k) q r v ≡ true → (D ≤ k) ⊎ (spoils doc (meets doc (window_at places k)) r v ≡ true))
      → SoonAside doc q r places D
  unfolding offends_at
  or_nil late = aside_from doc q r places D (λ k v h e. late k v h (rw windowed at e))

  in_window : ((k v : ℕ) → k < places.count → offends_in doc (meets doc (window_at places k)) (window_at places k) q r v ≡ true → D ≤ k) → SoonAside doc q r places D
  in_window late = or_nil (λ k v h e. inl (late k v h e))

  -- the classes of the rows' item numbers
  module _ (groups nums : List ℕ) (classes : Groups doc groups) (each : (f : ℕ) → f < doc.size → at nums f ≡ class_at groups doc.size (at rows f)) where
    -- a field version has the class of the version in whose row it is
    class_of : (v f : ℕ) → in_row doc r v f ≡ true → at nums f ≡ at groups v
    class_of v f e =
        each f (row_here doc r v f e) ∙ ap (class_at groups doc.size) (row_is doc r rows keys v f e) ∙ sym (class-here groups doc.size v v refl (row-held doc r v f e))

    numbers-tell : (u v f g : ℕ) → in_row doc r u f ≡ true → in_row doc r v g ≡ true → at nums f ≡ at nums g → number_of doc u ≡ number_of doc v
    numbers-tell u v f g a b e =
        eqb-true (number_of doc u) (number_of doc v)
        (classes.same u v (selected-version doc r u (row-chosen doc r u f a)) (selected-version doc r v (row-chosen doc r v g b))
        ∙ eq-eqb (at groups u) (at groups v) (sym (class_of u f a) ∙ e ∙ class_of v g b))

    -- one value of two item numbers
    module _ (reps : List ℕ) (represents : Represents doc reps) (shared : ByShared order rows reps nums lo hi doc.size D) where
      pub unique-windows : r.kind ≡ 2 → SoonAside doc q r places D
      unique-windows kind =
          in_window (λ k v h e.
          shared_soon doc places order lo hi lined k h r rows keys read reps represents (number_of doc) nums numbers-tell D shared
          (unique-offence doc (meets doc (window_at places k)) (window_at places k) q r v e kind))

      -- or no value
      pub key-windows : (chosen own : List ℕ) → Marks (selected doc r) doc.size chosen → ChosenIn doc lined.begun.member r → ((x : ℕ) → x < doc.size → at own x ≡ x)
          → ByFew order chosen own rows lo hi doc.size 1 D → r.kind ≡ 1 → SoonAside doc q r places D
      key-windows chosen own marks chosen_in numbers few kind =
          or_nil (λ k v h e.
          ⊎_map
          (⊎_elim
          (lacks_soon doc places order lo hi lined k h r rows keys read chosen own marks chosen_in numbers D few)
          (shared_soon doc places order lo hi lined k h r rows keys read reps represents (number_of doc) nums numbers-tell D shared))
          (λ s. s)
          (key-offence doc (meets doc (window_at places k)) (window_at places k) q r v e kind))

    -- no minimum is asked from place `whole` on
    module _ (whole : ℕ) (is_whole : whole ≡ places.whole) (counted : Counted places) (k : ℕ) (h : k < places.count) (long : shortened (window_at places k) ≡ false) where
      before-whole : k < whole
      before-whole = omega (arith, leb-false places.whole k (sym (shortened-at counted k h) ∙ long))

      sooner-whole : (P : ℕ → Type 0) (few : BelowWhole P whole D) → few.place ≤ k → D ≤ k
      sooner-whole P few l = few.no_later k before-whole l

    -- under an item number too few, or too many, where every version counts
    pub cardinality-windows : (chosen : List ℕ) → Marks (selected doc r) doc.size chosen → ChosenIn doc lined.begun.member r → (low high : ℕ) → eqb r.distinct 1 ≡ false
        → pos low ≡ r.low → pos high ≡ r.high → Counted places → (whole : ℕ) → whole ≡ places.whole → BelowWhole (ByFew order chosen groups nums lo hi doc.size low) whole D
        → ByMany nums lo hi doc.size high D → r.kind ≡ 4 → SoonAside doc q r places D
    cardinality-windows chosen marks chosen_in low high every l m counted whole is_whole few many kind =
        in_window (λ k v h e.
        let p = meets doc (window_at places k) in
        ⊎_elim
        (λ t.
        let s = t.1 in
        sooner-whole whole is_whole counted k h t.0 _ few
        (few-numbered doc places order lo hi lined k h r rows keys read groups nums judgeable.few classes each s.v s.chosen chosen marks chosen_in low few.place few.promised s.here
        (fewer_present doc p (window_at places k) q r windowed low high kind (meets-nested doc judgeable (window_at places k) r) every s)))
        (λ s.
        many-numbered doc places order lo hi lined k h r rows keys read groups nums judgeable.few classes each s.v s.chosen high D many s.more)
        (cardinality-offence doc p (window_at places k) q r windowed low high l m kind v e))

    -- too few values, or too many, where values are counted
    pub value-windows : (reps : List ℕ) → Represents doc reps → (chosen : List ℕ) → Marks (selected doc r) doc.size chosen → ChosenIn doc lined.begun.member r → (low high : ℕ)
        → eqb r.distinct 1 ≡ true → pos low ≡ r.low → pos high ≡ r.high → Counted places → (whole : ℕ) → whole ≡ places.whole
        → BelowWhole (ByFewValues order chosen groups nums reps lo hi doc.size low) whole D → ByManyValues nums reps lo hi doc.size high D → r.kind ≡ 4 → SoonAside doc q r places D
    value-windows reps represents chosen marks chosen_in low high distinct l m counted whole is_whole few many kind =
        in_window (λ k v h e.
        let p = meets doc (window_at places k) in
        let held = meets-nested doc judgeable (window_at places k) r in
        ⊎_elim
        (λ t.
        let s = t.1 in
        sooner-whole whole is_whole counted k h t.0 _ few
        (few-valued doc places order lo hi lined k h r windowed kind held distinct rows keys read groups nums reps judgeable.few classes represents each s.v s.chosen chosen marks chosen_in low
        few.place few.promised s.here s.fewer))
        (λ s.
        many-valued doc places order lo hi lined k h r windowed kind held distinct rows keys read groups nums reps judgeable.few classes represents each s.v s.chosen high D many s.beyond)
        (counted-offence doc p (window_at places k) q r windowed low high l m kind v e))

  -- a value that no row of the other rule has
  pub reference-windows : (reps : List ℕ) → Represents doc reps → (others : List ℕ) → Keys doc q others → ((f : ℕ) → wants doc q f ≡ valued doc f)
      → ByUnheld order rows others reps lo hi doc.size D → r.kind ≡ 3 → SoonAside doc q r places D
  reference-windows reps represents others other_keys wanted unheld kind =
      or_nil (λ k v h e.
      ⊎_map
      (unheld_soon doc places order lo hi lined k h r q rows others reps keys other_keys represents read D unheld)
      (λ s. s)
      (reference-offence doc (meets doc (window_at places k)) (window_at places k) q r v e wanted (meets-nested doc judgeable (window_at places k) q) kind))

-- a value that is no number, or a wrong step from one that the window reaches back to
pub datatype-windows : (doc : Doc) (q r : Rule) (places : Places) (order lo rows until : List ℕ) (n D : ℕ) → ByLeast order rows lo until n D → doc.size ≡ n
    → (begun : Begun doc places order lo) → RowsIn doc begun.member r → Judgeable doc → is_sequenced r ≡ false → Keys doc r rows → Reaching doc r places order until → Counted places → r.kind ≡ 5
    → Soon doc q r places D
unfolding ByLeast offends_at meets
datatype-windows doc q r places order lo rows until n D by-least size begun read judgeable windowed keys reaching counted kind =
    soon_from doc q r places D (λ k f h e.
    let start : start_of places k ≤ 36524 = omega (arith, counted.inside k h, counted.close_most) in
    let s = datatype-offence doc q r judgeable windowed (window_at places k) reaching.reach reaching.reaches start kind f (rw windowed at e) in
    let m = read s.v f s.in-row in
    let row = row_is doc r rows keys s.v f s.in-row in
    let v = is_version doc f in
    let b = ltb (doc.begin f) (end_of places k) in
    let t = ltb (start_of places k) (doc.end f) in
    let begins = ltb-true (doc.begin f) (end_of places k) (and_r v b (and_l (v && b) t s.here)) in
    let on = stands lo order begun.by_begin f m in
    let ends = ltb-true (start_of places k) (doc.end f) (and_r (v && b) t s.here) in
    let late : start_of places k < least (at reaching.reach f) (doc.end f) = least_above (at reaching.reach f) (doc.end f) (start_of places k) s.late ends in
    let high : High places (least (at reaching.reach f) (doc.end f)) (at until f) = rw on.found at (reaching.high on.place on.below) in
    by-least f k on (omega (arith, row-held doc r s.v f s.in-row))
    (record {
      from = ⊎_elim (λ l. l) (λ l. absurd (omega (arith, (begun.low f m).before k l))) (le_or_lt (at lo f) k);
      to = ⊎_elim (λ l. absurd (omega (arith, high.past k h l, late))) (λ l. l) (le_or_lt (at until f) k);
    }))
