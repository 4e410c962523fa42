-- From what an offence comes to at a place, to the pass that finds it: no pass answers a later place.
use mathlib.Core.Path.{◌≡◌, refl, sym, ap, ◌∙◌}
use mathlib.Core.Bool.{Bool, true, ◌&&◌}
use mathlib.Core.List.{List}
use Prim.Native.Nat.{ℕ, ◌≤◌, ◌<◌}
use native.Mathlib.Omega.{arith}
use lib.Dec.{leb, ltb, eqb}
use lib.ListN.{length}
use borrow.Author.Tests.{eqb-true, eq-eqb}
use Rattle.meaning.specs.declared.Rule.{Rule}
use Rattle.meaning.specs.Block.{limit}
use Rattle.meaning.specs.Walk.{count}
use Rattle.meaning.specs.Document.{Doc, is_version, number_of}
use Rattle.meaning.specs.Select.{selected, field_of}
use Rattle.meaning.specs.Window.{meets}
use Rattle.meaning.proofs.Basics.{and_l, and_r, and_same}
use Rattle.meaning.proofs.Walks.{count_same}
use Rattle.meaning.proofs.Selects.{version-here, selected-here, field_version}
use Rattle.marks.specs.Marks.{Marks}
use Rattle.values.specs.Represents.{Represents}
use Rattle.values.proofs.Equals.{known_same}
use Rattle.prepare.specs.Rows.{wants, in_row}
use Rattle.prepare.specs.Keys.{Keys}
use Rattle.passes.specs.Passes.{at, On, Present, ByLeast}
use Rattle.places.specs.declared.Places.{Places}
use Rattle.places.specs.Placing.{window_at}
use Rattle.places.proofs.Presence.{meets-there, there-meets, meets-as}
use Rattle.parts.specs.Ground.{Ground}
use Rattle.soonest.specs.Lined.{Line, Begun, Lined, ChosenIn, RowsIn}
use Rattle.crowds.specs.Crowds.{keyed_at, present, ByMany, Ordered}
use Rattle.parts.specs.Parts.{ByTwice, ByShared, ByUnheld, ByFew}
use Rattle.parts.specs.Matched.{ByUnmatched}
use Rattle.groups.specs.Groups.{Groups, in_group}
use Rattle.groups.specs.Classes.{class_at}
use Rattle.groups.proofs.Gathering.{class-under, group_under}
use Rattle.soonest.proofs.Offences.{Lacks, Twice, Shared, Unheld, Unmatched, Some}
use Rattle.parts.proofs.Tallies.{uncounted}

-- what is in a row is a version, and so is the one whose row it is
module _ (doc : Doc) (r : Rule) where
  pub row-chosen : (v f : ℕ) → in_row doc r v f ≡ true → selected doc r v ≡ true
  unfolding in_row
  row-chosen v f e = and_l (selected doc r v) (field_of doc r v f) (and_l (selected doc r v && field_of doc r v f) (wants doc r f) e)

  pub row-version : (v f : ℕ) → in_row doc r v f ≡ true → is_version doc f ≡ true
  unfolding in_row
  row-version v f e =
      field_version doc r v f (row-chosen v f e) (and_r (selected doc r v) (field_of doc r v f) (and_l (selected doc r v && field_of doc r v f) (wants doc r f) e))

  pub row_here : (v f : ℕ) → in_row doc r v f ≡ true → f < doc.size
  row_here v f e = version-here doc f (row-version v f e)

  pub row-held : (v f : ℕ) → in_row doc r v f ≡ true → v < doc.size
  row-held v f e = selected-here doc r v (row-chosen v f e)

  -- the column of rows tells the row
  module _ (rows : List ℕ) (keys : Keys doc r rows) where
    pub row_is : (v f : ℕ) → in_row doc r v f ≡ true → at rows f ≡ v
    row_is v f e = eqb-true (at rows f) v (keys.key v f (row-held v f e) (row_here v f e) ∙ e)

    pub row_of : (v f : ℕ) → v < doc.size → f < doc.size → at rows f ≡ v → in_row doc r v f ≡ true
    row_of v f h l e = sym (keys.key v f h l) ∙ eq-eqb (at rows f) v e

-- a member stands in an order of them
pub stands : {member : ℕ → Bool} (column order : List ℕ) → Line member column order → (x : ℕ) → member x ≡ true → On order x
stands column order line x m = let a = line.all x m in record { place = line.place x; below = a.0; found = a.1 }

-- and where only members have a key, all that have one do
pub ordered : (doc : Doc) {member : ℕ → Bool} (column order keys : List ℕ) → ((x : ℕ) → member x ≡ true → is_version doc x ≡ true) → Line member column order
    → ((x : ℕ) → x < doc.size → at keys x < doc.size → member x ≡ true) → Ordered order column keys doc.size
ordered doc column order keys versions line keyed =
    record {
      covered = λ j h. version-here doc (at order j) (versions (at order j) (line.inside j h));
      place = line.place;
      all = λ y h l. line.all y (keyed y h l);
      once = line.once;
      rising = line.rising;
    }

-- the ground of the passes, up to any places
pub begun-ground : (doc : Doc) (places : Places) (opens lo hi : List ℕ) → Begun doc places opens lo → doc.size ≤ length hi → Ground opens lo hi doc.size
begun-ground doc places opens lo hi begun room =
    record {
      covered = λ j h. version-here doc (at opens j) (begun.versions (at opens j) (begun.by_begin.inside j h));
      rising = record { up = begun.by_begin.rising };
      lo_room = begun.room;
      hi_room = room;
    }

pub grounded : (doc : Doc) (places : Places) (opens lo hi : List ℕ) → Lined doc places opens lo hi → Ground opens lo hi doc.size
grounded doc places opens lo hi lined = begun-ground doc places opens lo hi lined.begun lined.hi_room

-- Place k of a document that is lined up.
module _ (doc : Doc) (places : Places) (order lo hi : List ℕ) (lined : Lined doc places order lo hi) (k : ℕ) (inside : k < places.count) where
  abbrev pub there : ℕ → Bool
  there = meets doc (window_at places k)

  -- those that are lined up
  abbrev pub member : ℕ → Bool
  member = lined.begun.member

  -- each is a version, and stands in the order
  is-version_lem : (x : ℕ) → member x ≡ true → is_version doc x ≡ true
  is-version_lem = lined.begun.versions

  pub on-order : (x : ℕ) → member x ≡ true → On order x
  on-order = stands lo order lined.begun.by_begin

  -- a record of the order is a member
  on-member : (x : ℕ) → On order x → member x ≡ true
  on-member x o = rw o.found at (lined.begun.by_begin.inside o.place o.below)

  -- a member that is present has the place among its own, and no other has
  pub here : (x : ℕ) → member x ≡ true → there x ≡ true → Present lo hi x k
  here x m e =
      let w = meets-there doc x (is-version_lem x m) (lined.begun.low x m) (lined.high x m) k inside e in
      record { from = w.0; to = w.1 }

  pub back : (x : ℕ) → member x ≡ true → Present lo hi x k → there x ≡ true
  back x m p = there-meets doc x (is-version_lem x m) (lined.begun.low x m) (lined.high x m) k inside p.from p.to

  -- presence is a test on places
  pub there-is : (x : ℕ) → member x ≡ true → there x ≡ (leb (at lo x) k && ltb k (at hi x))
  there-is x m = meets-as doc x (is-version_lem x m) (lined.begun.low x m) (lined.high x m) k inside

  -- how many have a key and are present, where the key tells which `has`
  pub many_is : (keys : List ℕ) (key : ℕ) (has : ℕ → Bool) → ((x : ℕ) → x < doc.size → eqb (at keys x) key ≡ has x)
      → ((x : ℕ) → has x ≡ true → member x ≡ true) → count (λ x. has x && there x) 0 doc.size ≡ present keys lo hi doc.size key k
  many_is keys key has same read =
      count_same (λ x. has x && there x) (keyed_at keys lo hi key k) 0 doc.size
      (λ x a b.
      rw (same x (omega arith))
      (and_same (has x) (there x) (leb (at lo x) k && ltb k (at hi x)) (λ t. there-is x (read x t))))

  module _ (r : Rule) (rows : List ℕ) (keys : Keys doc r rows) (read : RowsIn doc member r) where
    -- one of a row is present
    pub some-soon : (D : ℕ) → ByLeast order rows lo hi doc.size D → Some doc there r → D ≤ k
    unfolding ByLeast
    some-soon D b s =
        let row = row_is doc r rows keys s.v s.f s.in-row in
        let m = read s.v s.f s.in-row in
        b s.f k (on-order s.f m) (omega (arith, row-held doc r s.v s.f s.in-row)) (here s.f m s.here)

    -- two of a row are present
    pub twice_soon : (D : ℕ) → ByTwice order rows lo hi doc.size D → Twice doc there r → D ≤ k
    unfolding ByTwice
    twice_soon D b s =
        let f = row_is doc r rows keys s.v s.f s.first in
        let g = row_is doc r rows keys s.v s.g s.second in
        let mf = read s.v s.f s.first in
        let mg = read s.v s.g s.second in
        b s.f s.g k
        (on-order s.f mf)
        (on-order s.g mg)
        (omega (arith, row-held doc r s.v s.f s.first))
        (omega arith)
        s.apart
        (here s.f mf s.first_here)
        (here s.g mg s.second_here)

    -- two present ones of rows of different owners have one value
    pub shared_soon : (reps : List ℕ) → Represents doc reps → (owner : ℕ → ℕ) (owners : List ℕ)
        → ((u v f g : ℕ) → in_row doc r u f ≡ true → in_row doc r v g ≡ true → at owners f ≡ at owners g → owner u ≡ owner v)
        → (D : ℕ) → ByShared order rows reps owners lo hi doc.size D → Shared doc there r owner → D ≤ k
    unfolding ByShared
    shared_soon reps represents owner owners tells D b s =
        let mf = read s.u s.f s.first in
        let mg = read s.v s.g s.second in
        let f = row_is doc r rows keys s.u s.f s.first in
        let g = row_is doc r rows keys s.v s.g s.second in
        b s.f s.g k (on-order s.f mf) (on-order s.g mg)
        (omega (arith, row-held doc r s.u s.f s.first))
        (omega (arith, row-held doc r s.v s.g s.second))
        (eqb-true (at reps s.f) (at reps s.g) (sym (represents.same s.f s.g (is-version_lem s.f mf) (is-version_lem s.g mg) (λ e. s.apart (ap owner (sym f ∙ ap (at rows) e ∙ g)))) ∙ s.same))
        (λ e. s.apart (tells s.u s.v s.f s.g s.first s.second e))
        (here s.f mf s.first_here)
        (here s.g mg s.second_here)

    -- too few or too many are present in the row of a selected version; `own` has each record's own number
    module _ (chosen own : List ℕ) (marks : Marks (selected doc r) doc.size chosen) (chosen_in : ChosenIn doc member r) (numbers : (x : ℕ) → x < doc.size → at own x ≡ x) (v : ℕ) (y : selected doc r v ≡ true) where
      row-many : count (λ f. in_row doc r v f && there f) 0 doc.size ≡ present rows lo hi doc.size v k
      row-many = many_is rows v (in_row doc r v) (λ f h. keys.key v f (selected-here doc r v y) h) (λ f e. read v f e)

      pub few-soon : (low D : ℕ) → ByFew order chosen own rows lo hi doc.size low D → there v ≡ true → count (λ f. in_row doc r v f && there f) 0 doc.size < low → D ≤ k
      unfolding ByFew
      few-soon low D b p few =
          let in-doc = selected-here doc r v y in
          let e : present rows lo hi doc.size (at own v) k ≡ present rows lo hi doc.size v k = ap (λ (x : ℕ). present rows lo hi doc.size x k) (numbers v in-doc) in
          b v k (on-order v (chosen_in v y)) (marks.mark v in-doc ∙ y) (here v (chosen_in v y) p) (omega (arith, row-many, e))

      pub many-soon : (high D : ℕ) → ByMany rows lo hi doc.size high D → high < count (λ f. in_row doc r v f && there f) 0 doc.size → D ≤ k
      unfolding ByMany
      many-soon high D b many = b v k (selected-here doc r v y) (omega (arith, row-many))

    -- nothing of the row of a selected version that is present is
    pub lacks_soon : (chosen own : List ℕ) → Marks (selected doc r) doc.size chosen → ChosenIn doc member r → ((x : ℕ) → x < doc.size → at own x ≡ x)
        → (D : ℕ) → ByFew order chosen own rows lo hi doc.size 1 D → Lacks doc there r → D ≤ k
    lacks_soon chosen own marks chosen_in numbers D b s =
        few-soon chosen own marks chosen_in numbers s.v s.chosen 1 D b s.here
        (uncounted (λ f. in_row doc r s.v f && there f) 0 doc.size
        (λ f e. s.none f (and_l (in_row doc r s.v f) (there f) e) (and_r (in_row doc r s.v f) (there f) e)))

    -- the same under the item number of a selected version
    module _ (groups nums : List ℕ) (few : doc.size ≤ limit) (classes : Groups doc groups)
        (each : (f : ℕ) → f < doc.size → at nums f ≡ class_at groups doc.size (at rows f)) (v : ℕ) (y : selected doc r v ≡ true) where
      number-many : count (λ f. in_group doc r (number_of doc v) f && there f) 0 doc.size ≡ present nums lo hi doc.size (at groups v) k
      number-many =
          many_is nums (at groups v) (in_group doc r (number_of doc v)) (λ f h. class-under doc r doc.size rows groups refl few keys classes v y f h (at nums f) (each f h))
          (λ f e. let u = group_under doc r (number_of doc v) f e in read u.of f u.row)

      pub few-numbered : (chosen : List ℕ) → Marks (selected doc r) doc.size chosen → ChosenIn doc member r → (low D : ℕ) → ByFew order chosen groups nums lo hi doc.size low D
          → there v ≡ true → count (λ f. in_group doc r (number_of doc v) f && there f) 0 doc.size < low → D ≤ k
      unfolding ByFew
      few-numbered chosen marks chosen_in low D b p less =
          b v k (on-order v (chosen_in v y)) (marks.mark v (selected-here doc r v y) ∙ y) (here v (chosen_in v y) p) (omega (arith, number-many))

      pub many-numbered : (high D : ℕ) → ByMany nums lo hi doc.size high D → high < count (λ f. in_group doc r (number_of doc v) f && there f) 0 doc.size → D ≤ k
      unfolding ByMany
      many-numbered high D b many = b (at groups v) k (classes.low v (selected-here doc r v y)) (omega (arith, number-many))

  -- a present one has a value that no present one in a row of the other rule has
  module _ (r q : Rule) (rows others reps : List ℕ) (keys : Keys doc r rows) (other_keys : Keys doc q others) (represents : Represents doc reps) (read : RowsIn doc member r) where
    pub unheld_soon : (D : ℕ) → ByUnheld order rows others reps lo hi doc.size D → Unheld doc there r q → D ≤ k
    unfolding ByUnheld
    unheld_soon D b s =
        let m = read s.v s.f s.in-row in
        let row = row_is doc r rows keys s.v s.f s.in-row in
        b s.f k (on-order s.f m) (omega (arith, row-held doc r s.v s.f s.in-row)) (here s.f m s.here)
        (λ y o low e p.
        let its = on-member y o in
        let is = is-version_lem y its in
        s.none (at others y) y (row_of doc q others other_keys (at others y) y low (version-here doc y is) refl) (back y its p)
        (known_same represents s.f y (is-version_lem s.f m) is s.known ∙ eq-eqb (at reps s.f) (at reps y) (sym e)))

    -- a present one has a value that no present one which is alone in a row of the other rule has
    pub unmatched_soon : RowsIn doc lined.begun.member q → (D : ℕ) → ByUnmatched order rows others reps lo hi doc.size D → Unmatched doc there r q → D ≤ k
    unfolding ByUnmatched
    unmatched_soon other-read D b s =
        let m = read s.v s.f s.in-row in
        let row = row_is doc r rows keys s.v s.f s.in-row in
        b s.f k (on-order s.f m) (omega (arith, row-held doc r s.v s.f s.in-row)) (here s.f m s.here)
        (λ y low e a.
        let its = on-member y a.on in
        let is = is-version_lem y its in
        s.none (at others y) y (row_of doc q others other_keys (at others y) y low (version-here doc y is) refl) (back y its a.here)
        (known_same represents s.f y (is-version_lem s.f m) is s.known ∙ eq-eqb (at reps s.f) (at reps y) (sym e))
        (λ h j d.
        let o = other-read (at others y) h j in
        a.only h (on-order h o) (row_is doc q others other_keys (at others y) h j) (here h o d)))
