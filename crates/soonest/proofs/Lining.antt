-- What the finder is given lines up what the rule reads: a part of an order is an order, and an order by days is one by places.
use mathlib.Core.Path.{◌≡◌, refl, sym, ap, ◌∙◌}
use mathlib.Core.Logic.{⊎_elim}
use mathlib.Core.Bool.{Bool, true, false, not, ◌&&◌, ◌||◌}
use mathlib.Core.List.{List}
use Prim.Native.Nat.{ℕ, ◌-◌, ◌≤◌, ◌<◌}
use native.Mathlib.Omega.{arith}
use lib.IntN.{ℤ, pos}
use lib.Dec.{eqb, leb, ltb}
use lib.ListN.{length, get_or, take, replicate, length-replicate}
use borrow.Author.Tests.{lt-ltb, le-leb, leb-true, not-true, eq-eqb}
use Rattle.meaning.specs.declared.Rule.{Rule}
use Rattle.meaning.specs.Block.{limit}
use Rattle.meaning.specs.Document.{Doc, is_version}
use Rattle.meaning.specs.Rules.{is_reference, is_sequenced, rule_fields}
use Rattle.meaning.proofs.Basics.{clear, both, and_l, and_r, or_l, or_r}
use Rattle.meaning.proofs.Selects.{version-here, selected-version, selected-here}
use Rattle.meaning.proofs.Tables.{rule_row}
use Rattle.columns.specs.Lent.{Periods}
use Rattle.columns.specs.Judgeable.{Judgeable}
use Rattle.marks.specs.Marks.{marked, Marks}
use Rattle.day.specs.Ready.{TermsBy, Terms}
use Rattle.orders.specs.Order.{InOrder}
use Rattle.orders.proofs.Uses.{rising-by}
use Rattle.orders.proofs.Lengths.{at_most}
use Rattle.passes.specs.Passes.{at, Covers, ByLeast}
use Rattle.passes.specs.Given.{GivenLeast}
use Rattle.picking.specs.Picked.{is_read, Picked}
use Rattle.picking.proofs.Parts.{part_order}
use Rattle.meaning.specs.Window.{least}
use Rattle.places.specs.declared.Places.{Places}
use Rattle.places.specs.Placing.{Low, High}
use Rattle.places.proofs.Presence.{low-rises, high-rises}
use Rattle.steps.specs.Places.{Closing}
use Rattle.steps.specs.Reaching.{Reaches}
use Rattle.soonest.specs.Lined.{Line, Begun, Lined, ChosenIn, RowsIn}
use Rattle.soonest.specs.Given.{Given, Reaching, Earlier}
use Rattle.soonest.specs.Soon.{Soon}
use Rattle.soonest.specs.Swept.{Asks, Swept}
use Rattle.parts.specs.Parts.{Room}
use Rattle.parts.proofs.Using.{given_least}
use Rattle.soonest.proofs.Sweeping.{begun-ground, row-version, row_is, row-held}
use Rattle.soonest.proofs.WindowSoon.{datatype-windows}

-- an order by a column of days is one by every column that rises with it
line_of : (member : ℕ → Bool) (days column order : List ℕ) → InOrder member days order (length order)
    → ((x y : ℕ) → member x ≡ true → member y ≡ true → get_or days x 0 ≤ get_or days y 0 → at column x ≤ at column y) → Line member column order
line_of member days column order o rises =
    record {
      inside = λ j h. (o.once j h).0;
      place = o.place;
      all = o.all;
      once = λ j h. (o.once j h).1;
      rising = λ i j h l. rising-by member days order (length order) o (at column) rises i j (omega arith) l;
    }

-- what is laid out along an order is laid out for each member
along : (R : ℕ → ℕ → Type 0) (member : ℕ → Bool) (days column order : List ℕ) → InOrder member days order (length order) → (theirs : List ℕ)
    → ((j : ℕ) → j < length order → R (at theirs (at order j)) (at column (at order j))) → (x : ℕ) → member x ≡ true → R (at theirs x) (at column x)
along R member days column order o theirs laid x m = let a = o.all x m in rw a.1 at (laid (o.place x) a.0)

-- columns of a function's own have an entry for each of so many records
pub owned : (n : ℕ) → length (replicate {A = ℕ} n 0) ≡ n
owned n = length-replicate n 0

pub roomy : {n m : ℕ} → n ≤ m → Room n (replicate m 0) (replicate m 0) (replicate m 0) (replicate m 0)
roomy {n} {m} h =
    let e = owned m in
    record { in_one = omega arith; in_two = omega arith; in_three = omega arith; in_four = omega arith }

-- a record is read that has the mark asked for, or is in a row, or in one of the other rows
module _ (chosen : List ℕ) (asked : ℕ) (rows others : List ℕ) (n x : ℕ) where
  read-chosen : eqb (at chosen x) asked ≡ true → is_read chosen asked rows others n x ≡ true
  unfolding is_read
  read-chosen e = or_l (eqb (at chosen x) asked || ltb (at rows x) n) (ltb (at others x) n) (or_l (eqb (at chosen x) asked) (ltb (at rows x) n) e)

  read-row : at rows x < n → is_read chosen asked rows others n x ≡ true
  unfolding is_read
  read-row h =
      or_l (eqb (at chosen x) asked || ltb (at rows x) n) (ltb (at others x) n) (or_r (eqb (at chosen x) asked) (ltb (at rows x) n) (lt-ltb (at rows x) n h))

  read-other : at others x < n → is_read chosen asked rows others n x ≡ true
  unfolding is_read
  read-other h = or_r (eqb (at chosen x) asked || ltb (at rows x) n) (ltb (at others x) n) (lt-ltb (at others x) n h)

-- the terms of a cardinality are its bounds
bounds_of : (r : Rule) (mode low high : ℕ) → Terms r mode low high → r.kind ≡ 4 → (pos low ≡ r.low) × (pos high ≡ r.high)
unfolding Terms TermsBy
bounds_of r mode low high t k = let b = rw k at t in (b.1, b.2)

-- a kind from five on is a datatype
five : (r : Rule) → rule_fields r ≡ true → 5 ≤ r.kind → r.kind ≡ 5
five r f h = omega (arith, ((rule_row r).0 f).kind_most)

module _ {doc : Doc} {q r : Rule} {places : Places} {vkinds : List ℕ} {values : List ℤ} {begins ends reps groups opens closes chosen rows others : List ℕ}
    (g : Given doc q r places vkinds values begins ends reps groups opens closes chosen rows others) where
  pub size_of : doc.size ≡ length begins
  size_of = sym g.periods.begin.size

  -- the columns have an entry for each record
  pub columns-fit : (length begins ≤ limit) × (length begins ≤ length chosen) × (length begins ≤ length rows) × (length begins ≤ length others)
  columns-fit = (
    omega (arith, size_of, g.judgeable.few),
    omega (arith, size_of, g.chosen_are.room),
    omega (arith, size_of, g.rows_are.room),
    omega (arith, size_of, g.others_room),
  )

  -- and neither order is longer than they are
  pub opens_few : length opens ≤ length begins
  opens_few = omega (arith, size_of, at_most doc.size g.opened (version-here doc))

  pub closes_few : length closes ≤ length begins
  closes_few = omega (arith, size_of, at_most doc.size g.closed (version-here doc))

  -- the order by end is one that reaches are found along
  pub closing_of : Closing doc r vkinds values begins ends rows groups closes
  closing_of =
      record {
        vkind = g.vkind;
        value = g.value;
        periods = g.periods;
        rows = g.rows_are;
        classes = g.classes;
        few = g.few;
        order = record {
          stands = λ x e. (g.closed.place x, (g.closed.all x e).0, (g.closed.all x e).1);
          version = λ j h. (g.closed.once j h).0;
          rising = λ i j h m. rw (← g.periods.end.at (get_or closes i 0), ← g.periods.end.at (get_or closes j 0)) (g.closed.rising i j h m);
        };
      }

  -- those that are read have a mark
  module _ (asked : ℕ) {read : List ℕ} (marks : Marks (is_read chosen asked rows others (length begins)) (length begins) read) where
    -- for each record of either order
    pub opens_covered : Covers opens read
    opens_covered = record { has = λ j l. omega (arith, size_of, marks.room, version-here doc (at opens j) (g.opened.once j l).0) }

    pub closes_covered : Covers closes read
    closes_covered = record { has = λ j l. omega (arith, size_of, marks.room, version-here doc (at closes j) (g.closed.once j l).0) }

    -- a version that is read
    abbrev member : ℕ → Bool
    member x = is_version doc x && marked read x

    is_member : (x : ℕ) → is_version doc x ≡ true → is_read chosen asked rows others (length begins) x ≡ true → member x ≡ true
    is_member x v e = both (is_version doc x) (marked read x) v (marks.mark x (omega (arith, size_of, version-here doc x v)) ∙ e)

    -- where the mark of what is selected is asked for, that is read; and so is what is in a row
    chosen_in : asked ≡ 1 → ChosenIn doc member r
    chosen_in one v s =
        let e : eqb (at chosen v) asked ≡ true = rw one (g.chosen_are.mark v (selected-here doc r v s) ∙ s) in
        is_member v (selected-version doc r v s) (read-chosen chosen asked rows others (length begins) v e)

    rows_in : RowsIn doc member r
    rows_in v f i =
        is_member f (row-version doc r v f i)
        (read-row chosen asked rows others (length begins) f (omega (arith, size_of, row_is doc r rows g.rows_are v f i, row-held doc r v f i)))

    others_in : is_reference r ≡ true → RowsIn doc member q
    others_in e v f i =
        is_member f (row-version doc q v f i)
        (read-other chosen asked rows others (length begins) f (omega (arith, size_of, row_is doc q others (g.others_are e).0 v f i, row-held doc q v f i)))

    -- what was picked of the order by begin
    module _ {part : List ℕ} {k : ℕ} (picked : Picked (marked read) opens (length opens) part k) (room : k ≤ length part) where
      opened : InOrder member begins (take (k - 0) part) (length (take (k - 0) part))
      opened = part_order (is_version doc) (marked read) begins opens part k g.opened picked room

      -- every column of the document covers it
      pub covers_of : (column : List ℕ) → doc.size ≤ length column → Covers (take (k - 0) part) column
      covers_of column h =
          record {
            has = λ j l.
                let x = at (take (k - 0) part) j in
                omega (arith, version-here doc x (and_l (is_version doc x) (marked read x) (opened.once j l).0));
          }

      -- the first places are laid along it
      module _ (lo : List ℕ) (lo_room : doc.size ≤ length lo)
          (low : (j : ℕ) → j < length (take (k - 0) part) → Low places (at begins (at (take (k - 0) part) j)) (at lo (at (take (k - 0) part) j))) where
        low-at : (x : ℕ) → member x ≡ true → Low places (at begins x) (at lo x)
        low-at = along (Low places) member begins lo (take (k - 0) part) opened begins low

        begun-of : Begun doc places (take (k - 0) part) lo
        begun-of =
            record {
              member = member;
              versions = λ x m. and_l (is_version doc x) (marked read x) m;
              by_begin = line_of member begins lo (take (k - 0) part) opened (λ x y mx my h. low-rises h (low-at x mx) (low-at y my));
              room = lo_room;
              low = λ x m. rw (g.periods.begin.at x) at (low-at x m);
            }

        -- the pass for the least place of a datatype in windows
        pub given_until : (until : List ℕ) → doc.size ≤ length until → GivenLeast (take (k - 0) part) rows lo until
        given_until until h = given_least (take (k - 0) part) lo until doc.size (begun-ground doc places (take (k - 0) part) lo until begun-of h) g.rows_are.room

        pub steps-found : (until : List ℕ) (n D : ℕ) → ByLeast (take (k - 0) part) rows lo until n D → n ≡ length begins → is_sequenced r ≡ false
            → Reaching doc r places (take (k - 0) part) until → rule_fields r ≡ true → 5 ≤ r.kind → Soon doc q r places D
        unfolding begun-of
        steps-found until n D least size windowed reaching f h =
            datatype-windows doc q r places (take (k - 0) part) lo rows until n D least (size_of ∙ sym size) begun-of rows_in g.judgeable windowed g.rows_are reaching g.counted
            (five r f h)

        -- the places past the last are too
        module _ (hi : List ℕ) (hi_room : doc.size ≤ length hi)
            (high : (j : ℕ) → j < length (take (k - 0) part) → High places (at ends (at (take (k - 0) part) j)) (at hi (at (take (k - 0) part) j))) where
          high-at : (x : ℕ) → member x ≡ true → High places (at ends x) (at hi x)
          high-at = along (High places) member begins hi (take (k - 0) part) opened ends high

          lined-of : Lined doc places (take (k - 0) part) lo hi
          unfolding begun-of
          lined-of = record { begun = begun-of; hi_room = hi_room; high = λ x m. rw (g.periods.end.at x) at (high-at x m) }

          -- what was picked of the order by end
          ended_of : (last : List ℕ) (m : ℕ) → Picked (marked read) closes (length closes) last m → m ≤ length last → Line member hi (take (m - 0) last)
          ended_of last m p l =
              line_of member ends hi (take (m - 0) last)
              (part_order (is_version doc) (marked read) ends closes last m g.closed p l)
              (λ x y mx my h. high-rises h (high-at x mx) (high-at y my))

          swept_of : (late : List ℕ) (low high mode : ℕ) → rule_fields r ≡ true → Terms r mode low high → (Asks r.kind → asked ≡ 1) → (r.kind ≡ 4 → Line member hi late)
              → Swept doc q r places (take (k - 0) part) late chosen rows others reps lo hi r.kind low high
          unfolding begun-of lined-of
          swept_of late low high mode f t asks ended =
              record {
                counted = g.counted;
                lined = lined-of;
                by_end = ended;
                judgeable = g.judgeable;
                chosen_are = g.chosen_are;
                chosen_in = λ a. chosen_in (asks a);
                rows_are = g.rows_are;
                rows_in = rows_in;
                others_room = g.others_room;
                others_are = g.others_are;
                others_in = others_in;
                represents = g.represents;
                kind_is = refl;
                kind_least = ((rule_row r).0 f).kind;
                kind_most = ((rule_row r).0 f).kind_most;
                bounds = λ e. bounds_of r mode low high t e;
              }

          -- a cardinality has both orders, and every other kind the one by begin
          pub swept_ends : (last : List ℕ) (m : ℕ) → Picked (marked read) closes (length closes) last m → m ≤ length last → (low high mode : ℕ)
              → rule_fields r ≡ true → Terms r mode low high → (Asks r.kind → asked ≡ 1) → Swept doc q r places (take (k - 0) part) (take (m - 0) last) chosen rows others reps lo hi r.kind low high
          swept_ends last m p l low high mode f t asks = swept_of (take (m - 0) last) low high mode f t asks (λ e. ended_of last m p l)

          pub swept_begins : (late : List ℕ) → (r.kind ≡ 4 → ⊥) → (low high mode : ℕ) → rule_fields r ≡ true → Terms r mode low high → (Asks r.kind → asked ≡ 1)
              → Swept doc q r places (take (k - 0) part) late chosen rows others reps lo hi r.kind low high
          swept_begins late n low high mode f t asks = swept_of late low high mode f t asks (λ e. absurd (n e))

-- a column with an entry for every record that there may be covers what the begins of a document do
pub covers_limit : (order begins column : List ℕ) → Covers order begins → (doc : Doc) {ends : List ℕ} → Periods doc begins ends → Judgeable doc → limit ≤ length column → Covers order column
covers_limit order begins column covers doc periods judgeable h = record { has = λ j l. omega (arith, covers.has j l, periods.begin.size, judgeable.few) }

-- and so does one that is as long as they are
pub covers_room : (order begins column : List ℕ) → Covers order begins → length begins ≤ length column → Covers order column
covers_room order begins column covers h = record { has = λ j l. omega (arith, covers.has j l) }

-- whether the kind looks at the selected versions themselves
pub asks-either : (kind : ℕ) → Asks kind → (eqb kind 1 || eqb kind 4) ≡ true
asks-either kind a = ⊎_elim (λ e. or_l (eqb kind 1) (eqb kind 4) (eq-eqb kind 1 e)) (λ e. or_r (eqb kind 1) (eqb kind 4) (eq-eqb kind 4 e)) a

-- whether the rule is a datatype in windows
pub stepped : (windowed kind : ℕ) → not (eqb windowed 0) && leb 5 kind ≡ true → (eqb windowed 0 ≡ false) × (5 ≤ kind)
stepped windowed kind e = (not-true (eqb windowed 0) (and_l (not (eqb windowed 0)) (leb 5 kind) e), leb-true 5 kind (and_r (not (eqb windowed 0)) (leb 5 kind) e))

pub unstepped : (windowed kind : ℕ) → not (eqb windowed 0) && leb 5 kind ≡ false → eqb windowed 0 ≡ false → 5 ≤ kind → ⊥
unstepped windowed kind e w h = clear (both (not (eqb windowed 0)) (leb 5 kind) (ap not w) (le-leb 5 kind h)) e

-- places laid out along an order, of how far each record reaches and is present
pub reaching_of : (doc : Doc) (r : Rule) (places : Places) (reach begins ends days order until : List ℕ) → Reaches doc r reach → Periods doc begins ends → Covers order begins
    → Earlier (length begins) reach ends days → doc.size ≤ length until → ((j : ℕ) → j < length order → High places (at days (at order j)) (at until (at order j)))
    → Reaching doc r places order until
reaching_of doc r places reach begins ends days order until reaches periods covers earlier room high =
    record {
      reach = reach;
      reaches = reaches;
      room = room;
      high = λ j h.
          let x = at order j in
          let d : at days x ≡ least (at reach x) (at ends x) = earlier.day x (covers.has j h) in
          let e : at ends x ≡ doc.end x = periods.end.at x in
          rw (← e, ← d) (high j h);
    }
