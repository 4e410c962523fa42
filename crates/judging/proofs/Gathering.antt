-- What was found of a document and what its rules pick out, put together for the finder, for the count, and for the walk.
use mathlib.Core.Path.{◌≡◌}
use mathlib.Core.Bool.{true, false, ◌||◌}
use mathlib.Core.List.{List}
use Prim.Native.Nat.{ℕ, ◌-◌, ◌≤◌}
use native.Mathlib.Omega.{arith}
use lib.IntN.{ℤ}
use lib.ListN.{length, get_or, take, replicate, length-take, length-replicate}
use Rattle.meaning.specs.declared.Rule.{Rule}
use Rattle.meaning.specs.Document.{Doc, is_version}
use Rattle.meaning.specs.Rules.{is_key, is_unique, is_reference, is_sequenced}
use Rattle.meaning.specs.Select.{reads_own}
use Rattle.columns.specs.Lent.{Lends, Whole}
use Rattle.marks.specs.Marks.{Marks}
use Rattle.values.specs.Represents.{Represents}
use Rattle.orders.specs.Order.{InOrder}
use Rattle.changes.specs.Merging.{Sorted}
use Rattle.prepare.specs.declared.Prepared.{Prepared}
use Rattle.prepare.specs.Sifts.{Sifts}
use Rattle.prepare.specs.Rows.{Rows}
use Rattle.prepare.specs.Rowed.{Rowed}
use Rattle.prepare.proofs.Valued.{valued_only}
use Rattle.window.specs.declared.layout.Layout.{Layout}
use Rattle.window.specs.Spread.{Spread}
use Rattle.places.specs.declared.Places.{Places}
use Rattle.places.specs.Placing.{Counted}
use Rattle.picking.proofs.Parts.{cut}
use Rattle.orders.proofs.Lengths.{equally_long}
use Rattle.judging.specs.Picking.{Room, Picked}
use Rattle.soonest.specs.Given.{Given}
use Rattle.survey.specs.Surveyed.{Surveyed}
use Rattle.judging.specs.Knowing.{Known}
use Rattle.judging.specs.Armed.{Armed}
use Rattle.judging.specs.Tally.{Traced}

-- the columns of a document and its survey
module _ {doc : Doc} {kinds vkinds names parents begins ends : List ℕ} {values : List ℤ} {items reps groups opens closes : List ℕ} {many : ℕ}
    (w : Whole doc kinds vkinds names parents begins ends values items) (s : Surveyed doc begins ends reps groups opens closes many) where
  pub known : Known doc kinds vkinds names parents begins ends values groups (take (many - 0) closes)
  known =
      record {
        tree = w.tree;
        values_held = w.values_held;
        periods = w.periods;
        judgeable = w.judgeable;
        classes = s.classes;
        closed = cut (is_version doc) ends closes many s.closed;
        few = simp length-take (omega (arith, s.few));
      }

  pub opened : InOrder (is_version doc) begins (take (many - 0) opens) (length (take (many - 0) opens))
  opened = cut (is_version doc) begins opens many s.opened

-- arrays of a function's own have an entry for each of so many records
pub roomy : {n m : ℕ} → n ≤ m → Room n (replicate m 0) (replicate m 0) (replicate m 0) (replicate m 0) (replicate m 0) (replicate m 0)
roomy {n} {m} h =
    let e : length (replicate {A = ℕ} m 0) ≡ m = length-replicate m 0 in
    record { in_chosen = omega arith; in_rows = omega arith; in_reads = omega arith; in_left = omega arith; in_others = omega arith; in_helds = omega arith }

-- what a rule picks out is all that it is judged by, if it is no reference
pub picked_alone : {doc : Doc} {q r : Rule} {chosen rows reads : List ℕ} → (is_reference r ≡ true → ⊥) → Sifts doc r chosen rows reads → Picked doc q r chosen rows reads rows reads
picked_alone none s =
    record { own = s; others_room = s.rows_are.room; helds_room = s.reads_are.room; others_are = λ e. absurd (none e); helds_are = λ e. absurd (none e) }

-- else what the rule that it refers to picks out comes to it
pub picked_both : {doc : Doc} {q r : Rule} {chosen rows reads left others helds : List ℕ} → Sifts doc r chosen rows reads → Sifts doc q left others helds
    → Picked doc q r chosen rows reads others helds
picked_both s t =
    record { own = s; others_room = t.rows_are.room; helds_room = t.reads_are.room; others_are = λ e. t.rows_are; helds_are = λ e. t.reads_are }

-- an order of the versions by their days is one that change days are counted along
sorted : {doc : Doc} {day : ℕ → ℕ} {column order : List ℕ} → Lends doc.size day 0 column → InOrder (is_version doc) column order (length order) → Sorted doc day order
sorted {order = order} l o =
    record {
      stands = λ x e. (o.place x, (o.all x e).0, (o.all x e).1);
      version = λ j h. (o.once j h).0;
      rising = λ i j h m. rw (← l.at (get_or order i 0), ← l.at (get_or order j 0)) (o.rising i j h m);
    }

-- what two rules pick out: p is q, by another name, where r is a reference
module _ {doc : Doc} {kinds vkinds names parents begins ends : List ℕ} {values : List ℤ} {groups closes : List ℕ} (p q r : Rule)
    (k : Known doc kinds vkinds names parents begins ends values groups closes) (same : is_reference r ≡ true → p ≡ q)
    (kind : is_reference r ≡ true → (is_key q || is_unique q) ≡ true) where
  module _ {opens chosen rows reads others helds : List ℕ} (o : InOrder (is_version doc) begins opens (length opens)) (x : Picked doc q r chosen rows reads others helds) where
    -- as the finder is given it
    pub given : {at : Places} {reps : List ℕ} → Represents doc reps → Counted at → Given doc p r at vkinds values begins ends reps groups opens closes chosen rows others
    given v c =
        record {
          vkind = k.values_held.vkind;
          value = k.values_held.value;
          periods = k.periods;
          judgeable = k.judgeable;
          represents = v;
          classes = k.classes;
          opened = o;
          closed = k.closed;
          few_opens = omega (arith, k.few, equally_long o k.closed);
          few = k.few;
          chosen_are = x.own.chosen_are;
          rows_are = x.own.rows_are;
          others_room = x.others_room;
          others_are = λ e. rw (same e) (x.others_are e, valued_only doc q (kind e));
          counted = c;
        }

    -- as change days are counted
    pub traced : Traced doc p r opens closes reads helds
    traced =
        record {
          by_begin = sorted k.periods.begin o;
          by_end = sorted k.periods.end k.closed;
          own_read = x.own.reads_are;
          held_room = x.helds_room;
          held_read = λ e. rw (same e) (x.helds_are e);
        }

  -- both rules prepared, and the first laid out, as the walk is asked
  pub armed : {own held : Prepared} {laid : Layout} {reps : List ℕ} → Represents doc reps → Rows doc r own.start own.next own.last own.lower
      → Marks (reads_own doc r) doc.size own.read → (is_reference r ≡ true → Rowed doc q held) → (Rowed doc r own → (x : Rule) × Rowed doc x held)
      → (is_sequenced r ≡ false → Spread doc r laid.start laid.next laid.last laid.lower groups)
      → Armed doc p r own laid held vkinds begins ends reps groups
  armed {own} v rows read referred some spread =
      let mine : Rowed doc r own = record { rows = rows; read = read } in
      let other = some mine in
      record {
        nilling = record { vkind = k.values_held.vkind; periods = k.periods; represents = v; few = k.judgeable.few };
        on-days = record {
          rowed = mine;
          other = other.0;
          other_rowed = other.1;
          referred = λ e. rw (same e) (referred e, valued_only doc q (kind e));
          periods = k.periods;
          represents = v;
          judgeable = k.judgeable;
        };
        in_windows = λ f.
            record {
              spread = spread f;
              referred = λ e. rw (same e) ((referred e).rows, valued_only doc q (kind e));
              periods = k.periods;
              represents = v;
              classes = k.classes;
              judgeable = k.judgeable;
            };
      }
