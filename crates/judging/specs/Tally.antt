-- The count that a verdict tells, and what the change days of a rule are counted along.
use Rattle.std.specs.Prelude.{◌≡◌, true, cond, List, ℕ, ◌-◌, ◌≤◌, length}
use Rattle.meaning.specs.declared.Rule.{Rule}
use Rattle.meaning.specs.Walk.{pick}
use Rattle.meaning.specs.Document.{Doc}
use Rattle.meaning.specs.Rules.{is_reference, is_sequenced}
use Rattle.meaning.specs.Select.{reads_own}
use Rattle.meaning.specs.Day.{is_change}
use Rattle.marks.specs.Marks.{Marks}
use Rattle.changes.specs.Merging.{Sorted}
use Rattle.soonest.specs.declared.Surveyed.{Surveyed}
use Rattle.judging.specs.declared.Read.{Read}

-- by the rule's mode: how many change days come before day `past`, or how many windows there are
unfoldable pub count_of : Doc → Rule → Rule → ℕ → ℕ → ℕ
count_of doc q r windows past = cond (is_sequenced r) (length (pick (is_change doc q r) r.begin (past - r.begin))) windows

-- the versions by begin and by end, and a mark on each that rule r reads by itself and, if it is a reference, on each that q does, to which it refers;
-- the second marks have room for each record all the same
pub record Traced (doc : Doc) (q r : Rule) (opens closes own held : List ℕ) : Type 0 where
  pub by_begin : Sorted doc doc.begin opens
  pub by_end : Sorted doc doc.end closes
  pub own_read : Marks (reads_own doc r) doc.size own
  pub held_room : doc.size ≤ length held
  pub held_read : is_reference r ≡ true → Marks (reads_own doc q) doc.size held

-- the same, lent
abbrev pub TracedOf : Doc → Rule → Rule → Surveyed → Read → Type 0
TracedOf doc q r u read = Traced doc q r u.opens.now u.closes.now read.own.now read.held.now
