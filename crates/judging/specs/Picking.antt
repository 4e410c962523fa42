-- What is picked out of a document for a rule to be judged by: what the rule itself picks out, and the rows and marks of the rule that it refers to.
use Rattle.std.specs.Prelude.{◌≡◌, true, List, ℕ, ◌≤◌, length}
use Rattle.meaning.specs.declared.Rule.{Rule}
use Rattle.meaning.specs.Document.{Doc}
use Rattle.meaning.specs.Rules.{is_reference}
use Rattle.meaning.specs.Select.{reads_own}
use Rattle.marks.specs.Marks.{Marks}
use Rattle.prepare.specs.Keys.{Keys}
use Rattle.prepare.specs.Sifts.{Sifts}
use Rattle.soonest.specs.declared.Picked.{Picked as Lent}
use Rattle.judging.specs.declared.Read.{Read}

-- what two rules pick out of n records has room
pub record Room (n : ℕ) (chosen rows reads left others helds : List ℕ) : Type 0 where
  pub in_chosen : n ≤ length chosen
  pub in_rows : n ≤ length rows
  pub in_reads : n ≤ length reads
  pub in_left : n ≤ length left
  pub in_others : n ≤ length others
  pub in_helds : n ≤ length helds

-- what rule r picks out, and the rows and marks of q, to which it refers, if it is a reference; these have room for each record all the same
pub record Picked (doc : Doc) (q r : Rule) (chosen rows reads others helds : List ℕ) : Type 0 where
  pub own : Sifts doc r chosen rows reads
  pub others_room : doc.size ≤ length others
  pub helds_room : doc.size ≤ length helds
  pub others_are : is_reference r ≡ true → Keys doc q others
  pub helds_are : is_reference r ≡ true → Marks (reads_own doc q) doc.size helds

-- the same, lent
abbrev pub PickedOf : Doc → Rule → Rule → Lent → Read → Type 0
PickedOf doc q r p read = Picked doc q r p.chosen.now p.row.now read.own.now p.other.now read.held.now
