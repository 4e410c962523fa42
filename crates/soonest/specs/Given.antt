-- What the finder is given: a document's values and periods, what was found of it once for all rules, and what the rule, and the rule that it refers to, pick out.
use Rattle.std.specs.Prelude.{◌≡◌, true, List, ℕ, ◌≤◌, ◌<◌, ℤ, pos, length}
use Rattle.meaning.specs.declared.Rule.{Rule}
use Rattle.meaning.specs.Document.{Doc, is_version}
use Rattle.meaning.specs.Rules.{is_reference}
use Rattle.meaning.specs.Select.{selected, valued}
use Rattle.meaning.specs.Block.{limit}
use Rattle.meaning.specs.Window.{least}
use Rattle.columns.specs.Lent.{Lends, Periods}
use Rattle.columns.specs.declared.Records.{Records}
use Rattle.columns.specs.Judgeable.{Judgeable}
use Rattle.marks.specs.Marks.{Marks}
use Rattle.values.specs.Represents.{Represents}
use Rattle.groups.specs.Groups.{Groups}
use Rattle.orders.specs.Order.{InOrder}
use Rattle.prepare.specs.Rows.{wants}
use Rattle.prepare.specs.Keys.{Keys}
use Rattle.places.specs.declared.Places.{Places}
use Rattle.places.specs.Placing.{Counted, High}
use Rattle.steps.specs.Reaching.{Reaches}
use Rattle.passes.specs.Passes.{at}
use Rattle.soonest.specs.declared.Picked.{Picked}
use Rattle.soonest.specs.declared.Surveyed.{Surveyed}

-- rule r, which refers to q if it is a reference
pub record Given (doc : Doc) (q r : Rule) (places : Places) (vkinds : List ℕ) (values : List ℤ) (begins ends reps groups opens closes chosen rows others : List ℕ) : Type 0 where
  pub vkind : Lends doc.size doc.vkind 0 vkinds
  pub value : Lends doc.size doc.value (pos 0) values
  pub periods : Periods doc begins ends
  pub judgeable : Judgeable doc
  pub represents : Represents doc reps
  pub classes : Groups doc groups
  pub opened : InOrder (is_version doc) begins opens (length opens)
  pub closed : InOrder (is_version doc) ends closes (length closes)
  pub few_opens : length opens ≤ limit
  pub few : length closes ≤ limit
  pub chosen_are : Marks (selected doc r) doc.size chosen
  pub rows_are : Keys doc r rows
  pub others_room : doc.size ≤ length others
  pub others_are : is_reference r ≡ true → Keys doc q others × ((f : ℕ) → wants doc q f ≡ valued doc f)
  pub counted : Counted places

-- the same of columns lent together, of what is known of them and of what is picked out
abbrev pub GivenOf : Doc → Rule → Rule → Places → Records → Surveyed → Picked → Type 0
GivenOf doc q r places s u p =
    Given doc q r places s.vkind.now s.value.now s.begin.now s.end.now u.rep.now u.group.now u.opens.now u.closes.now p.chosen.now p.row.now p.other.now

-- whatever the representatives are: a datatype in windows has no use for them
abbrev pub GivenSteps : Doc → Rule → Rule → Places → List ℕ → Records → Surveyed → Picked → Type 0
GivenSteps doc q r places reps s u p =
    Given doc q r places s.vkind.now s.value.now s.begin.now s.end.now reps u.group.now u.opens.now u.closes.now p.chosen.now p.row.now p.other.now

-- whatever the values are: other rules ask for their representatives only
abbrev pub GivenSweeps : Doc → Rule → Rule → Places → List ℕ → List ℤ → Records → Surveyed → Picked → Type 0
GivenSweeps doc q r places vkinds values s u p =
    Given doc q r places vkinds values s.begin.now s.end.now u.rep.now u.group.now u.opens.now u.closes.now p.chosen.now p.row.now p.other.now

-- for each record of an order the place from which on it is not present, or no window reaches back far enough for it to offend a datatype rule
pub record Reaching (doc : Doc) (r : Rule) (places : Places) (order until : List ℕ) : Type 0 where
  pub reach : List ℕ
  pub reaches : Reaches doc r reach
  pub room : doc.size ≤ length until
  pub high : (j : ℕ) → j < length order → High places (least (at reach (at order j)) (doc.end (at order j))) (at until (at order j))

-- each of n records has the earlier of two days
pub record Earlier (n : ℕ) (ones others days : List ℕ) : Type 0 where
  pub room : n ≤ length days
  pub day : (x : ℕ) → x < n → at days x ≡ least (at ones x) (at others x)
