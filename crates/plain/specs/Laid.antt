-- What the plain engine asks of columns: a document that can be judged, no item of which has two current versions; and two images read into such columns.
use Rattle.std.specs.Prelude.{◌≡◌, true, false, List, ℕ, ◌-◌, ◌≤◌, ℤ, length, take}
use Rattle.meaning.specs.declared.Rule.{Rule}
use Rattle.meaning.specs.Reading.{Accepted}
use Rattle.meaning.specs.Document.{Doc}
use Rattle.meaning.specs.Nodes.{doc_of, read_nodes}
use Rattle.meaning.specs.Rules.{is_reference, read_rules}
use Rattle.meaning.specs.Select.{selected}
use Rattle.columns.specs.declared.Records.{Records}
use Rattle.columns.specs.Lent.{Tree, Values, Periods}
use Rattle.columns.specs.Judgeable.{Judgeable}
use Rattle.marks.specs.Marks.{Marks}
use Rattle.descent.specs.Descent.{Single}
use Rattle.plain.specs.declared.days.Choice.{Choice}

pub record Laid (doc : Doc) (kinds vkinds names parents begins ends : List ℕ) (values : List ℤ) : Type 0 where
  pub tree : Tree doc kinds names parents
  pub values_held : Values doc kinds vkinds values
  pub periods : Periods doc begins ends
  pub judgeable : Judgeable doc
  pub single : Single doc

-- `other` is the rule q to which r refers if it is a reference, else r itself; and the versions that each selects are marked
pub record Chosen (doc : Doc) (q other r : Rule) (own held : List ℕ) : Type 0 where
  pub referred : is_reference r ≡ true → other ≡ q
  pub itself : is_reference r ≡ false → other ≡ r
  pub own_marks : Marks (selected doc r) doc.size own
  pub held_marks : Marks (selected doc other) doc.size held

-- the same of columns that are lent together, and of a rule's choice
abbrev pub LaidOf : Doc → Records → Type 0
LaidOf doc r = Laid doc r.kind.now r.vkind.now r.name.now r.parent.now r.begin.now r.end.now r.value.now

abbrev pub ChosenOf : Doc → Rule → Choice → Type 0
ChosenOf doc q c = Chosen doc q c.other c.rule c.own.now c.held.now

-- both images are accepted, and the first n entries of the seven columns hold the records of the first
pub record Read (nodes rules : List ℕ) (n : ℕ) (r : Records) : Type 0 where
  pub accepted : read_nodes nodes ≡ Accepted
  pub table : read_rules rules ≡ Accepted
  pub kind : n ≤ length r.kind.now
  pub vkind : n ≤ length r.vkind.now
  pub name : n ≤ length r.name.now
  pub parent : n ≤ length r.parent.now
  pub begin : n ≤ length r.begin.now
  pub end : n ≤ length r.end.now
  pub value : n ≤ length r.value.now
  pub laid : Laid (doc_of nodes) (take (n - 0) r.kind.now) (take (n - 0) r.vkind.now) (take (n - 0) r.name.now) (take (n - 0) r.parent.now) (take (n - 0) r.begin.now) (take (n - 0) r.end.now) (take (n - 0) r.value.now)
