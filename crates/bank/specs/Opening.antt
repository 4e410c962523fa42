-- Opened images on whose columns rules are judged: what is asked of them.
use Rattle.std.specs.Prelude.{◌≡◌, List, ℕ, ◌-◌, ℤ, take}
use Rattle.meaning.specs.Reading.{Accepted}
use Rattle.meaning.specs.Nodes.{doc_of, read_nodes}
use Rattle.meaning.specs.Rules.{read_rules}
use Rattle.columns.specs.Lent.{Fronts}
use Rattle.columns.specs.declared.Records.{Records}
use Rattle.soonest.specs.declared.Surveyed.{Surveyed as Known}
use Rattle.survey.specs.Surveyed.{Surveyed}

-- both images are accepted, the first n entries of the columns hold the records of the first, and they are surveyed
pub record Open (nodes rules : List ℕ) (n : ℕ) (kinds vkinds names parents begins ends : List ℕ) (values : List ℤ) (items reps groups opens closes : List ℕ) (many : ℕ) : Type 0 where
  pub accepted : read_nodes nodes ≡ Accepted
  pub table : read_rules rules ≡ Accepted
  pub fronts : Fronts n kinds vkinds names parents begins ends values items
  pub document : fronts.doc ≡ doc_of nodes
  pub surveyed : Surveyed (doc_of nodes) (take (n - 0) begins) (take (n - 0) ends) reps groups opens closes many

-- the same of columns and a survey that are lent together
abbrev pub OpenOf : List ℕ → List ℕ → ℕ → Records → Known → ℕ → Type 0
OpenOf nodes rules n r s many =
    Open nodes rules n r.kind.now r.vkind.now r.name.now r.parent.now r.begin.now r.end.now r.value.now r.item.now s.rep.now s.group.now s.opens.now s.closes.now many
