-- Two images opened: what came of both, and the columns of the first.
use Rattle.std.specs.Prelude.{◌≡◌, List, ℕ, length, Result, Ok, Err}
use Rattle.meaning.specs.Reading.{Reading}
use Rattle.meaning.specs.declared.Refusal.{Refusal}
use Rattle.meaning.specs.Order.{and_then}
use Rattle.meaning.specs.Nodes.{nodes_of, read_nodes}
use Rattle.meaning.specs.Rules.{read_rules}
use Rattle.columns.specs.declared.Columns.{Columns}
use Rattle.nodes.specs.Loading.{loaded, tell_loaded}
use Rattle.nodes.specs.Unpacking.{Unpacks, together}

-- what came of a node image, then of a table
abbrev pub after_rules : Result ℕ Refusal → Reading → Result ℕ Refusal
after_rules (Ok n) read = loaded read n
after_rules (Err why) read = Err why

-- the node image's refusal, then the table's, or how many records there are; and every entry of the columns, as the node image has them
pub record Opens (nodes rules : List ℕ) (c : Columns) : Type 0 where
  pub nodes_alone : Result ℕ Refusal
  pub columns : Unpacks nodes (together nodes_alone c.kind c.vkind c.name c.parent c.begin c.end c.value c.item)
  pub answer : tell_loaded c.loaded ≡ tell_loaded (loaded (and_then (read_nodes nodes) (read_rules rules)) (length (nodes_of nodes)))
