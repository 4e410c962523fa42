-- The text of a report (MEANING 15): a header and a line for each rule, or one line that says why there is none.
use Rattle.std.specs.Prelude.{List, [], ◌++◌, ℕ, zero, suc, length, Err, Result}
use Rattle.meaning.specs.Reading.{Reading, Accepted}
use Rattle.meaning.specs.declared.Refusal.{Refusal}
use Rattle.meaning.specs.declared.Verdict.{Verdict}
use Rattle.meaning.specs.Order.{and_then}
use Rattle.meaning.specs.Nodes.{read_nodes}
use Rattle.meaning.specs.Rules.{rules_of, read_rules}
use Rattle.meaning.specs.Answer.{verdict}
use Rattle.spelling.specs.Lines.{rule_line, header, refused_line}

-- a line for each of n rules, from rule k on
unfoldable pub rule_lines : (ℕ → Result Verdict Refusal) → ℕ → ℕ → List ℕ
rule_lines found k zero = []
rule_lines found k (suc n) = rule_line k (found k) ++ rule_lines found (suc k) n

-- a refusal's line, else the table
unfoldable pub line_or : Reading → List ℕ → List ℕ
line_or Accepted table = table
line_or (Err why) table = refused_line why.number why.place

unfoldable pub report_of : List ℕ → List ℕ → List ℕ
report_of nodes rules = line_or (and_then (read_nodes nodes) (read_rules rules)) (header ++ rule_lines (verdict nodes rules) 0 (length (rules_of rules)))
