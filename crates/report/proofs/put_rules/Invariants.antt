-- `report::put_rules` meets its contract: after k rules the text has their lines, each with the verdict on its rule.
use mathlib.Core.Path.{◌≡◌}
use mathlib.Core.List.{List}
use Prim.Native.Nat.{ℕ}
use lib.ListN.{length}
use Rattle.meaning.specs.Answer.{verdict}
use Rattle.spelling.specs.Puts.{Puts}
use Rattle.report.specs.Surveys.{Surveys}
use Rattle.report.specs.Text.{rule_lines}
use Rattle.report.proofs.put_rules.Given as goal

abbrev pub invariant-loop-k : goal.invariant-loop-k
invariant-loop-k l = (length l.text ≡ length l.initial.text)
    × ((nodes : List ℕ) → Surveys nodes l.rules l.opened → Puts l.initial.text l.at (rule_lines (verdict nodes l.rules) 0 l.k) l.text l.to)
