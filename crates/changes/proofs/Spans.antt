-- A rule that fits its table has a path of few steps.
use mathlib.Core.Path.{◌≡◌}
use mathlib.Core.Bool.{true}
use Prim.Native.Nat.{◌≤◌}
use Rattle.meaning.specs.declared.Rule.{Rule}
use Rattle.meaning.specs.Rules.{rule_fields}
use Rattle.meaning.proofs.Tables.{rule_row}

pub steps-few : (r : Rule) → rule_fields r ≡ true → r.steps ≤ 8
steps-few r f = ((rule_row r).0 f).path.steps_most
