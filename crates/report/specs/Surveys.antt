-- Opened images as the rules of a report are judged on: for either engine.
use Rattle.std.specs.Prelude.{List, ℕ}
use Rattle.bank.specs.Opening.{OpenOf}
use Rattle.report.specs.declared.Opened.{Opened}

-- both images accepted, and their columns with their survey, lent together
abbrev pub Surveys : List ℕ → List ℕ → Opened → Type 0
Surveys nodes rules o = OpenOf nodes rules o.n o.all o.of o.many
