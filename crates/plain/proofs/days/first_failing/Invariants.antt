-- `plain::days::first_failing` meets its contract: no day before this one has an offender, and the marks kept are those of the day before.
use mathlib.Core.Path.{◌≡◌}
use lib.ListN.{length}
use Rattle.meaning.specs.Block.{limit}
use Rattle.meaning.specs.declared.Rule.{Rule}
use Rattle.meaning.specs.Document.{Doc}
use Rattle.descent.specs.Links.{Links}
use Rattle.plain.specs.Laid.{LaidOf, ChosenOf}
use Rattle.plain.proofs.Daily.{Walking}
use Rattle.plain.proofs.days.first_failing.Given as goal

abbrev pub invariant-loop-day : goal.invariant-loop-day
invariant-loop-day l = (length l.before ≡ limit)
    × ((doc : Doc) (q : Rule) → LaidOf doc l.records → Links doc l.chains → ChosenOf doc q l.choice → Walking doc q l.choice.rule l.before l.day)
