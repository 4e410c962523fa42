-- `literal::only::shared` meets its contract: no version below u shares the value.
use mathlib.Core.Path.{◌≡◌}
use mathlib.Core.Bool.{false}
use Rattle.meaning.specs.Document.{Doc}
use Rattle.meaning.specs.Walk.{any}
use Rattle.literal.specs.Laid.{Valued}
use Rattle.literal.specs.Only.{shares_at}
use Rattle.literal.proofs.only.shared.Given as goal

abbrev pub invariant-loop-u : goal.invariant-loop-u
invariant-loop-u l = (doc : Doc) → Valued doc l.vkind l.value → any (shares_at doc l.only l.f) 0 l.u ≡ false
