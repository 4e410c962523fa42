-- `prepare::fields::holders` meets its contract: below i each record has its holder.
use mathlib.Core.Path.{◌≡◌}
use lib.ListN.{length}
use Rattle.meaning.specs.Document.{Doc}
use Rattle.columns.specs.Lent.{TreeOf}
use Rattle.prepare.proofs.Filling.{Filled}
use Rattle.prepare.proofs.Holding.{Held}
use Rattle.prepare.proofs.fields.holders.Given as goal

abbrev pub invariant-loop-i : goal.invariant-loop-i
invariant-loop-i l = (length l.out ≡ length l.initial.out)
    × ((doc : Doc) → TreeOf doc l.records → Filled (Held doc l.rule) l.i l.out)
