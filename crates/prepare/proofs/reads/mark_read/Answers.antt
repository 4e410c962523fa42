-- `prepare::reads::mark_read` meets its contract: it marks by the selected versions and the holders.
use mathlib.Core.Path.{sym}
use Rattle.prepare.proofs.reads.mark_read.Goals as goal

pub returns : goal.returns
returns c =
    λ doc t. c.mark_by.ensures doc _ (sym t.kind.size) (c.mark_selected-chosen.ensures doc t) (c.holders-holder.ensures doc t)
