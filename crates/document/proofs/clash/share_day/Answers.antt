-- `document::clash::share_day` meets its contract: its two tests are those of the definition.
use mathlib.Core.Path.{refl}
use Rattle.meaning.specs.Nodes.{share_day}
use Rattle.document.proofs.clash.share_day.Goals as goal

pub returns : goal.returns
unfolding share_day
returns c = refl
