-- `parts::keys::numbered` meets its contract: below i each record has its own number.
use mathlib.Core.Path.{refl}
use borrow.Author.Rules.{rules}
use Rattle.prepare.proofs.Filling.{filled-store}
use Rattle.parts.proofs.keys.numbered.Goals as goal

pub loop-i-preserved : goal.loop-i-preserved
loop-i-preserved c = filled-store _ c.loop-i.invariant (search rules) _ refl
