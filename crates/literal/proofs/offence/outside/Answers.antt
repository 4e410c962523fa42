-- `literal::offence::outside` meets its contract.
use mathlib.Core.Path.{refl, ap}
use mathlib.Core.Bool.{not}
use native.Mathlib.Omega.{arith}
use mir.Syntax.{w32}
use mir.Facts.{to_z-of_z, to_z_pos}
use Rattle.numbers.proofs.Callers.{heard_range}
use Rattle.literal.proofs.offence.outside.Goals as goal

pub returns : goal.returns
returns c = ap not (heard_range refl (to_z_pos w32 (omega arith)) (to_z-of_z c.ranges.low) (to_z-of_z c.ranges.high))
