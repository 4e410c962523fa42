-- `steps::levels::level_at` meets its contract: what the call answers of the value, read back, is so of the value.
use Prim.Native.Nat.{◌<◌}
use native.Mathlib.Omega.{arith}
use lib.IntN.{pos}
use lib.ListN.{get_or}
use lib.Signed.{mag}
use mir.Syntax.{w32}
use Rattle.numbers.proofs.Signs.{given}
use Rattle.steps.proofs.Levelling.{level-heard}
use Rattle.steps.proofs.levels.level_at.Goals as goal

pub returns : goal.returns
returns c =
    let g : mag (get_or c.args.records.value.now c.args.p (pos 0)) < 2147483648 = omega arith in
    (level-heard _ _ _ _ _ _ _ (given w32 g) c.level_of.ensures, g)
