-- `literal::offence::wrong_count` meets its contract.
use mathlib.Core.Path.{refl}
use native.Mathlib.Omega.{arith}
use mir.Syntax.{w32}
use Rattle.numbers.proofs.Signs.{given}
use Rattle.numbers.proofs.Callers.{held}
use Rattle.literal.proofs.Judging.{count-breaks}
use Rattle.literal.proofs.offence.wrong_count.Goals as goal

pub returns : goal.returns
returns c =
    let many = c.fields_present-many.ensures.1 in
    let r = c.args.asked.rule in
    λ doc p t m. count-breaks doc p r _ _ (held r.low) (held r.high) _ c.outside.ensures (given w32 (omega arith)) (given w32 (omega arith)) (many doc p _ t m refl)
