-- `literal::offence::gives_wrong` meets its contract.
use mathlib.Core.Path.{refl}
use native.Mathlib.Omega.{arith}
use lib.IntN.{pos}
use lib.ListN.{get_or}
use mir.Syntax.{w32}
use Rattle.numbers.proofs.Signs.{given}
use Rattle.numbers.proofs.Callers.{held}
use Rattle.literal.proofs.Judging.{wrong-breaks}
use borrow.Author.Rules.{rules}
use Rattle.literal.proofs.offence.gives_wrong.Goals as goal

pub returns : goal.returns
returns c =
    let r = c.args.asked.rule in
    λ doc p l w. wrong-breaks doc p r _ _ w _ _ _ _ (held (get_or c.args.records.value.now c.args.f (pos 0))) (held r.low) (held r.high)
    (c.gives-given.ensures doc p r l refl) c.wrong.ensures (search rules) (given w32 (omega arith)) (given w32 (omega arith))
