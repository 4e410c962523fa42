-- `steps::spans::span_of` meets its contract: the numbers with a row among the records below f lie in the span.
use native.Mathlib.Omega.{arith}
use lib.IntN.{pos}
use lib.ListN.{get_or}
use mir.Syntax.{w32}
use Rattle.numbers.proofs.Signs.{given}
use Rattle.steps.proofs.Calming.{spanned_none, spanned_on, spanned_all}
use Rattle.steps.proofs.spans.span_of.Goals as goal

pub loop-f-init : goal.loop-f-init
loop-f-init c = spanned_none _ _ _

pub loop-f-preserved : goal.loop-f-preserved
loop-f-preserved c = spanned_on _ _ _ _ _ _ _ _ c.loop-f.invariant _ (given w32 {z = get_or c.args.value.now c.loop-f.f (pos 0)} (omega arith)) c.widened-span.ensures

pub returns : goal.returns
returns c = let s = c.loop-f in spanned_all _ _ _ _ _ _ s.invariant (omega arith)
