-- `steps::spans::span_of` meets its contract: the numbers with a row among the records below f lie in the span.
use Rattle.steps.specs.Calm.{Spanned}
use Rattle.steps.proofs.spans.span_of.Given as goal

abbrev pub invariant-loop-f : goal.invariant-loop-f
invariant-loop-f l = Spanned l.key l.vkind l.value l.f l.span.least l.span.most
