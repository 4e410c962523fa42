-- `rules::references::read_references` meets its contract. The invariant: the references from k on give the answer on them all.
use mathlib.Core.Path.{◌∙◌}
use native.Mathlib.Nat.{sub-zero}
use Rattle.rules.proofs.Walked.{earliest-ends}
use Rattle.rules.proofs.Answers.{refers-on, refers-stops}
use Rattle.std.proofs.Common.{ap, not}
use Rattle.rules.proofs.references.read_references.Goals as goal

pub loop-k-init : goal.loop-k-init
loop-k-init c = rw sub-zero

pub returns-then-not-refers_well : goal.returns-then-not-refers_well
returns-then-not-refers_well c =
    refers-stops _ _ _ _ c.loop-k-test.true c.refers_well.ensures (ap not c.if-not-refers_well.true) ∙ c.loop-k.invariant

pub loop-k-preserved : goal.loop-k-preserved
loop-k-preserved c =
    refers-on _ _ _ _ c.loop-k-test.true c.refers_well.ensures (ap not c.if-not-refers_well.false) ∙ c.loop-k.invariant

pub returns : goal.returns
returns c = earliest-ends _ _ _ c.loop-k-test.false ∙ c.loop-k.invariant
