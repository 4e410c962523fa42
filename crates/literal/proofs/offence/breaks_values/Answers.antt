-- `literal::offence::breaks_values` meets its contract, for each of its kinds.
use mathlib.Core.Path.{refl, ◌∙◌}
use native.Mathlib.Omega.{arith}
use Rattle.literal.proofs.Alone.{is-nil_lem}
use Rattle.literal.proofs.Judging.{breaks-key, breaks-key_not_one, breaks-unique, breaks-reference}
use Rattle.literal.proofs.offence.breaks_values.Goals as goal

pub returns-then-kind-eq3 : goal.returns-then-kind-eq3
returns-then-kind-eq3 c =
    λ doc p q r w o n k low high. breaks-reference doc p q r _ o _ _ _ n _ _ (omega (arith, w.vkind.size)) (c.taken-held.ensures doc w) (k ∙ c.if-kind-eq3.true) w.vkind.size

pub returns-then-kind-eq2 : goal.returns-then-kind-eq2
returns-then-kind-eq2 c =
    let v = c.requires.1 in
    λ doc p q r w o n k low high. breaks-unique doc p q r _ o _ _ _ n _ _ (omega (arith, w.vkind.size)) (c.taken-twice.ensures doc w) (k ∙ c.if-kind-eq2.true) refl

pub returns-then-t-ne1 : goal.returns-then-t-ne1
returns-then-t-ne1 c =
    let not-unique = c.if-kind-eq2.false in
    let not-reference = c.if-kind-eq3.false in
    λ doc p q r w o n k low high. breaks-key_not_one doc p q r _ o _ _ _ n (omega arith) c.if-t-ne1.true

pub returns : goal.returns
returns c =
    let v = c.requires.1 in
    let not-unique = c.if-kind-eq2.false in
    let not-reference = c.if-kind-eq3.false in
    λ doc p q r w o n k low high. breaks-key doc p q r _ o _ _ _ n _ _ (omega (arith, w.vkind.size)) (c.taken-twice.ensures doc w) (omega arith) refl
    c.if-t-ne1.false _ (is-nil_lem doc _ _ w _)
