-- `judging::walking::lower` meets its contract: by which of the two were found.
use mathlib.Core.Path.{sym, ◌∙◌}
use native.Mathlib.Omega.{arith}
use Rattle.judging.proofs.Lower.{lower-first, lower-second, lower-left, lower-right}
use Rattle.judging.proofs.walking.lower.Goals as goal

pub returns-in_default : goal.returns-in_default
returns-in_default c = λ f g h n p q e. lower-second f g h n e p q c.in_default.is

pub returns-in_default-b : goal.returns-in_default-b
returns-in_default-b c = λ f g h n p q e. sym c.in-Some.is ∙ lower-first f g h n e p q c.in_default-b.is

pub returns-then-u-v : goal.returns-then-u-v
returns-then-u-v c =
    λ f g h n p q e. sym c.in-Some.is ∙ lower-left f g h n e p q _ _ c.in-Some.is c.in-Some-b.is c.if-u-v.true

pub returns : goal.returns
returns c =
    λ f g h n p q e. sym c.in-Some-b.is ∙ lower-right f g h n e p q _ _ c.in-Some.is c.in-Some-b.is (omega (arith, c.if-u-v.false))
