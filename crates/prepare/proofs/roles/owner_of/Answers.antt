-- `prepare::roles::owner_of` meets its contract, at each of its four answers.
use mathlib.Core.Bool.{true, false}
use Rattle.prepare.proofs.Owning.{owner_self, owner_not_self, owner_above}
use Rattle.prepare.proofs.roles.owner_of.Goals as goal

pub returns-then-left-eq1 : goal.returns-then-left-eq1
returns-then-left-eq1 c = owner_self _ _ _ _ _ _ c.if-field-eq0.true c.if-left-eq1.true

pub returns-then-field-eq0 : goal.returns-then-field-eq0
returns-then-field-eq0 c = owner_not_self _ _ _ _ _ _ c.if-field-eq0.true c.if-left-eq1.false

pub returns-then-name-field : goal.returns-then-name-field
returns-then-name-field c = owner_above _ _ _ _ _ _ c.if-field-eq0.false true c.if-name-field.true

pub returns : goal.returns
returns c = owner_above _ _ _ _ _ _ c.if-field-eq0.false false c.if-name-field.false
