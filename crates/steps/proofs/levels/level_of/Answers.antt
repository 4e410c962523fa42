-- `steps::levels::level_of` meets its contract, at each of its five answers.
use mir.Facts.{to_z-of_z}
use Rattle.steps.proofs.Raising.{level-end, level-begin, level-text, level-value, level-turned}
use Rattle.steps.proofs.levels.level_of.Goals as goal

pub returns-then-which-eq-ENDS : goal.returns-then-which-eq-ENDS
returns-then-which-eq-ENDS c = level-end _ _ _ _ _ c.if-which-eq-ENDS.true

pub returns-then-which-eq-BEGINS : goal.returns-then-which-eq-BEGINS
returns-then-which-eq-BEGINS c = level-begin _ _ _ _ _ c.if-which-eq-ENDS.false c.if-which-eq-BEGINS.true

pub returns-then-vkind-ne1 : goal.returns-then-vkind-ne1
returns-then-vkind-ne1 c = level-text _ _ _ _ _ c.if-which-eq-ENDS.false c.if-which-eq-BEGINS.false c.if-vkind-ne1.true

pub returns-then-which-eq-VALUES : goal.returns-then-which-eq-VALUES
returns-then-which-eq-VALUES c =
    level-value _ _ _ _ _ c.if-which-eq-ENDS.false c.if-which-eq-BEGINS.false c.if-vkind-ne1.false _ (to_z-of_z c.ranges.value) _ c.raised.ensures.0 c.if-which-eq-VALUES.true

pub returns : goal.returns
returns c =
    level-turned _ _ _ _ _ c.if-which-eq-ENDS.false c.if-which-eq-BEGINS.false c.if-vkind-ne1.false _ (to_z-of_z c.ranges.value) _ c.raised-2.ensures.0 c.if-which-eq-VALUES.false
