-- `window::layout::lay_out` meets its contract: each kind has the layout that it asks for.
use Rattle.window.proofs.Spreading.{spread-rows}
use Rattle.window.proofs.layout.lay_out.Goals as goal

pub returns-then-rule-eq4 : goal.returns-then-rule-eq4
returns-then-rule-eq4 c = λ doc t v w g o ok flat s. c.lay_counted.ensures doc t v g s c.if-rule-eq4.true

pub returns-then-rule-eq5 : goal.returns-then-rule-eq5
returns-then-rule-eq5 c = λ doc t v w g o ok flat s. c.lay_stepped.ensures doc t v w g o ok flat c.if-rule-eq5.true

pub returns : goal.returns
returns c =
    λ doc t v w g o ok flat s. spread-rows c.if-rule-eq4.false c.if-rule-eq5.false s
