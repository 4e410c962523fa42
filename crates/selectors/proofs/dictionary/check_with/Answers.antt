-- `selectors::dictionary::check_with` meets its contract. The loop's invariant: what came of the classes below this one.
use native.Mathlib.Omega.{arith}
use borrow.Author.Rules.{rules}
use Rattle.selectors.proofs.Classes.{class-first, class-next, class-last}
use Rattle.selectors.proofs.dictionary.check_with.Goals as goal

pub loop-class-init : goal.loop-class-init
loop-class-init c = (search rules, class-first _ _ c.check_by-all.ensures)

pub loop-class-preserved : goal.loop-class-preserved
loop-class-preserved c =
    (search rules, class-next _ _ _ c.loop-class.invariant.1 c.check_by-one.ensures c.lower-all.ensures)

pub returns : goal.returns
returns c = class-last _ _ _ (omega arith) c.loop-class-test.false c.loop-class.invariant.1
