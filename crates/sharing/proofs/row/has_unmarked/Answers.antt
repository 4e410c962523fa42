-- `sharing::row::has_unmarked` meets its contract: for every row that the chain holds, a value that is not marked is still to be found at `at` or below.
use native.Mathlib.Omega.{arith}
use Rattle.sharing.specs.Row.{asks}
use Rattle.sharing.proofs.Descent.{down_less}
use Rattle.sharing.proofs.Searching.{searched_start, searched_next, searched_hit, searched_end, unmarked_tested, entry}
use Rattle.sharing.proofs.row.has_unmarked.Goals as goal

pub loop-at-init : goal.loop-at-init
loop-at-init c =
    searched_start _ _ _ _ c.requires.chain

pub bounds-seen-x : goal.bounds-seen-x
bounds-seen-x c =
    omega (arith, (entry _ _ _ _ _ c.requires.rooms _ c.loop-at.invariant.0.0 c.loop-at-test.true _ c.index-x.ensures).1)

pub returns-then-has-seen : goal.returns-then-has-seen
unfolding asks
returns-then-has-seen c =
    λ row ch.
    searched_hit _ _ _ _ _ c.loop-at.invariant row ch c.loop-at-test.true
    (unmarked_tested _ _ c.args.seen.now _ _ _ c.has.ensures c.index-x.ensures c.if-has-seen.true)

pub loop-at-smaller : goal.loop-at-smaller
loop-at-smaller c =
    down_less _ _ _ c.requires.chain _ c.loop-at.invariant.0 c.loop-at-test.true _ c.index-at.ensures

pub loop-at-preserved : goal.loop-at-preserved
loop-at-preserved c =
    searched_next _ _ _ _ c.requires.chain _ c.loop-at.invariant c.loop-at-test.true _ c.index-at.ensures
    (unmarked_tested _ _ c.args.seen.now _ _ _ c.has.ensures c.index-x.ensures c.if-has-seen.false)

pub returns : goal.returns
unfolding asks
returns c = λ row ch. searched_end _ _ _ _ _ c.loop-at.invariant row ch c.loop-at-test.false
