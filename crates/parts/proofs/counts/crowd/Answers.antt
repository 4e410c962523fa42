-- `parts::counts::crowd` meets its contract: one is more than none, and two are more than one.
use Rattle.parts.proofs.Using.{given_least, some-by, pair-by}
use Rattle.parts.proofs.counts.crowd.Goals as goal

pub least-requires : goal.least-requires
least-requires c = let p = c.requires.0 in given_least _ _ _ _ p.ground p.in_keys

pub returns-then-high-eq0 : goal.returns-then-high-eq0
returns-then-high-eq0 c =
    let p = c.requires.0 in
    rw c.if-high-eq0.true (some-by _ _ _ _ p.ground _ p.by_begin _ c.least.ensures)

pub returns-then-high-eq1 : goal.returns-then-high-eq1
returns-then-high-eq1 c =
    let p = c.requires.0 in
    rw c.if-high-eq1.true (pair-by _ _ _ _ p.ground _ p.by_begin _ c.twice.ensures)

-- written out so that a wrong bound shows as two sides that differ
pub returns : goal.returns
returns c = c.crowd.ensures
