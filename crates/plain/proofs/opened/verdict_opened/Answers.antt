-- `plain::opened::verdict_opened` meets its contract: no such rule; or the verdict on it over the columns that were opened.
use native.Mathlib.Omega.{arith}
use Rattle.opening.proofs.Opens.{accepted-both}
use Rattle.opening.proofs.Sequenced.{changes_read_none}
use Rattle.plain.proofs.Received.{opened-read, by-reading}
use Rattle.plain.proofs.opened.verdict_opened.Goals as goal

pub count_rules-requires : goal.count_rules-requires
count_rules-requires c = let p = c.requires in (accepted-both _ p.0.1 p.1).1

pub returns-then-count_rules-rule : goal.returns-then-count_rules-rule
returns-then-count_rules-rule c nodes o =
    let ok = accepted-both _ o c.requires.1 in
    by-reading nodes _ _ (changes_read_none nodes _ _ ok.0 ok.1 (omega (arith, c.count_rules.ensures.count, c.if-count_rules-rule.true)))

pub verdict_of-requires : goal.verdict_of-requires
verdict_of-requires c =
    let p = c.requires in
    (omega (arith, c.count_rules.ensures.count, c.if-count_rules-rule.false), (p.0.0, opened-read _ p.0.1 p.1 c.all.ensures))

pub returns : goal.returns
returns c nodes o = c.verdict_of.ensures nodes (opened-read _ o c.requires.1 c.all.ensures)
