-- `report::put_rules` meets its contract: after k rules the text has their lines, each with the verdict on its rule.
use mathlib.Core.Path.{refl}
use native.Mathlib.Omega.{arith}
use borrow.Author.Rules.{rules}
use Rattle.report.proofs.Texts.{promised, rules_none, rules_more, rules_all}
use Rattle.report.proofs.put_rules.Goals as goal

pub count_rules-all-requires : goal.count_rules-all-requires
count_rules-all-requires c = c.requires.1.table

pub loop-k-init : goal.loop-k-init
loop-k-init c = (refl, λ nodes o. rules_none _ _ _)

pub verdict_by-verdict-requires : goal.verdict_by-verdict-requires
verdict_by-verdict-requires c = (omega (arith, c.count_rules-all.ensures.count), c.requires)

pub loop-k-preserved : goal.loop-k-preserved
loop-k-preserved c =
    let l = c.loop-k in (
      search rules,
      λ nodes o. rules_more _ l.k (l.invariant.1 nodes o) c.put_rule-to.ensures (promised nodes c.args.rules.now l.k (c.verdict_by-verdict.ensures nodes o)),
    )

pub returns : goal.returns
returns c nodes o =
    let count = c.count_rules-all.ensures.count in
    rules_all _ (c.loop-k.invariant.1 nodes o) (omega (arith, count)) (omega (arith, count))
