-- `literal::only::only_value` meets its contract, at each of its three answers.
use native.Mathlib.Omega.{arith}
use Rattle.literal.proofs.Fielding.{lies-few}
use Rattle.literal.proofs.Alone.{only-absent, only-not_one, only_one}
use borrow.Author.Rules.{rules}
use Rattle.literal.proofs.only.only_value.Goals as goal

pub returns-then-not-chosen-u : goal.returns-then-not-chosen-u
returns-then-not-chosen-u c =
    let u = c.requires.0 in
    (omega arith, λ doc p q l w m. only-absent doc p q _ _ l.present m _ (omega (arith, l.tree.kind.size)) c.if-not-chosen-u.true)

pub returns-then-t-ne1 : goal.returns-then-t-ne1
returns-then-t-ne1 c =
    let u = c.requires.0 in (
      omega arith,
      λ doc p q l w m. only-not_one doc p q _ _ l.present m _ (omega (arith, l.tree.kind.size)) _ _ (c.values-t.ensures.1 doc p q l w) c.if-t-ne1.true,
    )

pub overflow_cast-result : goal.overflow_cast-result
overflow_cast-result c =
    search (rules, c.values-t.ensures.0 (omega arith), lies-few _ _ _ c.requires.2.lies)

pub returns : goal.returns
returns c =
    let u = c.requires.0 in
    let one = c.if-t-ne1.false in (
      omega (arith, c.values-t.ensures.0 (omega arith)),
      λ doc p q l w m. only_one doc p q _ _ l.present m _ (omega (arith, l.tree.kind.size)) _ _ (c.values-t.ensures.1 doc p q l w) c.if-not-chosen-u.false one,
    )
