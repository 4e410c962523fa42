-- `plain::verdict` meets its contract: a refusal of either image, or what their columns and table give.
use Rattle.std.proofs.Common.{◌≡◌, sym, subst, rules}
use Rattle.meaning.specs.Reading.{Refused}
use Rattle.opening.specs.Promises.{SequencedPromise}
use Rattle.opening.proofs.Sequenced.{changes_read_opened}
use Rattle.plain.proofs.Received.{by-reading}
use Rattle.plain.proofs.verdict.Goals as goal

pub returns-in_err-n : goal.returns-in_err-n
returns-in_err-n c =
    let a = c.args in
    let why = c.in_err-n.field-0.0 in
    let same : c.from_residual.result ≡ Refused why.number why.place = search (rules, c.from_residual.ensures) in
    subst (λ x. SequencedPromise a.nodes.now a.rules.now a.rule x) (sym same) (by-reading _ _ _ (changes_read_opened _ _ _ c.open-columns.ensures c.in_err-n.was))

pub returns : goal.returns
returns c = c.verdict_opened.ensures _ c.open-columns.ensures
