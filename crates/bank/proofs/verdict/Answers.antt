-- `bank::verdict` meets its contract: it is the verdict of what is found.
use Rattle.std.proofs.Common.{◌≡◌, sym, subst, rules}
use Rattle.meaning.specs.Reading.{Refused}
use Rattle.opening.specs.Promises.{VerdictPromise}
use Rattle.bank.specs.Found.{verdict_in}
use Rattle.bank.proofs.verdict.Goals as goal

pub returns-in_err-found : goal.returns-in_err-found
returns-in_err-found c =
    let a = c.args in
    let why = c.in_err-found.field-0.0 in
    let same : c.from_residual.result ≡ Refused why.number why.place = search (rules, c.from_residual.ensures) in
    subst (λ x. VerdictPromise a.nodes.now a.rules.now a.rule x) (sym same) (subst (λ x. VerdictPromise a.nodes.now a.rules.now a.rule (verdict_in x)) c.in_err-found.was c.judge.ensures)

pub returns : goal.returns
returns c = subst (λ x. VerdictPromise c.args.nodes.now c.args.rules.now c.args.rule (verdict_in x)) c.in_ok-found.was c.judge.ensures
