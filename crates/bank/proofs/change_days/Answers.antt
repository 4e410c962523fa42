-- `bank::change_days` meets its contract: a refusal of either image, or what their columns and table give.
use Rattle.std.proofs.Common.{◌≡◌, sym, subst, rules}
use Rattle.meaning.specs.Reading.{Refused}
use Rattle.opening.specs.Promises.{ChangesPromise}
use Rattle.bank.proofs.Turning.{changes_refused}
use Rattle.bank.proofs.change_days.Goals as goal

pub returns-in_err-n : goal.returns-in_err-n
returns-in_err-n c =
    let a = c.args in
    let why = c.in_err-n.field-0.0 in
    let same : c.from_residual.result ≡ Refused why.number why.place = search (rules, c.from_residual.ensures) in
    subst (λ x. ChangesPromise a.nodes.now a.rules.now a.rule a.out.now x a.out.now) (sym same) (changes_refused _ _ _ _ c.open-columns.ensures c.in_err-n.was)

pub returns : goal.returns
returns c = c.changes_of.ensures _ c.open-columns.ensures
