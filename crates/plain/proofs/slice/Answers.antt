-- `plain::slice` meets its contract: the image's refusal, or what its columns give.
use Rattle.std.proofs.Common.{◌≡◌, sym, subst, rules}
use Rattle.meaning.specs.Reading.{Refused}
use Rattle.opening.specs.Promises.{SlicePromise}
use Rattle.opening.proofs.Slicing.{slice-refused}
use Rattle.plain.proofs.slice.Goals as goal

pub returns-in_err-n : goal.returns-in_err-n
returns-in_err-n c =
    let why = c.in_err-n.field-0.0 in
    let same : c.from_residual.result ≡ Refused why.number why.place = search (rules, c.from_residual.ensures) in
    subst (λ x. SlicePromise c.args.nodes.now c.args.day c.args.out.now x c.args.out.now) (sym same) (slice-refused _ _ _ c.open_nodes-columns.ensures c.in_err-n.was)

pub returns : goal.returns
returns c = c.slice_of.ensures _ c.open_nodes-columns.ensures
