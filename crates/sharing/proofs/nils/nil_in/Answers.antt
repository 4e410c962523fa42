-- `sharing::nils::nil_in` meets its contract: a value without a mark is a nil.
use mathlib.Core.Path.{ap, ◌∙◌}
use mathlib.Core.Bool.{not}
use native.Mathlib.Omega.{arith}
use lib.Dec.{eqb}
use Rattle.meaning.specs.Select.{is_nil}
use Rattle.sharing.proofs.Offence.{nil_answer}
use Rattle.sharing.proofs.nils.nil_in.Goals as goal

pub first_missing-requires : goal.first_missing-requires
first_missing-requires c =
    let p = c.requires in
    (p.0, p.1, p.2, omega (arith, c.known_marks-known.ensures.0, p.4))

pub returns : goal.returns
unfolding is_nil
returns c =
    let marks = c.known_marks-known.ensures.1 in
    λ doc r w ready lent valued_only e i.
    nil_answer c.args.trail c.args.stretch doc r r w ready valued_only e i _
    (λ y h. marks y (omega (arith, lent.size)) ∙ ap (λ k. not (eqb k 3)) (lent.at y))
    (c.first_missing.ensures doc r ready)
