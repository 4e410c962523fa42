-- `sharing::missing_in` meets its contract: the marks tell the values of the rule referred to, and then the first row with another value is the offender.
use native.Mathlib.Omega.{arith}
use Rattle.day.proofs.Settling.{fresh}
use Rattle.prepare.proofs.Valued.{low-wants}
use Rattle.sharing.proofs.Offence.{missing_answer}
use Rattle.sharing.proofs.missing_in.Goals as goal

pub mark_rows-requires : goal.mark_rows-requires
mark_rows-requires c =
    let p = c.requires in
    (p.0, p.2, p.4, fresh p.5)

pub first_missing-requires : goal.first_missing-requires
first_missing-requires c =
    let p = c.requires in
    (p.0, p.1, p.3, omega (arith, (fresh p.5).room))

pub returns : goal.returns
returns c =
    let held = c.mark_rows.ensures in
    λ doc q r w ready referred sequenced kind e i.
    missing_answer c.args.own c.args.stretch doc q r w ready (λ f. low-wants doc r f (omega arith)) e i c.args.held referred kind _ (held doc q referred.ready)
    (c.first_missing.ensures doc r ready)
