-- `day::offender_on` meets its contract: the marks tell the values of the rule referred to or none, and then the first row that offends is the offender.
use mathlib.Core.Path.{◌≡◌, ap}
use native.Mathlib.Omega.{arith}
use lib.ListN.{length}
use Rattle.day.proofs.Offence.{answers-referring, answers-fresh}
use Rattle.day.proofs.offender_on.Goals as goal
use Rattle.day.proofs.offender_on.Goals.{then-referring, else-referring}

pub first_row-requires : goal.first_row-requires
first_row-requires c =
    let p = c.requires in (
      p.0,
      p.1,
      p.3,
      elim c.if-referring.branch [
        | then-referring w ↦ omega (arith, ap length w.seen-is, p.5.room)
        | else-referring w ↦ omega (arith, ap length w.seen-is, p.5.room)
      ],
    )

pub shape_of-seen : goal.shape_of-seen
shape_of-seen c =
    let e : length c.if-referring.seen ≡ length c.args.seen.now = elim c.if-referring.branch [ then-referring w ↦ omega (arith, ap length w.seen-is) | else-referring w ↦ ap length w.seen-is ] in
    omega arith

pub returns : goal.returns
returns c =
    let found = c.first_row.ensures in
    elim c.if-referring.branch [
      | then-referring w ↦ λ doc q r s. answers-referring _ _ _ _ w.if-referring.true _ _ w.seen-is w.mark_rows.ensures doc q r s _ (found doc r s.ready)
      | else-referring w ↦ λ doc q r s. answers-fresh _ _ _ _ w.if-referring.false _ _ w.seen-is c.requires.5.none doc q r s _ (found doc r s.ready)
    ]
