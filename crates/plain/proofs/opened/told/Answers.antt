-- `plain::opened::told` meets its contract: the change days counted up to the day where the walk stopped, or all.
use mathlib.Core.Path.{refl, sym, ap, ◌∙◌}
use native.Mathlib.Omega.{arith}
use Rattle.meaning.specs.declared.Verdict.TheVariants.{Fails}
use Rattle.meaning.proofs.Tables.{rule_row}
use Rattle.plain.proofs.Telling.{told-fails, told-holds, stopped_here, stopped_nowhere}
use Rattle.plain.proofs.opened.told.Goals as goal

pub overflow_add-day : goal.overflow_add-day
overflow_add-day c =
    let p = c.requires in
    let w = stopped_here _ _ _ p.1.4 c.in-Some.is in
    record { fits = omega (arith, w.below, ((rule_row _).0 p.0).period_end) }

pub count_changes-requires : goal.count_changes-requires
count_changes-requires c =
    let p = c.requires.1 in
    let w = stopped_here _ _ _ p.4 c.in-Some.is in
    (p.2.end.size ∙ sym p.2.begin.size, omega (arith, p.2.begin.size, p.3.room), omega (arith, w.from))

pub count_changes-requires-in-None : goal.count_changes-requires-in-None
count_changes-requires-in-None c =
    let s = c.requires in
    let p = s.1 in
    (p.2.end.size ∙ sym p.2.begin.size, omega (arith, p.2.begin.size, p.3.room), omega (arith, ((rule_row _).0 s.0).period))

pub returns-in-Some : goal.returns-in-Some
returns-in-Some c doc q periods judgeable marks stopped =
    ap (λ day. Fails day c.in-Some.field-0.place c.count_changes.result) c.from.ensures
    ∙ told-fails doc q _ judgeable.present _ _ _ (stopped_here doc q _ stopped c.in-Some.is) (c.count_changes.ensures doc q _ periods marks refl)

pub returns-in-None : goal.returns-in-None
returns-in-None c doc q periods judgeable marks stopped =
    told-holds doc q _ judgeable.present _ (omega (arith, ((rule_row _).0 c.requires.0).period)) (stopped_nowhere doc q _ stopped c.in-None.is)
    (c.count_changes-in-None.ensures doc q _ periods marks refl)
