-- `judging::tell` meets its contract: it fails where the walk stopped, or holds where it came to the end, and the count goes with it.
use native.Mathlib.Omega.{arith}
use Rattle.judging.proofs.Stops.{stopped_here, stopped_nowhere, to-few, past-begin, before-close}
use Rattle.judging.proofs.Verdicts.{fails_there, holds-all}
use Rattle.judging.proofs.tell.Goals as goal

pub overflow_add-here : goal.overflow_add-here
overflow_add-here c =
    let p = c.requires in
    let o = stopped_here c.in-Some.is p.3.6 in
    record { fits = omega (arith, o.stands.inside, p.2.count_most) }

pub count_to-count-requires : goal.count_to-count-requires
count_to-count-requires c =
    let p = c.requires in
    let d = p.3 in
    let o = stopped_here c.in-Some.is d.6 in
    (past-begin p.2 p.1 d.0 d.1 d.4 o.stands, to-few p.2 o.stands, (d.0, d.1, d.3, d.5))

pub returns-in-Some : goal.returns-in-Some
returns-in-Some c =
    let p = c.requires in
    λ doc q k d ok t soon w.
    fails_there doc q _ _ _ soon ok p.0 p.1 p.2 (stopped_here c.in-Some.is w) (c.count_to-count.ensures doc q d t)

pub count_to-requires : goal.count_to-requires
count_to-requires c =
    let p = c.requires in
    let d = p.3 in
    (λ s. before-close p.2 p.1 p.0, p.2.close_most, (d.0, d.1, d.3, d.5))

pub returns : goal.returns
returns c =
    let p = c.requires in
    λ doc q k d ok t soon w.
    holds-all doc q _ _ _ soon ok p.0 p.1 p.2 (stopped_nowhere c.in_default.is w) (c.count_to.ensures doc q d t)
