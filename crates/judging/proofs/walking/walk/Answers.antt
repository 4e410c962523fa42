-- `judging::walking::walk` meets its contract: no place that was passed has an offender.
use native.Mathlib.Omega.{arith}
use Rattle.judging.specs.Stopping.{Stands}
use Rattle.judging.proofs.Stops.{clear_none, clear-end, stands, from-few, offended, passed}
use Rattle.judging.proofs.walking.walk.Goals as goal
use Rattle.judging.proofs.walking.walk.Goals.{After-place_at-here}

-- it is the place of its number
there : (c : After-place_at-here) → Stands c.args.at c.place_at-here.result
there c =
    let e = c.place_at-here.ensures in
    stands c.loop-k.k c.loop-k-test.true e.from e.to e.number e.shortened

pub loop-k-init : goal.loop-k-init
loop-k-init c = λ doc q a. clear_none doc q _ _ _ _ (omega arith)

pub place_at-here-requires : goal.place_at-here-requires
place_at-here-requires c =
    let p = c.requires in
    (p.0, p.3, omega (arith, c.loop-k-test.true))

pub offender_at-requires : goal.offender_at-requires
offender_at-requires c =
    let p = c.requires in
    (p.1, from-few p.3 (there (goal.at.offender_at-requires c).After-place_at-here), (p.4.0, p.4.1, p.4.2))

pub returns-in-Some : goal.returns-in-Some
returns-in-Some c =
    let p = c.requires in
    let n = c.place_at-here.ensures.number in
    λ doc q a. offended (there (goal.at.returns-in-Some c).After-place_at-here) n (c.loop-k.invariant doc q a) (c.offender_at.ensures doc q _ a p.2 p.3 (there (goal.at.returns-in-Some c).After-place_at-here)) c.in-Some.is

pub loop-k-preserved : goal.loop-k-preserved
loop-k-preserved c =
    let p = c.requires in
    let n = c.place_at-here.ensures.number in
    λ doc q a. passed (there (goal.at.loop-k-preserved c).After-place_at-here) n (c.loop-k.invariant doc q a) (c.offender_at.ensures doc q _ a p.2 p.3 (there (goal.at.loop-k-preserved c).After-place_at-here)) c.in_default.is

pub returns : goal.returns
returns c = λ doc q a. clear-end (c.loop-k.invariant doc q a) (omega (arith, c.loop-k-test.false))
