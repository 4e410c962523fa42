-- `judging::walking::offender_at` meets its contract: what offends is spoilt by a nil, or offends otherwise.
use Rattle.soonest.specs.Soon.{offends_at}
use Rattle.judging.specs.Stopping.{offender_at}
use Rattle.judging.proofs.walking.offender_at.Goals as goal

pub spoilt_at-spoilt-requires : goal.spoilt_at-spoilt-requires
spoilt_at-spoilt-requires c = let a = c.requires.2 in (a.0, a.2.on-days.rowed.rows, a.2.nilling)

pub aside_at-other-requires : goal.aside_at-other-requires
aside_at-other-requires c = c.requires

pub returns : goal.returns
unfolding offender_at
returns c =
    let other = c.aside_at-other.ensures in
    let spoilt = c.spoilt_at-spoilt.ensures in
    λ doc q at a p n s.
    let t = other doc q at a p n s in
    c.lower.ensures t.test _ (offends_at doc _ q _) _ t.lowest (spoilt doc at a.on-days.rowed.rows a.nilling s) t.told
