-- `judging::walking::aside_at` meets its contract: who offends on the day, or in the window, offends at the place.
use mathlib.Core.Path.{sym}
use borrow.Author.Tests.{eq-eqb, ne_eqb}
use Rattle.judging.proofs.Stops.{aside_on_day, aside_in_window, short-there}
use Rattle.judging.proofs.walking.aside_at.Goals as goal

pub returns-then-r-eq0 : goal.returns-then-r-eq0
returns-then-r-eq0 c =
    let t = eq-eqb _ 0 c.if-r-eq0.true in
    λ doc q at a p n s. aside_on_day doc q _ s a.on-days.judgeable t p n (c.offender_at.ensures doc q a.on-days t)

pub offender_at-requires-2 : goal.offender_at-requires-2
offender_at-requires-2 c =
    let p = c.requires in
    let t = ne_eqb _ 0 c.if-r-eq0.false in
    (p.0, t, p.1, (p.2.0, p.2.1, p.2.2.in_windows t))

pub returns : goal.returns
returns c =
    let t = ne_eqb _ 0 c.if-r-eq0.false in
    λ doc q at a p n s. aside_in_window doc q _ s t (c.offender_at-2.ensures doc q _ (a.in_windows t) (sym s.from) (sym s.to) (short-there n s))
