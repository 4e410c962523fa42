-- `judging::judge_found` meets its contract: nothing offends before the soonest place, and the walk goes on from there.
use mathlib.Core.Path.{refl}
use Rattle.judging.proofs.Gathering.{given, traced}
use Rattle.judging.proofs.judge_found.Goals as goal

pub soonest_place-first-requires : goal.soonest_place-first-requires
soonest_place-first-requires c =
    let p = c.requires in
    let g = p.2 in
    let s = g.1 in
    (c.starts-table.ensures, p.0, (g.0, _, given _ _ _ s.known (λ e. refl) (λ e. (p.1 e).1) s.opened g.2 s.represents c.places_of-at.ensures.1))

pub stop_from-stop-requires : goal.stop_from-stop-requires
stop_from-stop-requires c =
    let p = c.requires in
    (c.starts-table.ensures, p.0, c.places_of-at.ensures.0, c.places_of-at.ensures.1, p.1, (p.2.0, p.2.1.known, p.2.1.represents))

pub tell-verdict-requires : goal.tell-verdict-requires
tell-verdict-requires c =
    let p = c.requires in
    let g = p.2 in
    let s = g.1 in
    let k = s.known in (
      p.0,
      c.places_of-at.ensures.0,
      c.places_of-at.ensures.1,
      (
        g.0,
        c.args.q,
        c.soonest_place-first.result,
        k.periods,
        k.judgeable,
        traced _ _ _ k (λ e. refl) (λ e. (p.1 e).1) s.opened g.2,
        c.stop_from-stop.ensures g.0 c.args.q k s.represents (λ e. refl),
      ),
    )

pub returns : goal.returns
returns c =
    λ doc p s x e.
    let k = s.known in
    c.tell-verdict.ensures doc p _ k.periods k.judgeable
    (traced p c.args.q _ k e (λ f. (c.requires.1 f).1) s.opened x)
    (c.soonest_place-first.ensures doc p (given p c.args.q _ k e (λ f. (c.requires.1 f).1) s.opened x s.represents c.places_of-at.ensures.1))
    (c.stop_from-stop.ensures doc p k s.represents e)
