-- `judging::walking::stop_from` meets its contract: both rules are prepared and laid out, and the first is walked.
use mathlib.Core.Path.{refl}
use Rattle.judging.proofs.Stops.{clear_none}
use Rattle.changes.proofs.Spans.{steps-few}
use Rattle.judging.proofs.Gathering.{armed}
use Rattle.judging.proofs.walking.stop_from.Goals as goal

pub returns-then-at-first : goal.returns-then-at-first
returns-then-at-first c = λ doc p k v e. clear_none doc p _ _ _ _ c.if-at-first.true

pub prepare-own-requires : goal.prepare-own-requires
prepare-own-requires c =
    let p = c.requires in
    let k = p.5.1 in
    (steps-few _ p.1, (p.5.0, k.tree, k.values_held, k.judgeable))

pub prepare_referred-held-requires : goal.prepare_referred-held-requires
prepare_referred-held-requires c =
    let p = c.requires in
    let k = p.5.1 in
    (λ e. steps-few _ (p.4 e).0, (p.5.0, k.tree, k.values_held, k.judgeable))

pub lay-laid-requires : goal.lay-laid-requires
lay-laid-requires c =
    let p = c.requires in
    (p.1, (p.5.0, p.5.1))

pub walk-requires : goal.walk-requires
walk-requires c =
    let p = c.requires in
    let doc = p.5.0 in
    let k = p.5.1 in
    let own = c.prepare-own.ensures in
    let held = c.prepare_referred-held.ensures in
    let rows = own.rows doc k.tree k.values_held in (
      p.0,
      p.1,
      p.2,
      p.3,
      (
        doc,
        _,
        armed _ _ _ k (λ e. refl) (λ e. (p.4 e).1) p.5.2 rows (own.read doc k.tree) (held.referred doc k.tree k.values_held) (held.some doc k.tree k.values_held)
            (λ s. c.lay-laid.ensures doc k s rows),
      ),
    )

pub returns : goal.returns
returns c =
    let own = c.prepare-own.ensures in
    let held = c.prepare_referred-held.ensures in
    λ doc p k v e.
    let rows = own.rows doc k.tree k.values_held in
    c.walk.ensures doc p
    (armed p c.args.q _ k e (λ f. (c.requires.4 f).1) v rows (own.read doc k.tree) (held.referred doc k.tree k.values_held) (held.some doc k.tree k.values_held)
    (λ s. c.lay-laid.ensures doc k s rows))
