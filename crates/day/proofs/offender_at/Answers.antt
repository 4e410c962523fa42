-- `day::offender_at` meets its contract: who offends among the versions alive offends on the day.
use Rattle.day.proofs.Settling.{ready, referred, begun, present-aside}
use Rattle.day.proofs.offender_at.Goals as goal

pub look-requires : goal.look-requires
look-requires c =
    let p = c.requires.1 in
    let s = p.2 in
    (p.0, _, s.other, ready c.from.ensures s.rowed s.periods s.represents, ready c.from-2.ensures s.other_rowed s.periods s.represents, s.judgeable.few)

pub returns : goal.returns
returns c =
    λ doc q s k.
    present-aside s c.args.here.from (c.look.ensures doc q _ (record {
      ready = ready c.from.ensures s.rowed s.periods s.represents;
      referred = referred s c.from-2.ensures;
      sequenced = k;
      terms = c.terms-bounds.ensures;
      on_day = begun s _ _ c.saturating_add.ensures;
    }))
