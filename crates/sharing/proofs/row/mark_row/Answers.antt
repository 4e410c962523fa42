-- `sharing::row::mark_row` meets its contract: the version is not present, or the values of its row were marked.
use mathlib.Core.Path.{sym, ◌∙◌}
use Rattle.day.proofs.Tallying.{chain-from}
use Rattle.sharing.proofs.Meeting.{room_of, marked-absent, marked-present}
use Rattle.sharing.proofs.row.mark_row.Goals as goal

pub lay-requires : goal.lay-requires
lay-requires c =
    let p = c.requires in
    record {
      rooms = room_of _ _ _ _ _ _ p.rooms.1 _ p.rooms.1.mark_room;
      chain = (p.chain.0, chain-from _ _ _ _ _ c.index.ensures p.chain.1);
    }

pub returns-then-has : goal.returns-then-has
returns-then-has c =
    let here = sym c.has.ensures ∙ c.if-has.true in
    λ row ch. marked-present _ _ _ row _ _ here _ (c.lay.ensures row (chain-from _ _ _ _ _ c.index.ensures ch))

pub returns-else-has : goal.returns-else-has
returns-else-has c = λ row ch. marked-absent _ _ _ row _ _ (sym c.has.ensures ∙ c.if-has.false)
