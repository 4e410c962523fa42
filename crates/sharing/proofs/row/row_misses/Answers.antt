-- `sharing::row::row_misses` meets its contract: the version is not present, or its row was searched.
use mathlib.Core.Path.{sym, ◌∙◌}
use Rattle.day.proofs.Tallying.{chain-from}
use Rattle.sharing.proofs.Meeting.{room_of, absent_test, present-test}
use Rattle.sharing.proofs.row.row_misses.Goals as goal

pub returns-then-not-has : goal.returns-then-not-has
returns-then-not-has c = λ row ch. absent_test _ _ (sym c.has.ensures ∙ c.if-not-has.true)

pub has_unmarked-requires : goal.has_unmarked-requires
has_unmarked-requires c =
    let p = c.requires in
    record {
      rooms = room_of _ _ _ _ _ _ p.rooms.1 _ p.rooms.1.mark_room;
      chain = (p.chain.0, chain-from _ _ _ _ _ c.index.ensures p.chain.1);
    }

pub returns : goal.returns
returns c =
    let here = sym c.has.ensures ∙ c.if-not-has.false in
    λ row ch. present-test _ _ _ here (c.has_unmarked.ensures row (chain-from _ _ _ _ _ c.index.ensures ch))
