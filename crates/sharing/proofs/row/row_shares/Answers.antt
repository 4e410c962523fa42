-- `sharing::row::row_shares` meets its contract: the version is not present, or the walk down its row gave the answer.
use mathlib.Core.Path.{sym, ◌∙◌}
use Rattle.day.proofs.Tallying.{chain-from}
use Rattle.sharing.proofs.Meeting.{room_of, met_absent, met_claimed}
use Rattle.sharing.proofs.row.row_shares.Goals as goal

pub returns-then-not-has : goal.returns-then-not-has
returns-then-not-has c = λ row ch. met_absent _ _ _ row _ _ _ _ (sym c.has.ensures ∙ c.if-not-has.true)

pub claim-requires : goal.claim-requires
claim-requires c =
    let p = c.requires in
    record {
      rooms = room_of _ _ _ _ _ _ p.rooms.1 _ p.rooms.1.mark_room;
      chain = (p.chain.0, chain-from _ _ _ _ _ c.index.ensures p.chain.1);
    }

pub returns : goal.returns
returns c =
    let here = sym c.has.ensures ∙ c.if-not-has.false in
    λ row ch. met_claimed _ _ _ row _ _ _ _ here _ _ (c.claim.ensures row (chain-from _ _ _ _ _ c.index.ensures ch))
