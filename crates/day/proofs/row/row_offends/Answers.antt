-- `day::row::row_offends` meets its contract: the version is not present, or the walk down its row gave the number.
use mathlib.Core.Path.{sym, ◌∙◌}
use native.Mathlib.Omega.{arith}
use Rattle.day.proofs.Tallying.{chain-from, tallied_low}
use Rattle.day.proofs.Meeting.{met_absent}
use borrow.Author.Rules.{rules}
use Rattle.day.proofs.row.row_offends.Goals as goal

pub returns-then-not-has : goal.returns-then-not-has
returns-then-not-has c = λ row ch. met_absent _ _ _ _ _ _ row _ _ (sym c.has.ensures ∙ c.if-not-has.true)

pub tally_row-tally-requires : goal.tally_row-tally-requires
tally_row-tally-requires c =
    let p = c.requires in
    record {
      rooms = search rules;
      chain = (p.chain.0, chain-from _ _ _ _ _ c.index.ensures p.chain.1);
    }

pub count_offends-requires : goal.count_offends-requires
count_offends-requires c =
    let p = c.requires in
    let found = c.tally_row-tally.ensures p.chain.0 (chain-from _ _ _ _ _ c.index.ensures p.chain.1) in
    λ one. omega (arith, tallied_low _ _ _ _ _ _ found one p.rooms.1.rep_low, p.rooms.1.mark_room)

pub returns : goal.returns
returns c =
    let here = sym c.has.ensures ∙ c.if-not-has.false in
    λ row ch. c.count_offends.ensures _ _ _ row _ here (c.tally_row-tally.ensures row (chain-from _ _ _ _ _ c.index.ensures ch))
