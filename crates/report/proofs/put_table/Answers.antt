-- `report::put_table` meets its contract: the header, then the lines of what was opened, with its survey.
use Rattle.columns.proofs.Fronted.{whole_front}
use Rattle.nodes.proofs.Held.{held-image}
use Rattle.opening.proofs.Opens.{alone, open_fronts}
use Rattle.bank.proofs.Opens.{opened}
use Rattle.spelling.proofs.Pieces.{puts_as, puts_then}
use Rattle.report.proofs.Texts.{accepted-images}
use Rattle.report.proofs.put_table.Goals as goal

pub front-requires : goal.front-requires
front-requires c = let p = c.requires in (held-image p.0.0 p.0.1.columns.answer (alone _ p.0.1 p.1)).few

pub survey_columns-found-requires : goal.survey_columns-found-requires
survey_columns-found-requires c =
    let p = c.requires in
    let f = open_fronts _ p.0.1 p.1 in
    let w = whole_front c.front.ensures f.whole in
    (f.doc, w.values_held, w.periods, w.numbers, w.judgeable)

pub put_rules-requires : goal.put_rules-requires
put_rules-requires c =
    let p = c.requires in
    (p.0.0, opened _ p.0.1 p.1 c.front.ensures c.all.ensures c.survey_columns-found.ensures)

pub returns : goal.returns
returns c nodes o =
    let loaded = c.requires.1 in
    let lines = c.put_rules.ensures nodes (opened _ o loaded c.front.ensures c.all.ensures c.survey_columns-found.ensures) in
    puts_as (puts_then c.put_header-at.ensures lines) (accepted-images nodes _ o loaded)
