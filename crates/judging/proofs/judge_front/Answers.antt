-- `judging::judge_front` meets its contract: the first n entries of the columns are a document that can be judged, and the survey is its.
use Rattle.judging.proofs.Gathering.{known, opened}
use Rattle.judging.proofs.judge_front.Goals as goal

pub judge_columns-requires : goal.judge_columns-requires
judge_columns-requires c =
    let p = c.requires in
    let f = p.2.0 in
    let s = p.2.1 in
    (p.0, p.1, (f.doc, record { known = known f.whole s; represents = s.represents; opened = opened f.whole s }))

pub returns : goal.returns
returns c = λ doc p w s e. c.judge_columns.ensures doc p (record { known = known w s; represents = s.represents; opened = opened w s }) e
