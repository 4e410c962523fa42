-- `document::clash::clashes_with` meets its contract, at each of its three answers.
use mathlib.Core.Path.{◌∙◌}
use Rattle.meaning.specs.Document.{version_of}
use Rattle.meaning.specs.Nodes.{share_day, overlap}
use Rattle.document.proofs.Pairs.{by_number, by_name, by-days}
use Rattle.document.proofs.clash.clashes_with.Goals as goal

pub returns-then-of-j : goal.returns-then-of-j
returns-then-of-j c = by_number _ _ _ c.requires.3 c.if-of-j.true

pub returns-then-of-j-2 : goal.returns-then-of-j-2
returns-then-of-j-2 c = by_name _ _ _ c.requires.3 c.if-of-j.false c.if-of-j-2.true

pub overlaps-requires : goal.overlaps-requires
overlaps-requires c =
    let p = c.requires in
    let q = p.0.1 in
    ((q.0, (q.1.0, (q.1.1.0, tt))), p.1, p.2, p.4)

pub returns : goal.returns
unfolding overlap version_of share_day
returns c = c.overlaps.ensures ∙ by-days _ _ _ c.requires.3 c.if-of-j.false c.if-of-j-2.false
