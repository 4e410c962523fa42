-- `prepare::prepare` meets its contract: each part is what the rows and the marks are made of.
use mathlib.Core.Path.{sym}
use native.Mathlib.Omega.{arith}
use Rattle.prepare.proofs.Keying.{rows_of}
use Rattle.prepare.proofs.prepare.Goals as goal

pub way_along-way-requires : goal.way_along-way-requires
way_along-way-requires c =
    let g = c.requires.1 in
    (omega (arith, g.1.kind.size, g.3.few), omega (arith, g.1.kind.size, (c.mark_selected-chosen.ensures g.0 g.1).room))

pub returns : goal.returns
returns c =
    record {
      rows = λ doc t v.
          let m = c.mark_selected-chosen.ensures doc t in
          rows_of doc _ _ _ _ _ _ _ (sym t.kind.size) m c.way_along-way.ensures (c.link-links.ensures doc v m (c.holders-holder.ensures doc t));
      read = λ doc t. c.mark_by-read.ensures doc _ (sym t.kind.size) (c.mark_selected-chosen.ensures doc t) (c.holders-holder.ensures doc t);
    }
