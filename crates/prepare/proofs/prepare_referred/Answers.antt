-- `prepare::prepare_referred` meets its contract: nothing is asked of a rule that is no reference.
use borrow.Author.Tests.{eqb-true, eq-eqb}
use Rattle.prepare.proofs.prepare_referred.Goals as goal

pub returns-then-r-ne3 : goal.returns-then-r-ne3
returns-then-r-ne3 c = record {
  referred = λ doc t w k. absurd (c.if-r-ne3.true (eqb-true _ 3 k));
  some = λ doc t w s. (_, s);
}

pub prepare-requires : goal.prepare-requires
prepare-requires c =
    let p = c.requires in
    (p.0 (eq-eqb _ 3 c.if-r-ne3.false), p.1)

pub returns : goal.returns
returns c =
    let g = c.prepare.ensures in
    record {
      referred = λ doc t w k. record { rows = g.rows doc t w; read = g.read doc t };
      some = λ doc t w s. (_, record { rows = g.rows doc t w; read = g.read doc t });
    }
