-- `marks::store_marked` meets its contract: it counts first, and stores where there is room.
use mathlib.Core.Path.{refl}
use Rattle.marks.proofs.Storing.{too_short, long_enough_lem}
use Rattle.marks.proofs.store_marked.Goals as goal

pub returns-then-out-n : goal.returns-then-out-n
returns-then-out-n c = record {
  answer = too_short _ _ _ c.count_marked-n.ensures c.if-out-n.true;
  lent = refl;
}

pub returns : goal.returns
returns c =
    let n = c.count_marked-n in
    record {
      answer = long_enough_lem _ _ _ n.ensures c.if-out-n.false;
      lent = rw n.ensures c.list_marked.ensures;
    }
