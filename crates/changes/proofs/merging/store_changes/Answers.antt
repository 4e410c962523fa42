-- `changes::merging::store_changes` meets its contract: it counts first, and stores where there is room.
use mathlib.Core.Path.{refl}
use Rattle.marks.proofs.Storing.{too_short, long_enough_lem}
use Rattle.changes.proofs.merging.store_changes.Goals as goal

pub returns-then-out-n : goal.returns-then-out-n
returns-then-out-n c = record {
  answer = λ doc q r m e. too_short _ _ _ (c.count_changes-n.ensures doc q r m e) c.if-out-n.true;
  lent = λ doc q r m e. refl;
}

pub returns : goal.returns
returns c =
    let n = c.count_changes-n in record {
      answer = λ doc q r m e. long_enough_lem _ _ _ (n.ensures doc q r m e) c.if-out-n.false;
      lent = λ doc q r m e. let all = n.ensures doc q r m e in rw all (c.list_changes.ensures doc q r m e all);
    }
