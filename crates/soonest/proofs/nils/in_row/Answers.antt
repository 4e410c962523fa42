-- `soonest::nils::in_row` meets its contract.
use mathlib.Core.Path.{ap}
use mathlib.Core.Bool.{◌&&◌}
use lib.Dec.{eqb, ltb}
use lib.ListN.{length, get_or}
use Rattle.soonest.proofs.nils.in_row.Goals as goal

pub returns : goal.returns
returns c =
    let a = c.args in
    ap (λ x. eqb (get_or a.vkind.now a.f 0) 3 && ltb x (length a.vkind.now)) c.index.ensures
