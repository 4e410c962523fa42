-- `sharing::shared_in` meets its contract: fresh entries have no holder.
use Rattle.sharing.proofs.Meeting.{unowned}
use Rattle.sharing.proofs.shared_in.Goals as goal

pub first_shared-requires : goal.first_shared-requires
first_shared-requires c =
    let p = c.requires in
    (p.0, p.1, p.2, p.3, p.4, unowned p.4)

pub returns : goal.returns
returns c = c.first_shared.ensures
