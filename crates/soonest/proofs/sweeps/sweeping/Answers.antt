-- `soonest::sweeps::sweeping` meets its contract: either room is enough.
use native.Mathlib.Omega.{arith}
use borrow.Author.Rules.{rules}
use Rattle.soonest.proofs.Lining.{columns-fit}
use Rattle.soonest.proofs.sweeps.sweeping.Goals as goal

pub sweeping_in-requires : goal.sweeping_in-requires
sweeping_in-requires c = let p = c.requires in ((omega arith, search rules), p.0, p.1, p.2)

pub sweeping_in-requires-2 : goal.sweeping_in-requires-2
sweeping_in-requires-2 c = let p = c.requires in (((columns-fit p.2.4).0, search rules), p.0, p.1, p.2)
