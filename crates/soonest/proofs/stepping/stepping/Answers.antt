-- `soonest::stepping::stepping` meets its contract: either room is enough.
use native.Mathlib.Omega.{arith}
use borrow.Author.Rules.{rules}
use Rattle.soonest.proofs.Lining.{columns-fit}
use Rattle.soonest.proofs.stepping.stepping.Goals as goal

pub stepping_in-requires : goal.stepping_in-requires
stepping_in-requires c = let p = c.requires in ((omega arith, search rules), p.0, p.1, p.2, p.3, p.4)

pub stepping_in-requires-2 : goal.stepping_in-requires-2
stepping_in-requires-2 c = let p = c.requires in (((columns-fit p.4.3).0, search rules), p.0, p.1, p.2, p.3, p.4)
