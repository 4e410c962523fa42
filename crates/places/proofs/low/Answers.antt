-- `places::low` meets its contract: all places from the close on, before it those that end by their length.
use native.Mathlib.Omega.{arith}
use Rattle.places.proofs.Bounds.{low-closed, low-open}
use Rattle.places.proofs.low.Goals as goal

pub returns-then-at-day : goal.returns-then-at-day
returns-then-at-day c = low-closed _ c.requires.1 _ (omega arith)

pub returns : goal.returns
returns c = low-open _ c.requires.1 _ _ (omega arith) c.starting.ensures
