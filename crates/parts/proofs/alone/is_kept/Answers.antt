-- `parts::alone::is_kept` is safe.
use native.Mathlib.Omega.{arith}
use Rattle.passes.proofs.Cases.{fits}
use Rattle.parts.proofs.alone.is_kept.Goals as goal

pub bounds-from-index : goal.bounds-from-index
bounds-from-index c = omega (arith, fits c.requires _ (omega arith) c.index.ensures)
