-- `distinct::shifts::place` meets its contract: the record has no class, or counts after those of its class.
use native.Mathlib.Omega.{arith}
use Rattle.distinct.proofs.Shifting.{placed-alone, placed-after}
use Rattle.distinct.proofs.shifts.place.Goals as goal

pub returns-then-n-c : goal.returns-then-n-c
returns-then-n-c c = placed-alone _ _ _ _ _ _ _ (omega arith) _ c.index-c.ensures (omega arith)

pub returns : goal.returns
returns c =
    placed-after _ _ _ _ _ _ _ (omega arith) _ _ _ c.index-c.ensures (omega arith) (omega arith) c.max.ensures c.max-2.ensures
