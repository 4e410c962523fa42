-- `pieces::apart::gap_apart` meets its contract: each turn takes a demand, or a supply that begins no later than the next demand.
use Prim.Native.Nat.{◌+◌, ◌≤◌, ◌-◌}
use mathlib.Core.Path.{◌≡◌}
use lib.ListN.{length}
use Rattle.pieces.proofs.Merging.{Free, Met}
use Rattle.pieces.proofs.apart.gap_apart.Given as goal

abbrev pub invariant-loop-i : goal.invariant-loop-i
invariant-loop-i l = (l.i ≤ length l.demands.order.now) × (l.j ≤ length l.supplies.order.now) × (length l.reach ≡ length l.initial.reach) × (length l.need ≡ length l.initial.need) ×
    Met l.demands.order.now l.demands.spans.lo.now l.demands.spans.key.now l.demands.spans.hi.now (Free l.supplies.order.now l.supplies.spans.lo.now l.supplies.spans.key.now l.supplies.spans.hi.now) l.room l.i l.d l.reach l.need

abbrev pub decreases-loop-i : goal.decreases-loop-i
decreases-loop-i l = (length l.demands.order.now - l.i) + (length l.supplies.order.now - l.j)
