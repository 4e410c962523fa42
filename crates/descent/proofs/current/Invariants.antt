-- `descent::current` meets its contract: what is left is to find the current version below `past`.
use Prim.Native.Nat.{◌≤◌}
use lib.ListN.{length}
use Rattle.meaning.specs.Document.{Doc}
use Rattle.descent.specs.Links.{Links}
use Rattle.descent.proofs.Seeking.{Sought}
use Rattle.descent.proofs.current.Given as goal

abbrev pub invariant-loop-past : goal.invariant-loop-past
invariant-loop-past l = (l.past ≤ length l.chains.begin.now) × ((doc : Doc) → Links doc l.chains → Sought doc l.d l.i l.past)

abbrev pub decreases-loop-past : goal.decreases-loop-past
decreases-loop-past l = l.past
