-- The levels fall from one item to the next; along the items in a version goes a walk that has come to `past_j`.
use Rattle.std.proofs.Common.{◌≡◌, ◌+◌, ◌*◌, ◌≤◌, length}
use Rattle.meaning.specs.Block.{limit}
use Rattle.meaning.specs.Document.{Doc}
use Rattle.descent.specs.Links.{Links}
use Rattle.descent.proofs.Looking.{Walked}
use Rattle.descent.proofs.+look_item_look_version.Given as goal

abbrev pub decreases-look_item : goal.decreases-look_item
decreases-look_item l = 2 * l.levels

abbrev pub decreases-look_version : goal.decreases-look_version
decreases-look_version l = 2 * l.levels + 1

abbrev pub invariant-look_version-loop-past_j : goal.invariant-look_version-loop-past_j
invariant-look_version-loop-past_j l =
    (l.past_j ≤ limit)
    × (length l.seen ≡ length l.initial.seen)
    × ((doc : Doc) → Links doc l.chains → Walked doc l.d l.levels l.v l.initial.seen l.seen l.past_j)

abbrev pub decreases-look_version-loop-past_j : goal.decreases-look_version-loop-past_j
decreases-look_version-loop-past_j l = l.past_j
