-- What a sweep goes along: an order of some of n records that rises by their first places, and both ends of their places; and records with keys in two orders.
use Rattle.std.specs.Prelude.{List, ℕ, ◌≤◌, ◌<◌, length}
use Rattle.meaning.specs.Block.{limit}
use Rattle.passes.specs.Passes.{at, Rising}
use Rattle.crowds.specs.Crowds.{Ordered}
use Rattle.parts.specs.declared.Line.{Line}
use Rattle.parts.specs.declared.Counted.{Counted}

-- an order of some of n records that rises by lo, and both ends of their places
pub record Ground (order lo hi : List ℕ) (n : ℕ) : Type 0 where
  pub covered : (j : ℕ) → j < length order → at order j < n
  pub rising : Rising order lo
  pub lo_room : n ≤ length lo
  pub hi_room : n ≤ length hi

-- n records, and those with a key in two orders, by their first places and by their ends
pub record Crowding (order closes keys lo hi : List ℕ) (n : ℕ) : Type 0 where
  pub few : n ≤ limit
  pub ground : Ground order lo hi n
  pub in_keys : n ≤ length keys
  pub by_begin : Ordered order lo keys n
  pub by_end : Ordered closes hi keys n

-- the same of a line, and of what is counted along one
abbrev pub GroundOf : Line → Type 0
GroundOf l = Ground l.order.now l.lo.now l.hi.now l.n

abbrev pub CrowdingOf : Counted → Type 0
CrowdingOf c = Crowding c.line.order.now c.closes.now c.key.now c.line.lo.now c.line.hi.now c.line.n
