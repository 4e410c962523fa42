-- `changes::merging::turns_after` meets its contract: a record that is not read does not count.
use Rattle.changes.proofs.Merged.{later-unread, later-read}
use Rattle.std.proofs.Common.{ap, not}
use Rattle.changes.proofs.merging.turns_after.Goals as goal

pub returns-then-not-is_read : goal.returns-then-not-is_read
returns-then-not-is_read c = later-unread _ _ _ _ _ _ _ c.is_read.ensures (ap not c.if-not-is_read.true)

pub returns : goal.returns
returns c = later-read _ _ _ _ _ _ _ c.is_read.ensures (ap not c.if-not-is_read.false)
