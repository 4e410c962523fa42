-- `changes::merging::is_read` meets its contract: by its own mark, or by the other one for a reference.
use Rattle.changes.proofs.Merged.{read-own, read_none, read-other}
use Rattle.std.proofs.Common.{ap, not}
use Rattle.changes.proofs.merging.is_read.Goals as goal

pub returns-then-read-x-eq1 : goal.returns-then-read-x-eq1
returns-then-read-x-eq1 c = read-own _ _ _ _ c.if-read-x-eq1.true

pub returns-then-not-read : goal.returns-then-not-read
returns-then-not-read c = read_none _ _ _ _ c.if-read-x-eq1.false (ap not c.if-not-read.true)

pub returns : goal.returns
returns c = read-other _ _ _ _ c.if-read-x-eq1.false (ap not c.if-not-read.false)
