-- `document::front::accept_lent` meets its contract: 1 by the count, 12 by the columns' lengths, then the answer on the document of the first records.
use Rattle.document.specs.Front.{held}
use Rattle.document.proofs.Lending.{lent-uncountable, lent-short, lent-front, lent-tested}
use Rattle.std.proofs.Common.{ap, not}
use Rattle.document.proofs.front.accept_lent.Goals as goal

pub returns-then-not-is_count : goal.returns-then-not-is_count
returns-then-not-is_count c =
    lent-uncountable c.args.n (held c.args.records) c.is_count.ensures (ap not c.if-not-is_count.true)

pub returns-then-not-has_room : goal.returns-then-not-has_room
returns-then-not-has_room c =
    lent-short c.args.n (held c.args.records) c.is_count.ensures (ap not c.if-not-is_count.false) c.has_room.ensures (ap not c.if-not-has_room.true)

pub accept_front-requires : goal.accept_front-requires
accept_front-requires c =
    lent-front c.args.n (held c.args.records) c.is_count.ensures (ap not c.if-not-is_count.false) c.has_room.ensures (ap not c.if-not-has_room.false)

pub returns : goal.returns
returns c =
    lent-tested c.args.n (held c.args.records) c.is_count.ensures (ap not c.if-not-is_count.false) c.has_room.ensures (ap not c.if-not-has_room.false) c.accept_front.ensures
