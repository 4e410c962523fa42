-- `block::read_block` meets its contract: an answer for each of the three tests, and for all passed.
use Rattle.std.proofs.Common.{ap, not, rules}
use Rattle.block.proofs.Answers.{few-records, bad-check, bad-header, bad-rest, good}
use Rattle.block.proofs.read_block.Goals as goal

pub returns-then-not-check_fits : goal.returns-then-not-check_fits
returns-then-not-check_fits c = bad-check _ _ _ _ c.check_fits.ensures (ap not c.if-not-check_fits.true)

pub returns-then-not-header_fits : goal.returns-then-not-header_fits
returns-then-not-header_fits c =
    bad-header _ _ _ _ c.check_fits.ensures (ap not c.if-not-check_fits.false) c.header_fits.ensures (ap not c.if-not-header_fits.true)

pub rest_zero-requires : goal.rest_zero-requires
rest_zero-requires c =
    record { fair = search rules; whole = search rules; few = few-records _ _ _ _ c.header_fits.ensures (ap not c.if-not-header_fits.false) }

pub returns-then-not-rest_zero : goal.returns-then-not-rest_zero
returns-then-not-rest_zero c =
    bad-rest _ _ _ _ c.check_fits.ensures (ap not c.if-not-check_fits.false) c.header_fits.ensures (ap not c.if-not-header_fits.false) c.rest_zero.ensures
    (ap not c.if-not-rest_zero.true) c.records_before.ensures.0 c.two_at-count.ensures

pub returns : goal.returns
returns c =
    good _ _ _ _ c.check_fits.ensures (ap not c.if-not-check_fits.false) c.header_fits.ensures (ap not c.if-not-header_fits.false) c.rest_zero.ensures
    (ap not c.if-not-rest_zero.false)
