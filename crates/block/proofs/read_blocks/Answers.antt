-- `block::read_blocks` meets its contract. The invariant: from block b on, the blocks that are left give the answer on the image.
use Rattle.std.proofs.Common.{◌≡◌, ap, not, ◌∙◌, arith, length-drop, length-take, rules}
use Rattle.block.proofs.Answers.{bad-size, good_size, whole-blocks, last_passed, passed, refused}
use Rattle.block.proofs.read_blocks.Goals as goal

pub returns-then-not-size_fits : goal.returns-then-not-size_fits
returns-then-not-size_fits c = bad-size _ _ c.size_fits.ensures (ap not c.if-not-size_fits.true)

pub loop-b-init : goal.loop-b-init
loop-b-init c =
    let w = whole-blocks _ _ c.size_fits.ensures (ap not c.if-not-size_fits.false) in
    (omega arith, w.0, good_size _ _ c.size_fits.ensures (ap not c.if-not-size_fits.false))

pub read_block-requires : goal.read_block-requires
read_block-requires c = record { fair = search rules; whole = simp (length-take, length-drop) (omega arith); near = omega arith }

pub returns-in_err-read_block : goal.returns-in_err-read_block
returns-in_err-read_block c =
    let image = c.args.image.now in
    let same : c.from_residual.result ≡ c.read_block.result = search (rules, c.from_residual.ensures, c.in_err-read_block.was) in
    same ∙ refused _ image c.loop-b.b c.loop-b-test.true c.read_block.ensures c.in_err-read_block.was ∙ c.loop-b.invariant.2

pub loop-b-preserved : goal.loop-b-preserved
loop-b-preserved c =
    let image = c.args.image.now in
    let next = passed _ image c.loop-b.b c.loop-b-test.true c.read_block.ensures c.in_ok-read_block.was in
    (omega arith, omega arith, next ∙ c.loop-b.invariant.2)

pub returns : goal.returns
returns c =
    last_passed _ c.args.image.now c.loop-b.b c.loop-b-test.false ∙ c.loop-b.invariant.2
