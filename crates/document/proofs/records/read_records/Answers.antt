-- `document::records::read_records` meets its contract. The invariant: every record below i was accepted, and `deep` holds their depths.
-- Assumes nothing.
use mathlib.Core.Path.{refl, sym, ◌∙◌}
use native.Mathlib.Omega.{arith}
use lib.ListN.{length-set}
use Rattle.document.proofs.Rows.{fits-same}
use Rattle.document.proofs.Seen.{seen_start, seen_end, seen-refused, seen-node, seen-6, seen-8, seen-on, depth-room}
use Rattle.document.proofs.records.read_records.Goals as goal

pub loop-i-init : goal.loop-i-init
loop-i-init c = (refl, c.requires.few, seen_start _ _)

pub returns-in-Err : goal.returns-in-Err
returns-in-Err c =
    seen-refused _ _ _ c.loop-i.invariant.2 c.loop-i-test.true _ _ c.gather-node.ensures c.decode.ensures _ c.in-Err.is

pub parent_fits-requires : goal.parent_fits-requires
parent_fits-requires c =
    (c.loop-i-test.true, c.requires.parent)

pub returns-then-not-parent_fits : goal.returns-then-not-parent_fits
returns-then-not-parent_fits c =
    seen-6 _ _ _ c.loop-i.invariant.2 c.loop-i-test.true _ _ c.gather-node.ensures c.decode.ensures _ c.in-Ok.is
    (fits-same _ _ _ refl refl ∙ sym c.parent_fits.ensures ∙ c.if-not-parent_fits.true)

pub slice_bounds-depth_at-end : goal.slice_bounds-depth_at-end
slice_bounds-depth_at-end c = sym c.loop-i.invariant.0

pub depth_at-x-requires : goal.depth_at-x-requires
depth_at-x-requires c =
    let is = seen-node _ _ _ c.loop-i.invariant.2 c.loop-i-test.true _ _ c.gather-node.ensures c.decode.ensures _ c.in-Ok.is in
    depth-room _ _ _ c.loop-i.invariant.2 _ is
    (fits-same _ _ _ refl refl ∙ sym c.parent_fits.ensures ∙ c.if-not-parent_fits.false) (omega arith)

pub returns-then-x-gt-DEEPEST : goal.returns-then-x-gt-DEEPEST
returns-then-x-gt-DEEPEST c =
    seen-8 _ _ _ c.loop-i.invariant.2 c.loop-i-test.true _ _ c.gather-node.ensures c.decode.ensures _ c.in-Ok.is
    (fits-same _ _ _ refl refl ∙ sym c.parent_fits.ensures ∙ c.if-not-parent_fits.false)
    _ c.depth_at-x.ensures (omega (arith, c.if-x-gt-DEEPEST.true))

pub loop-i-preserved : goal.loop-i-preserved
loop-i-preserved c =
    let inv = c.loop-i.invariant in (
      simp length-set inv.0,
      simp length-set inv.1,
      seen-on _ _ _ inv.2 c.loop-i-test.true _ _ c.gather-node.ensures c.decode.ensures _ c.in-Ok.is
          (fits-same _ _ _ refl refl ∙ sym c.parent_fits.ensures ∙ c.if-not-parent_fits.false)
          _ c.depth_at-x.ensures (omega (arith, c.if-x-gt-DEEPEST.false)) (omega arith),
    )

pub returns : goal.returns
returns c = seen_end _ _ _ c.loop-i.invariant.2 c.loop-i-test.false
