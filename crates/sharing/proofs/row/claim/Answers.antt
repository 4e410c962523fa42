-- `sharing::row::claim` meets its contract: for every row that the chain holds, the answer hangs on what is left of the row at `at` or below.
use mathlib.Core.Path.{refl, sym, ◌∙◌}
use Rattle.sharing.proofs.Descent.{down_less}
use Rattle.sharing.proofs.Claiming.{value_room, claiming_start, claiming_skip, claiming_take, claiming_hit, claiming_end}
use Rattle.sharing.proofs.row.claim.Goals as goal
use Rattle.sharing.proofs.row.claim.Goals.{then-has+else-take_value, else-has}

pub loop-at-init : goal.loop-at-init
loop-at-init c =
    claiming_start _ _ _ _ _ _ _ _ c.requires.chain

pub take_value-requires : goal.take_value-requires
take_value-requires c =
    let s = c.loop-at.invariant in
    value_room _ _ _ _ _ c.requires.rooms _ s.0.0 c.loop-at-test.true s.1.size

pub returns-then-take_value : goal.returns-then-take_value
returns-then-take_value c =
    let t = c.take_value.ensures in
    λ row ch.
    rw (t.kept c.if-take_value.true)
    (claiming_hit _ _ _ _ _ _ _ _ _ _ _ c.loop-at.invariant c.loop-at-test.true _ refl (sym c.has.ensures ∙ c.if-has.true) (sym t.answers ∙ c.if-take_value.true) row ch)

pub loop-at-smaller : goal.loop-at-smaller
loop-at-smaller c =
    down_less _ _ _ c.requires.chain _ c.loop-at.invariant.0 c.loop-at-test.true _ c.index-at.ensures

pub loop-at-preserved : goal.loop-at-preserved
loop-at-preserved c =
    let p = c.requires in
    let s = c.loop-at.invariant in
    let h = c.loop-at-test.true in
    let is = c.has.ensures in
    elim c.if-has.branch [
      | then-has+else-take_value w ↦
          let t = w.take_value.ensures in
          let f = w.if-take_value.false in
          claiming_take _ _ _ _ _ _ _ _ _ _ _ s p.chain h _ c.index-at.ensures _ _ (sym is ∙ w.if-has.true) _ refl (sym t.answers ∙ f)
          (value_room _ _ _ _ _ p.rooms _ s.0.0 h s.1.size).1 (w.owner-is ∙ t.put f) w.bare-is
      | else-has w ↦ claiming_skip _ _ _ _ _ _ _ _ _ _ _ s p.chain h _ c.index-at.ensures _ _ (sym is ∙ w.if-has.false) w.owner-is w.bare-is
    ]

pub returns : goal.returns
returns c = λ row ch. claiming_end _ _ _ _ _ _ _ _ _ _ _ c.loop-at.invariant c.loop-at-test.false row ch
