-- `twins::names::classes` meets its contract: below i the items of one number have one class and one name, and no two share one unless `shared` says so.
use Rattle.meaning.proofs.Says.{says}
use Rattle.twins.proofs.Classing.{classed_skip, classed_store, alone-skip, alone-store}
use Rattle.twins.proofs.names.classes.Goals as goal
use Rattle.twins.proofs.names.classes.Goals.{then-records-i-eq1+else-records-j, else-records-i-eq1}

pub loop-i-preserved : goal.loop-i-preserved
loop-i-preserved c =
    let s = c.loop-i.invariant in
    let h = c.loop-i-test.true in
    elim c.if-records-i-eq1.branch [
      | then-records-i-eq1+else-records-j w ↦
          rw (w.class-is, w.shared-is) (
            classed_store _ _ _ _ _ s.0 h w.if-records-i-eq1.true _ w.namesake-j.ensures w.if-records-j.false,
            λ e. let z = simp says at e in alone-store _ _ _ (s.1 z.0) _ w.namesake-j.ensures z.1,
          )
      | else-records-i-eq1 w ↦
          rw (w.class-is, w.shared-is) (
            classed_skip _ _ _ _ _ s.0 h w.if-records-i-eq1.false,
            λ e. alone-skip _ _ _ (s.1 e) w.if-records-i-eq1.false,
          )
    ]
