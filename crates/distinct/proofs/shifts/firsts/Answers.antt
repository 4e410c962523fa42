-- `distinct::shifts::firsts` meets its contract: each turn gives the next record of the order its place.
use mathlib.Core.Path.{refl}
use native.Mathlib.Omega.{arith}
use borrow.Author.Rules.{rules}
use Rattle.distinct.proofs.Shifting.{run_none, still_none, run_more, still_more, run-all, still_all}
use Rattle.distinct.proofs.shifts.firsts.Goals as goal

pub loop-number-init : goal.loop-number-init
loop-number-init c = (refl, refl, run_none _ _ _ _ _ _ _ refl (omega arith), λ e. still_none _ _ _ _ _ _)

pub place-moved-requires : goal.place-moved-requires
place-moved-requires c =
    let p = c.requires in
    (record { in_pairs = omega arith; in_lo = omega arith; in_hi = omega arith; in_first = omega arith; in_top = omega arith }, rw c.index-x.ensures (p.1.covered _ (omega arith)))

pub loop-number-preserved : goal.loop-number-preserved
loop-number-preserved c =
    let s = c.loop-number.invariant in
    let p = c.requires in
    let d = c.place-moved.ensures in (
      search rules,
      search rules,
      run_more _ _ _ _ _ p.1 _ _ _ s.2 (omega arith) _ c.index-x.ensures _ _ _ d,
      still_more _ _ _ _ _ p.1 _ _ _ s.2 (omega arith) _ c.index-x.ensures _ _ _ d _ s.3,
    )

pub returns : goal.returns
returns c =
    let s = c.loop-number.invariant in
    let o = c.requires.1 in
    (run-all _ _ _ _ _ o _ _ _ s.2 (omega arith) (omega arith), λ e. still_all _ _ _ _ _ o _ _ _ s.2 (omega arith) (s.3 e))
