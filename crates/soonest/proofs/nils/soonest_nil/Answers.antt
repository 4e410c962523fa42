-- `soonest::nils::soonest_nil` meets its contract: none of the first i versions is a nil in a row with a place.
use native.Mathlib.Omega.{arith}
use Rattle.soonest.proofs.Spoiling.{Entered, unspoilt_else, nil_kind, nil_here, passed_none, passed-other, passed-unplaced, passed-placed, passed-all}
use Rattle.std.proofs.Common.{ap, not}
use Rattle.soonest.proofs.nils.soonest_nil.Goals as goal
use Rattle.soonest.proofs.nils.soonest_nil.Goals.{After-index-f, then-in_row+else-lo-high, else-in_row}

-- the version that is looked at has an entry in each column
fits : (c : After-index-f) → let a = c.args in Entered a.records.vkind.now a.row.now a.records.begin.now a.records.end.now c.index-f.result
fits c = let p = c.requires.1 in nil_here p.0 _ _ _ _ _ _ _ p.1 _ _ c.index-f.ensures (omega arith)

pub returns-then-not-rule : goal.returns-then-not-rule
returns-then-not-rule c = λ doc s. unspoilt_else doc _ _ _ c.if-not-rule.true

pub loop-number-init : goal.loop-number-init
loop-number-init c = λ doc r s. passed_none doc r _ _ _ _ _ _ s

pub in_row-requires : goal.in_row-requires
in_row-requires c = let h = fits (goal.at.in_row-requires c).After-index-f in (h.kind, h.row)

pub offset_bounds-records-f : goal.offset_bounds-records-f
offset_bounds-records-f c = let h = fits (goal.at.offset_bounds-records-f c).After-index-f in omega (arith, h.begin)

pub bounds-records-f : goal.bounds-records-f
bounds-records-f c = let h = fits (goal.at.bounds-records-f c).After-index-f in omega (arith, h.begin)

pub low-lo-requires : goal.low-lo-requires
low-lo-requires c = let p = c.requires in (p.0, p.1.1.counted)

pub offset_bounds-records-f-then-in_row : goal.offset_bounds-records-f-then-in_row
offset_bounds-records-f-then-in_row c = let h = fits (goal.at.offset_bounds-records-f-then-in_row c).After-index-f in omega (arith, h.end)

pub bounds-records-f-then-in_row : goal.bounds-records-f-then-in_row
bounds-records-f-then-in_row c = let h = fits (goal.at.bounds-records-f-then-in_row c).After-index-f in omega (arith, h.end)

pub high-requires : goal.high-requires
high-requires c = let p = c.requires in (p.0, p.1.1.counted)

pub returns-then-lo-high : goal.returns-then-lo-high
returns-then-lo-high c =
    λ doc s.
    passed-placed doc _ _ _ _ _ _ _ s _ _ (c.loop-number.invariant doc _ s) c.index-f.ensures _ _ c.low-lo.ensures c.high.ensures (nil_kind _ (ap not c.if-not-rule.false)) (omega arith)

pub loop-number-preserved : goal.loop-number-preserved
loop-number-preserved c =
    λ doc r s.
    let p = c.loop-number.invariant doc r s in
    elim c.if-in_row.branch [
      | then-in_row+else-lo-high w ↦ passed-unplaced doc r _ _ _ _ _ _ s _ _ p c.index-f.ensures _ _ w.low-lo.ensures w.high.ensures (λ l. omega (arith, w.if-lo-high.false))
      | else-in_row w ↦ passed-other doc r _ _ _ _ _ _ s _ _ p c.index-f.ensures c.in_row.ensures w.if-in_row.false
    ]

pub returns : goal.returns
returns c =
    λ doc s. passed-all doc _ _ _ _ _ _ _ s _ (c.loop-number.invariant doc _ s) (omega arith) _ (nil_kind _ (ap not c.if-not-rule.false))
