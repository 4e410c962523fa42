-- `day::row::count_offends` meets its contract: the number settles it, or the only value does, which is looked up or marked.
use Rattle.std.proofs.Common.{◌≡◌, true, eqb}
use native.Mathlib.Omega.{arith}
use Rattle.meaning.proofs.Says.{says}
use Rattle.day.specs.Row.{outside}
use Rattle.day.specs.Ready.{counted}
use Rattle.day.proofs.Meeting.{settled, met_settled, met_referring, met_distinct}
use Rattle.day.proofs.row.count_offends.Goals as goal

pub returns-then-out-bounds : goal.returns-then-out-bounds
returns-then-out-bounds c =
    let a = c.args in
    let here-settled : settled (outside a.bounds.low a.bounds.high a.tally.count) (eqb a.bounds.mode counted) (eqb a.tally.count 1) ≡ true = c.if-out-bounds.true in
    λ p n rep row v here found. met_settled p n rep _ _ _ row v _ here _ _ found here-settled

pub bounds-seen-x : goal.bounds-seen-x
bounds-seen-x c = omega (arith, c.requires (simp says at c.if-out-bounds.false).1)

pub returns-then-bounds-eq-REFERRING : goal.returns-then-bounds-eq-REFERRING
returns-then-bounds-eq-REFERRING c = λ p n rep row v here found. met_referring p n rep _ _ _ row v _ here _ _ found c.if-out-bounds.false c.if-bounds-eq-REFERRING.true

pub bounds-seen-x-2 : goal.bounds-seen-x-2
bounds-seen-x-2 c = omega (arith, c.requires (simp says at c.if-out-bounds.false).1)

pub returns : goal.returns
returns c =
    let low = c.requires (simp says at c.if-out-bounds.false).1 in
    λ p n rep row v here found. met_distinct p n rep _ _ _ row v _ here _ _ found c.if-out-bounds.false c.if-bounds-eq-REFERRING.false low
