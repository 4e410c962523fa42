-- `judging::count_to` meets its contract: both orders can be walked along, and the count is that of the change days; or it is that of the windows.
use mathlib.Core.Path.{refl}
use borrow.Author.Tests.{eq-eqb, ne_eqb}
use Rattle.changes.proofs.Merged.{walkable}
use Rattle.judging.proofs.Counting.{counts-days, counts-windows}
use Rattle.judging.proofs.count_to.Goals as goal

pub count_changes-requires : goal.count_changes-requires
count_changes-requires c =
    let p = c.requires in
    let w = p.2.2 in
    let t = p.2.3 in (
      (walkable t.by_begin w.begin t.own_read.room t.held_room, walkable t.by_end w.end t.own_read.room t.held_room),
      p.0 (eq-eqb _ 0 c.if-r-eq0.true),
    )

pub returns-then-r-eq0 : goal.returns-then-r-eq0
returns-then-r-eq0 c =
    let mode = c.if-r-eq0.true in
    λ doc q w t.
    counts-days doc q _ _ _ (eq-eqb _ 0 mode) (c.count_changes.ensures doc q _
    (record { periods = w; by_begin = t.by_begin; by_end = t.by_end; own_read = t.own_read; refers = refl; referred_read = t.held_read }) refl)

pub returns : goal.returns
returns c = λ doc q w t. counts-windows doc q _ _ _ (ne_eqb _ 0 c.if-r-eq0.false)
