-- `plain::opened::judge_columns` meets its contract: what the rule selects and reads, the chains, the walk over the days, and the verdict that it comes to.
use mathlib.Core.Path.{◌≡◌}
use mathlib.Core.Bool.{true, false}
use native.Mathlib.Omega.{arith}
use Rattle.meaning.specs.declared.Rule.{Rule}
use Rattle.meaning.specs.Document.{Doc}
use Rattle.meaning.specs.Rules.{is_reference}
use Rattle.meaning.specs.Select.{reads}
use Rattle.meaning.proofs.Tables.{rule_row}
use Rattle.marks.specs.Marks.{Marks}
use Rattle.descent.proofs.Linking.{linked}
use Rattle.plain.specs.Laid.{LaidOf}
use Rattle.plain.specs.Walking.{Stopped}
use Rattle.plain.proofs.opened.judge_columns.Goals as goal
use Rattle.plain.proofs.opened.judge_columns.Goals.{After-first_failing-stop}

-- what the rule reads is marked, and where the walk stopped
walked : (c : After-first_failing-stop) (doc : Doc) (q : Rule) →
    let a = c.args in
    LaidOf doc a.records
    → (is_reference a.r ≡ true → a.other ≡ q) → (is_reference a.r ≡ false → a.other ≡ a.r)
    → Marks (reads doc q a.r) doc.size c.mark_read-read.result × Stopped doc q a.r c.first_failing-stop.result
walked c doc q laid referred itself =
    let own = c.mark_selected-own.ensures doc laid.tree in
    let held = c.mark_selected-held.ensures doc laid.tree in
    let links = linked laid.tree.kind laid.tree.parent laid.periods laid.judgeable laid.single c.chain-versions.ensures c.chain-items.ensures in (
      c.mark_read-read.ensures doc q laid.tree laid.judgeable own held referred itself,
      c.first_failing-stop.ensures doc q laid links (record { referred = referred; itself = itself; own_marks = own; held_marks = held }),
    )

pub mark_selected-own-requires : goal.mark_selected-own-requires
mark_selected-own-requires c =
    let p = c.requires in
    let laid = p.2.2 in
    (((rule_row _).0 p.0).path.steps_most, (p.2.0, laid.tree, laid.judgeable))

pub mark_selected-held-requires : goal.mark_selected-held-requires
mark_selected-held-requires c =
    let p = c.requires in
    let laid = p.2.2 in
    (((rule_row _).0 p.1).path.steps_most, (p.2.0, laid.tree, laid.judgeable))

pub mark_read-read-requires : goal.mark_read-read-requires
mark_read-read-requires c =
    let p = c.requires.2 in
    let laid = p.2 in
    (p.0, laid.tree, laid.judgeable, (c.mark_selected-own.ensures p.0 laid.tree).room, (c.mark_selected-held.ensures p.0 laid.tree).room)

pub chain-items-requires : goal.chain-items-requires
chain-items-requires c =
    let laid = c.requires.2.2 in
    (omega (arith, laid.tree.kind.size, laid.judgeable.few), omega (arith, laid.tree.kind.size, laid.tree.parent.size))

pub first_failing-stop-requires : goal.first_failing-stop-requires
first_failing-stop-requires c =
    let s = c.requires in
    let p = s.2 in
    let laid = p.2 in (
      s.0,
      (
        p.0,
        laid,
        linked laid.tree.kind laid.tree.parent laid.periods laid.judgeable laid.single c.chain-versions.ensures c.chain-items.ensures,
        (c.mark_selected-own.ensures p.0 laid.tree).room,
        (c.mark_selected-held.ensures p.0 laid.tree).room,
      ),
    )

pub told-requires : goal.told-requires
told-requires c =
    let p = c.requires in
    let w = p.2 in
    let k = walked (goal.at.told-requires c).After-first_failing-stop w.0 w.1 w.2 w.3 w.4 in
    (p.0, (w.0, w.1, w.2.periods, k.0, k.1))

pub returns : goal.returns
returns c doc q laid referred itself =
    let k = walked (goal.at.returns c).After-first_failing-stop doc q laid referred itself in
    c.told.ensures doc q laid.periods laid.judgeable k.0 k.1
