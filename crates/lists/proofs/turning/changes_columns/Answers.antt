-- `lists::turning::changes_columns` meets its contract: what the rule reads is marked, the versions are sorted, and its change days are stored along them.
use mathlib.Core.Path.{refl}
use Prim.Native.Nat.{◌≤◌}
use lib.ListN.{length}
use Rattle.meaning.specs.Day.{change_days}
use Rattle.changes.proofs.Spans.{steps-few}
use Rattle.changes.proofs.Merged.{merges}
use Rattle.lists.proofs.Changing.{begins_before, along, by-begins, by-ends, begins-walked, ends-walked}
use borrow.Author.Rules.{rules}
use Rattle.lists.proofs.turning.changes_columns.Goals as goal

pub mark_read-own-requires : goal.mark_read-own-requires
mark_read-own-requires c =
    let p = c.requires in
    (steps-few _ p.0, (p.2.0, p.2.1, p.2.3))

pub read_referred-referred-requires : goal.read_referred-referred-requires
read_referred-referred-requires c =
    let p = c.requires in
    (λ k. steps-few _ (p.1 k), (p.2.0, p.2.1, p.2.3))

pub store_changes-requires : goal.store_changes-requires
store_changes-requires c =
    let p = c.requires in
    let g = p.2 in
    let few = g.3.few in
    let a = along _ _ g.1.kind g.2 c.versions_by-begins.ensures.in_order c.versions_by-ends.ensures.in_order in
    let own = (c.mark_read-own.ensures g.0 g.1).room in
    let referred : g.0.size ≤ length c.read_referred-referred.result = search (rules, c.read_referred-referred.type_inv) in
    ((begins-walked a own referred, ends-walked a own referred), begins_before _ p.0)

pub returns : goal.returns
unfolding change_days
returns c =
    let s = c.store_changes.ensures in
    let own = c.mark_read-own.ensures in
    let ref = c.read_referred-referred.ensures in
    let begins = c.versions_by-begins.ensures.in_order in
    let ends = c.versions_by-ends.ensures.in_order in record {
      answer = λ doc p t w k.
          let a = along doc _ t.kind w begins ends in
          s.answer doc p _ (merges doc p _ a.periods (by-begins a) (by-ends a) (own doc t) refl (λ e. rw (k e) (ref doc t e))) refl;
      lent = λ doc p t w k.
          let a = along doc _ t.kind w begins ends in
          s.lent doc p _ (merges doc p _ a.periods (by-begins a) (by-ends a) (own doc t) refl (λ e. rw (k e) (ref doc t e))) refl;
    }
