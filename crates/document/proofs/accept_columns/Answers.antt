-- `document::accept_columns` meets its contract: each way out is a stage of `accept`, and the record pass hands on what 7 asks.
use Rattle.std.proofs.Common.{◌≡◌, ◌∙◌, true, false, rules}
use Rattle.document.proofs.Handed.{sound-placing}
use Rattle.document.proofs.Stages.{by-record, by_place, by-clash, by-root}
use Rattle.document.proofs.accept_columns.Goals as goal

pub returns-in_err-read_records : goal.returns-in_err-read_records
returns-in_err-read_records c =
    let r = c.args.records in
    let same : c.from_residual.result ≡ c.read_records.result = search (rules, c.from_residual.ensures, c.in_err-read_records.was) in
    same ∙ by-record r.kind.now r.vkind.now r.name.now r.parent.now r.begin.now r.end.now r.value.now r.item.now c.args.spare.now c.read_records.ensures c.in_err-read_records.was

pub first_misplaced-misplaced-requires : goal.first_misplaced-misplaced-requires
first_misplaced-misplaced-requires c =
    let r = c.args.records in
    sound-placing r.kind.now r.vkind.now r.name.now r.parent.now r.begin.now r.end.now r.value.now r.item.now c.args.spare.now c.requires c.read_records.result c.read_records.ensures c.in_ok-read_records.was

pub returns-in-Some : goal.returns-in-Some
returns-in-Some c =
    let r = c.args.records in
    by_place r.kind.now r.vkind.now r.name.now r.parent.now r.begin.now r.end.now r.value.now r.item.now c.args.spare.now c.read_records.ensures c.in_ok-read_records.was c.first_misplaced-misplaced.ensures c.in-Some.is

pub returns-in-Some-clash : goal.returns-in-Some-clash
returns-in-Some-clash c =
    let r = c.args.records in
    by-clash r.kind.now r.vkind.now r.name.now r.parent.now r.begin.now r.end.now r.value.now r.item.now c.args.spare.now c.read_records.ensures c.in_ok-read_records.was c.first_misplaced-misplaced.ensures c.in_default.is
    c.first_clash-clash.ensures c.in-Some-clash.is

pub returns-then-is_whole : goal.returns-then-is_whole
returns-then-is_whole c =
    let r = c.args.records in
    by-root r.kind.now r.vkind.now r.name.now r.parent.now r.begin.now r.end.now r.value.now r.item.now c.args.spare.now c.read_records.ensures c.in_ok-read_records.was c.first_misplaced-misplaced.ensures c.in_default.is
    c.first_clash-clash.ensures true c.in_default-clash.is c.is_whole.ensures c.if-is_whole.true

pub returns : goal.returns
returns c =
    let r = c.args.records in
    by-root r.kind.now r.vkind.now r.name.now r.parent.now r.begin.now r.end.now r.value.now r.item.now c.args.spare.now c.read_records.ensures c.in_ok-read_records.was c.first_misplaced-misplaced.ensures c.in_default.is
    c.first_clash-clash.ensures false c.in_default-clash.is c.is_whole.ensures c.if-is_whole.false
