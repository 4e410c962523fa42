-- `document::front::accept_front` meets its contract: the parts lent are the first n entries.
use Rattle.document.proofs.Fronts.{front_even, front_answer}
use Rattle.document.proofs.front.accept_front.Goals as goal

pub accept_columns-requires : goal.accept_columns-requires
accept_columns-requires c =
    let a = c.args in
    front_even a.n a.records.kind.now a.records.vkind.now a.records.name.now a.records.parent.now a.records.begin.now a.records.end.now a.records.value.now a.records.item.now a.spare.now c.requires

pub returns : goal.returns
returns c =
    let a = c.args in
    front_answer c.accept_columns.result a.n a.records.kind.now a.records.vkind.now a.records.name.now a.records.parent.now a.records.begin.now a.records.end.now a.records.value.now a.records.item.now a.spare.now c.accept_columns.ensures
