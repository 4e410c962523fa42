-- `document::records::item_fields` meets its contract. Assumes nothing.
use mir.Syntax.{w32}
use mir.ValLaws.{to_z-of_z}
use Rattle.meaning.specs.Nodes.{item_fields}
use Rattle.document.proofs.records.item_fields.Goals as goal

pub returns : goal.returns
unfolding item_fields
returns c =
    let z = c.args.n.value in
    let same = to_z-of_z w32 z (record { sfits = c.struct_told-1.given.1.1.1.1.1.1.0.1 }) in
    rw (c.is_zero-zero.ensures, same)
