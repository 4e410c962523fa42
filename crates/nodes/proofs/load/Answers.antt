-- `nodes::load` meets its contract: a refusal leaves every column, and an accepted image fills each with its field.
use mathlib.Core.Path.{refl}
use lib.ListN.{length}
use Rattle.meaning.specs.declared.Node.{Node}
use Rattle.meaning.specs.Nodes.{node_in}
use Rattle.nodes.proofs.Loads.{read-good, as_image, no_room, with_room, room_for, field_column}
use borrow.Author.Rules.{rules}
use Rattle.std.proofs.Common.{◌≡◌, ap, not}
use Rattle.meaning.specs.Reading.{Refused}
use Rattle.nodes.proofs.load.Goals as goal

pub returns-in_err-read_nodes : goal.returns-in_err-read_nodes
returns-in_err-read_nodes c =
    let a = c.args in
    let same : c.from_residual.result ≡ Refused c.in_err-read_nodes.field-0.0.number c.in_err-read_nodes.field-0.0.place = search (rules, c.from_residual.ensures) in
    rw same (record {
      answer = as_image a.image.now c.read_nodes.ensures (length a.kind.now) (length a.vkind.now) (length a.name.now) (length a.parent.now) (length a.begin.now) (length a.end.now) (length a.value.now) (length a.item.now) c.in_err-read_nodes.was;
      kind = refl;
      vkind = refl;
      name = refl;
      parent = refl;
      begin = refl;
      end = refl;
      value = refl;
      item = refl;
    })

pub count_records-n-requires : goal.count_records-n-requires
count_records-n-requires c =
    let a = c.args in
    record { fair = search rules; accepted = read-good a.image.now c.read_nodes.ensures c.in_ok-read_nodes.was }

pub returns-then-not-has_room : goal.returns-then-not-has_room
returns-then-not-has_room c =
    let a = c.args in
    let n = c.count_records-n in
    record {
      answer = no_room a.image.now c.read_nodes.ensures (length a.kind.now) (length a.vkind.now) (length a.name.now) (length a.parent.now) (length a.begin.now) (length a.end.now) (length a.value.now) (length a.item.now) c.in_ok-read_nodes.was n.result n.ensures.count c.has_room.ensures (ap not c.if-not-has_room.true);
      kind = refl;
      vkind = refl;
      name = refl;
      parent = refl;
      begin = refl;
      end = refl;
      value = refl;
      item = refl;
    }

pub unpack-requires : goal.unpack-requires
unpack-requires c =
    let a = c.args in
    let n = c.count_records-n in
    room_for a.image.now c.read_nodes.ensures (length a.kind.now) (length a.vkind.now) (length a.name.now) (length a.parent.now) (length a.begin.now) (length a.end.now) (length a.value.now) (length a.item.now) c.in_ok-read_nodes.was n.result n.ensures.count c.has_room.ensures n.ensures.inside (ap not c.if-not-has_room.false)

pub returns : goal.returns
unfolding node_in
returns c =
    let a = c.args in
    let n = c.count_records-n in
    let u = c.unpack.ensures in record {
      answer = with_room a.image.now c.read_nodes.ensures (length a.kind.now) (length a.vkind.now) (length a.name.now) (length a.parent.now) (length a.begin.now) (length a.end.now) (length a.value.now) (length a.item.now) c.in_ok-read_nodes.was n.result n.ensures.count c.has_room.ensures (ap not c.if-not-has_room.false);
      kind = field_column a.image.now n.result n.ensures.count (λ (x : Node). x.kind) a.kind.now _ u.kind;
      vkind = field_column a.image.now n.result n.ensures.count (λ (x : Node). x.vkind) a.vkind.now _ u.vkind;
      name = field_column a.image.now n.result n.ensures.count (λ (x : Node). x.name) a.name.now _ u.name;
      parent = field_column a.image.now n.result n.ensures.count (λ (x : Node). x.parent) a.parent.now _ u.parent;
      begin = field_column a.image.now n.result n.ensures.count (λ (x : Node). x.begin) a.begin.now _ u.begin;
      end = field_column a.image.now n.result n.ensures.count (λ (x : Node). x.end) a.end.now _ u.end;
      value = field_column a.image.now n.result n.ensures.count (λ (x : Node). x.value) a.value.now _ u.value;
      item = field_column a.image.now n.result n.ensures.count (λ (x : Node). x.item) a.item.now _ u.item;
    }
