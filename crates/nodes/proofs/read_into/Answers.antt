-- `nodes::read_into` meets its contract: a block refuses, or the records are unpacked and the document in the columns decides.
use mathlib.Core.Path.{sym, ◌∙◌}
use native.Mathlib.Omega.{arith}
use Rattle.nodes.proofs.Fills.{filled-room}
use Rattle.nodes.proofs.Blanks.{blank-front, unpacks_none, unpacks_all}
use borrow.Author.Rules.{rules}
use Rattle.nodes.proofs.read_into.Goals as goal

pub returns-in_err-node_blocks : goal.returns-in_err-node_blocks
returns-in_err-node_blocks c =
    let b = c.node_blocks.ensures in
    unpacks_none c.args.image.now (sym b ∙ c.in_err-node_blocks.was) b 0 (search (rules, c.from_residual.ensures, c.in_err-node_blocks.was)) c.requires

pub count_records-n-requires : goal.count_records-n-requires
count_records-n-requires c = record { fair = search rules; accepted = sym c.node_blocks.ensures ∙ c.in_ok-node_blocks.was }

pub unpack-requires : goal.unpack-requires
unpack-requires c =
    let n = c.count_records-n.ensures in
    let f = blank-front c.requires in
    record {
      inside = n.inside;
      kind = omega (arith, n.few, f.kind);
      vkind = omega (arith, n.few, f.vkind);
      name = omega (arith, n.few, f.name);
      parent = omega (arith, n.few, f.parent);
      begin = omega (arith, n.few, f.begin);
      end = omega (arith, n.few, f.end);
      value = omega (arith, n.few, f.value);
      item = omega (arith, n.few, f.item);
    }

pub fill-requires : goal.fill-requires
fill-requires c =
    let n = c.count_records-n.ensures in
    record { inside = n.inside; in_record = omega arith; fits = omega (arith, n.few, (blank-front c.requires).spare) }

pub accept_front-read-requires : goal.accept_front-read-requires
accept_front-read-requires c =
    let n = c.count_records-n in
    let u = c.unpack.ensures in
    record {
      few = n.ensures.few;
      kind = filled-room _ n.result _ _ u.kind;
      vkind = filled-room _ n.result _ _ u.vkind;
      name = filled-room _ n.result _ _ u.name;
      parent = filled-room _ n.result _ _ u.parent;
      begin = filled-room _ n.result _ _ u.begin;
      end = filled-room _ n.result _ _ u.end;
      value = filled-room _ n.result _ _ u.value;
      item = filled-room _ n.result _ _ u.item;
      spare = filled-room _ n.result _ _ c.fill.ensures;
    }

pub returns : goal.returns
returns c =
    let n = c.count_records-n in
    let blocks = c.node_blocks.ensures in
    let u = c.unpack.ensures in
    unpacks_all c.args.image.now (sym blocks ∙ c.in_ok-node_blocks.was) n.result n.ensures.count c.requires
    u.kind u.vkind u.name u.parent u.begin u.end u.value u.item c.fill.ensures c.accept_front-read.ensures c.told.ensures
