-- `nodes::unpack` meets its contract: each column is what its filling ensures.
use Rattle.nodes.proofs.unpack.Goals as goal

pub returns : goal.returns
returns c = record {
  kind = c.fill.ensures;
  vkind = c.fill-2.ensures;
  name = c.fill-3.ensures;
  parent = c.fill-4.ensures;
  begin = c.fill-5.ensures;
  end = c.fill-6.ensures;
  value = c.fill-7.ensures;
  item = c.fill-8.ensures;
}
