-- `rules::decode::path_in` meets its contract: each name is what its call ensures.
use Rattle.rules.proofs.Decoding.{names}
use Rattle.rules.proofs.decode.path_in.Goals as goal

pub returns : goal.returns
returns c =
    names c.args.part.now c.two_at.ensures c.two_at-2.ensures c.two_at-3.ensures c.two_at-4.ensures c.two_at-5.ensures
    c.two_at-6.ensures c.two_at-7.ensures c.two_at-8.ensures
