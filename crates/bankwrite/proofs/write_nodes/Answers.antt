-- `write_nodes`: what is told of an answer determines it.
use Rattle.meaning.proofs.Unique.{output_unique}
use Rattle.bankwrite.proofs.write_nodes.Goals as goal

pub returns : goal.returns
returns c =
    let wrote = c.write_nodes.ensures in
    record { answer = output_unique _ _ wrote.0; image = wrote.1 }
