-- `write_records` keeps the image of the records that the text lists: that is what was written.
use Rattle.std.proofs.Common.{◌∙◌}
use Rattle.bankwrite.proofs.Kept.{image-kept}
use Rattle.bankwrite.proofs.write_records.Goals as goal

pub keep-requires : goal.keep-requires
keep-requires g c = c.front.ensures ∙ image-kept c.requires.0 c.requires.1 c.write_nodes-output.ensures c.in-Ok.is
