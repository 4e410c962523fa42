-- `descent::slice_front` meets its contract: the columns end with the document once they are cut.
use Rattle.descent.proofs.slice_front.Goals as goal

pub slice_columns-requires : goal.slice_columns-requires
slice_columns-requires c = c.requires.4
