-- `paths::reading::read_mark` meets its contract: a record is read by one rule or by the other.
use mathlib.Core.Path.{sym, ◌∙◌}
use Rattle.meaning.specs.Select.{reads_own}
use Rattle.meaning.proofs.Basics.{or_l}
use Rattle.marks.proofs.Bytes.{mark-byte}
use Rattle.paths.proofs.reading.read_mark.Goals as goal
use Rattle.paths.proofs.reading.read_mark.Goals.{then-by_itself, else-by_itself}

pub returns : goal.returns
returns c =
    let own = c.reads_own-by_itself.ensures in
    λ doc r q t g w x m n.
    mark-byte _ _ c.from.ensures
    ∙ elim c.if-by_itself.branch [
      | then-by_itself w' ↦ w'.from-is ∙ w'.if-by_itself.true ∙ sym (or_l (reads_own doc r _) (reads_own doc q _) (sym (own doc r t g w m) ∙ w'.if-by_itself.true))
      | else-by_itself w' ↦ rw (sym (own doc r t g w m) ∙ w'.if-by_itself.false) (w'.from-is ∙ w'.reads_own.ensures doc q t g x n)
    ]
