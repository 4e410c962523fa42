-- `prepare::rows::keys` meets its contract: below f each record has its key.
use mathlib.Core.Path.{◌≡◌}
use lib.IntN.{pos}
use lib.ListN.{length}
use Rattle.meaning.specs.Document.{Doc}
use Rattle.meaning.specs.Select.{selected}
use Rattle.columns.specs.Lent.{Lends}
use Rattle.marks.specs.Marks.{Marks}
use Rattle.prepare.specs.Holders.{Holders}
use Rattle.prepare.proofs.Filling.{Filled}
use Rattle.prepare.proofs.Keying.{KeyOf}
use Rattle.prepare.proofs.rows.keys.Given as goal

abbrev pub invariant-loop-f : goal.invariant-loop-f
invariant-loop-f l = (length l.out ≡ length l.initial.out)
    × ((doc : Doc) → Lends doc.size doc.vkind 0 l.vkind → Lends doc.size doc.value (pos 0) l.value
    → Marks (selected doc l.rule) doc.size l.chosen → Holders doc l.rule l.holder → Filled (KeyOf doc l.rule) l.f l.out)
