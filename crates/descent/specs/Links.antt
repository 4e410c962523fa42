-- What the struct of a document's chains and periods has to hold.
use Rattle.meaning.specs.Document.{Doc}
use Rattle.descent.specs.declared.Chains.{Chains}
use Rattle.descent.specs.Descent.{Linked}

-- the chains and the periods of such a document
abbrev pub Links : Doc → Chains → Type 0
Links doc c = Linked doc c.version_last.now c.version_lower.now c.item_last.now c.item_lower.now c.begin.now c.end.now
