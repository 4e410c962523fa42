-- What the struct of a walk has to hold.
use Rattle.meaning.specs.declared.Rule.{Rule}
use Rattle.meaning.specs.Document.{Doc}
use Rattle.changes.specs.declared.merging.Walk.{Walk}
use Rattle.changes.specs.Merging.{Walkable, Merges}

-- both orders can be walked along
abbrev pub Walks : Walk → Type 0
Walks w = Walkable w.opens.now w.begin.now w.read.own.now w.read.referred.now × Walkable w.closes.now w.end.now w.read.own.now w.read.referred.now

-- and they are a document's, with the marks of what rule r reads, which refers to q
abbrev pub MergesAlong : Doc → Rule → Rule → Walk → Type 0
MergesAlong doc q r w = Merges doc q r w.opens.now w.closes.now w.begin.now w.end.now w.read.own.now w.read.reference w.read.referred.now
