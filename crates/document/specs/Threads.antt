-- What test 9 is lent: the records, with the chains of their versions by item.
use Rattle.std.specs.Prelude.{length}
use Rattle.meaning.specs.Block.{limit}
use Rattle.columns.specs.Chains.{Chained}
use Rattle.document.specs.declared.clash.Threads.{Threads}

-- the chains are those of the versions
abbrev pub Threaded : Threads → Type 0
Threaded t = Chained limit t.records.kind.now t.records.parent.now 2 (length t.records.kind.now) t.last.now t.lower.now
