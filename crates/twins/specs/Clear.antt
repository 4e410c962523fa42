-- What the passes promise together, of 9 (MEANING 4).
use Rattle.std.specs.Prelude.{◌≡◌, false, [], ℕ, ◌≤◌, ◌<◌, length}
use Rattle.meaning.specs.Document.{Doc, columns}
use Rattle.meaning.specs.Nodes.{clashes}
use Rattle.columns.specs.declared.Records.{Records}

-- the columns that 9 reads are of one length
abbrev pub OneLength : Records → Type 0
OneLength r =
    (length r.name.now ≡ length r.kind.now) × (length r.parent.now ≡ length r.kind.now) × (length r.begin.now ≡ length r.kind.now) × (length r.end.now ≡ length r.kind.now) × (length r.item.now ≡ length r.kind.now)

-- the document in them, of which no value is told
abbrev pub unvalued : Records → Doc
unvalued r = columns r.kind.now [] r.name.now r.parent.now r.begin.now r.end.now [] r.item.now []

-- no record below m is an item that clashes with a lower one
pub record Clear (doc : Doc) (m : ℕ) : Type 0 where
  pub few : m ≤ doc.size
  pub none : (i : ℕ) → i < m → clashes doc i ≡ false
