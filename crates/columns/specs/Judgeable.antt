-- What finding a slice, change days or a verdict asks of a document. It is less than acceptance, so that a document from which versions were taken out has it too.
use Rattle.std.specs.Prelude.{◌≡◌, ℕ, ◌≤◌, ◌<◌}
use Rattle.meaning.specs.Block.{limit}
use Rattle.meaning.specs.Document.{Doc, above}
use Rattle.meaning.specs.Day.{alive, present_on}

-- the version above v, in which the item of v stands, is a lower record and lasts as long as v or longer
pub record Under (doc : Doc) (v : ℕ) : Type 0 where
  pub lower : above doc v < doc.parent v
  pub version : doc.kind (above doc v) ≡ 2
  pub from : doc.begin (above doc v) ≤ doc.begin v
  pub to : doc.end v ≤ doc.end (above doc v)

-- version v has a period, and its item is a lower record: the root, or one that stands in a version
pub record Seated (doc : Doc) (v : ℕ) : Type 0 where
  pub here : v < doc.size
  pub lasts : doc.begin v < doc.end v
  pub up : doc.parent v < v
  pub item : doc.kind (doc.parent v) ≡ 1
  pub over : 0 < doc.parent v → Under doc v

-- few records; no record above the root; no day past the century's end; every version in its place, and present exactly while it is alive
pub record Judgeable (doc : Doc) : Type 0 where
  pub few : doc.size ≤ limit
  pub top : doc.size ≤ doc.parent 0
  pub dated : (i : ℕ) → i < doc.size → (doc.begin i ≤ 36525) × (doc.end i ≤ 36525)
  pub seated : (v : ℕ) → doc.kind v ≡ 2 → Seated doc v
  pub present : (d v : ℕ) → present_on doc d v ≡ alive doc d v
