-- What an accepted image satisfies, said plainly: block form, field tables, parents, depth, order, nesting, item numbers, the root.
use mathlib.Core.Path.{◌≡◌}
use mathlib.Core.Logic.{◌⊎◌}
use mathlib.Core.List.{List}
use Prim.Native.Nat.{ℕ, suc, ◌%◌, ◌≤◌, ◌<◌}
use lib.ListN.{length, take}
use Rattle.meaning.specs.Bytes.{byte, four}
use Rattle.meaning.specs.declared.Form.{Form}
use Rattle.meaning.specs.Block.{node_form, rule_form, blocks, block_at, counted, record_at, record_of}
use Rattle.meaning.specs.Document.{Doc, node}
use Rattle.meaning.specs.Nodes.{doc_of}
use Rattle.meaning.specs.Rules.{rule_at, rules_of}
use Rattle.meaning.proofs.Rows.{ItemRow, VersionRow, RuleRow}
use Rattle.meaning.proofs.Summed.{check_sum}

-- 2, 3, 4: block b of an image
pub record SoundBlock (form : Form) (image : List ℕ) (b : ℕ) : Type 0 where
  pub check : four (block_at image b) 508 ≡ check_sum (take 508 (block_at image b))
  pub number : four (block_at image b) 0 ≡ b
  pub kind : byte (block_at image b) 6 ≡ form.kind
  pub form_byte : byte (block_at image b) 7 ≡ 0
  pub some : 1 ≤ counted (block_at image b)
  pub few : counted (block_at image b) ≤ form.each
  pub full : suc b < blocks image → counted (block_at image b) ≡ form.each
  pub zeros : (at : ℕ) → record_at form (counted (block_at image b)) ≤ at → at < 508 → byte (block_at image b) at ≡ 0

-- 1 to 4: an image, block by block
pub record SoundImage (form : Form) (image : List ℕ) : Type 0 where
  pub some : 1 ≤ length image
  pub whole : length image % 512 ≡ 0
  pub few : blocks image ≤ form.most
  pub each_block : (b : ℕ) → b < blocks image → SoundBlock form image b

-- record v of the document is a version of item record i
pub record Version (doc : Doc) (i v : ℕ) : Type 0 where
  pub here : v < doc.size
  pub kind : doc.kind v ≡ 2
  pub of : doc.parent v ≡ i

-- record i of the document is an item
pub record Item (doc : Doc) (i : ℕ) : Type 0 where
  pub here : i < doc.size
  pub kind : doc.kind i ≡ 1

-- on the way from the root to record i, both counted, stand n items
pub data Way (doc : Doc) : ℕ → ℕ → Type 0 where
  root : Way doc 0 1
  to_item : (i n : ℕ) → 0 < i → doc.kind i ≡ 1 → Way doc (doc.parent i) n → Way doc i (suc n)
  to_version : (i n : ℕ) → 0 < i → doc.kind i ≡ 2 → Way doc (doc.parent i) n → Way doc i n

-- 4, 5, 6, 8: each record by itself, its parent, the items on its way
pub record SoundRecords (doc : Doc) : Type 0 where
  pub spare : (i : ℕ) → i < doc.size → doc.spare i ≡ 0
  pub table : (i : ℕ) → i < doc.size → ItemRow (node doc i) ⊎ VersionRow (node doc i)
  pub root_item : 0 < doc.size → doc.kind 0 ≡ 1
  pub root_parent : 0 < doc.size → doc.parent 0 ≡ 65535
  pub lower : (i : ℕ) → 0 < i → i < doc.size → doc.parent i < i
  pub of_item : (i : ℕ) → 0 < i → i < doc.size → doc.kind i ≡ 2 → doc.kind (doc.parent i) ≡ 1
  pub of_version : (i : ℕ) → 0 < i → i < doc.size → doc.kind i ≡ 1 → doc.kind (doc.parent i) ≡ 2
  pub shallow : (i n : ℕ) → i < doc.size → Way doc i n → n ≤ 8

-- 7: versions of one item record in order and apart, each within the version in which its item stands
pub record Placed (doc : Doc) : Type 0 where
  pub order : (i u v : ℕ) → u < v → Version doc i u → Version doc i v → doc.end u ≤ doc.begin v
  pub after : (i v : ℕ) → 0 < i → Version doc i v → doc.begin (doc.parent i) ≤ doc.begin v
  pub before : (i v : ℕ) → 0 < i → Version doc i v → doc.end v ≤ doc.end (doc.parent i)

-- 9: items of one number have one name and never share a day
pub record Numbered (doc : Doc) : Type 0 where
  pub name : (j i : ℕ) → j < i → Item doc j → Item doc i → doc.item j ≡ doc.item i → doc.name j ≡ doc.name i
  pub apart : (j i u v : ℕ) → j < i → Item doc j → Item doc i → doc.item j ≡ doc.item i → Version doc j u → Version doc i v
      → (doc.end v ≤ doc.begin u) ⊎ (doc.end u ≤ doc.begin v)

-- 10: the root has versions, each beginning where the last ended
pub record Rooted (doc : Doc) : Type 0 where
  pub some : (v : ℕ) × Version doc 0 v
  pub next : (u v : ℕ) → u < v → Version doc 0 u → Version doc 0 v → ((w : ℕ) → u < w → w < v → Version doc 0 w → ⊥) → doc.end u ≡ doc.begin v

-- 4 to 10: a document
pub record Sound (doc : Doc) : Type 0 where
  pub records : SoundRecords doc
  pub placed : Placed doc
  pub numbered : Numbered doc
  pub rooted : Rooted doc

-- 1 to 10: a node image
pub record SoundNodes (image : List ℕ) : Type 0 where
  pub image_form : SoundImage node_form image
  pub document : Sound (doc_of image)

-- 21 to 26: a rule image
pub record SoundRules (image : List ℕ) : Type 0 where
  pub image_form : SoundImage rule_form image
  pub spare_39 : (k : ℕ) → k < length (rules_of image) → byte (record_of rule_form image k) 39 ≡ 0
  pub spare_42 : (k at : ℕ) → k < length (rules_of image) → 42 ≤ at → at < 50 → byte (record_of rule_form image k) at ≡ 0
  pub table : (k : ℕ) → k < length (rules_of image) → RuleRow (rule_at (rules_of image) k)
  pub referred : (k : ℕ) → k < length (rules_of image) → (rule_at (rules_of image) k).kind ≡ 3
      → ((rule_at (rules_of image) k).referred < length (rules_of image))
      × (((rule_at (rules_of image) (rule_at (rules_of image) k).referred).kind ≡ 1) ⊎ ((rule_at (rules_of image) (rule_at (rules_of image) k).referred).kind ≡ 2))
