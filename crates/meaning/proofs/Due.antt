-- 01's table of refusals said plainly ("What comes back"): for each number a line that says when it is due at a place, in 01's order, apart from the tests.
use mathlib.Core.Path.{◌≡◌}
use mathlib.Core.Logic.{◌⊎◌}
use mathlib.Core.List.{List, [], ◌∷◌, ◌++◌}
use Prim.Native.Nat.{ℕ, suc, ◌+◌, ◌*◌, ◌%◌, ◌≤◌, ◌<◌}
use lib.ListN.{length, take}
use Rattle.meaning.specs.declared.Rule.{Rule}
use Rattle.meaning.specs.Bytes.{byte, four}
use Rattle.meaning.specs.Block.{node_form, rule_form, blocks, block_at, counted, record_of}
use Rattle.meaning.specs.Document.{Doc, node}
use Rattle.meaning.specs.Nodes.{doc_of}
use Rattle.meaning.specs.Rules.{rule_at, rules_of}
use Rattle.meaning.specs.Day.{slice}
use Rattle.meaning.specs.Answer.{changes_of}
use Rattle.meaning.proofs.Rows.{ItemRow, VersionRow, RuleRow}
use Rattle.meaning.proofs.Summed.{check_sum}
use Rattle.meaning.proofs.Sound.{Version, Item, Way}
use Rattle.meaning.proofs.Lines.{Line, line, each, joined}

-- 1, 21: the image is empty, no multiple of 512, or has too many blocks
pub data WrongLength (most : ℕ) (image : List ℕ) : Type 0 where
  empty : length image ≡ 0 → WrongLength most image
  broken_block : (length image % 512 ≡ 0 → ⊥) → WrongLength most image
  too_many : most < blocks image → WrongLength most image

-- 2, 22: the check stored is wrong
abbrev pub WrongCheck : List ℕ → ℕ → Type 0
WrongCheck image b = four (block_at image b) 508 ≡ check_sum (take 508 (block_at image b)) → ⊥

-- 3, 23: block number, count, kind or form wrong; every block but the last is full, the last has at least one record
pub data WrongHeader (kind each : ℕ) (image : List ℕ) (b : ℕ) : Type 0 where
  number : (four (block_at image b) 0 ≡ b → ⊥) → WrongHeader kind each image b
  kind_byte : (byte (block_at image b) 6 ≡ kind → ⊥) → WrongHeader kind each image b
  form_byte : (byte (block_at image b) 7 ≡ 0 → ⊥) → WrongHeader kind each image b
  count_none : counted (block_at image b) ≡ 0 → WrongHeader kind each image b
  count_over : each < counted (block_at image b) → WrongHeader kind each image b
  not_full : suc b < blocks image → counted (block_at image b) < each → WrongHeader kind each image b

-- 4, 24: a byte after the last record, records being this wide, is not zero
pub record NotZeros (width : ℕ) (image : List ℕ) (b : ℕ) : Type 0 where
  pub at : ℕ
  pub after : 8 + width * counted (block_at image b) ≤ at
  pub before : at < 508
  pub set : byte (block_at image b) at ≡ 0 → ⊥

-- 6: record 0 is no item or its parent is not 65,535; a later record's parent is not lower or of the wrong kind
pub data WrongParent (doc : Doc) (i : ℕ) : Type 0 where
  root_no_item : i ≡ 0 → (doc.kind i ≡ 1 → ⊥) → WrongParent doc i
  root_in_other : i ≡ 0 → (doc.parent i ≡ 65535 → ⊥) → WrongParent doc i
  not_lower : 0 < i → i ≤ doc.parent i → WrongParent doc i
  version_in_no_item : 0 < i → doc.kind i ≡ 2 → (doc.kind (doc.parent i) ≡ 1 → ⊥) → WrongParent doc i
  item_in_no_version : 0 < i → doc.kind i ≡ 1 → (doc.kind (doc.parent i) ≡ 2 → ⊥) → WrongParent doc i

-- 8: too deep, more than 8 items from the root on
pub record TooDeep (doc : Doc) (i : ℕ) : Type 0 where
  pub items : ℕ
  pub many : 8 < items
  pub way : Way doc i items

-- 7: begins before a lower version of its item record ends, or leaves the parent's period
pub data Misplaced (doc : Doc) (v : ℕ) : Type 0 where
  early : (i u : ℕ) → u < v → Version doc i u → Version doc i v → doc.begin v < doc.end u → Misplaced doc v
  begins_before : (i : ℕ) → 0 < i → Version doc i v → doc.begin v < doc.begin (doc.parent i) → Misplaced doc v
  ends_after : (i : ℕ) → 0 < i → Version doc i v → doc.end (doc.parent i) < doc.end v → Misplaced doc v

-- version v has day d: begin ≤ d < end
pub record HasDay (doc : Doc) (v d : ℕ) : Type 0 where
  pub begun : doc.begin v ≤ d
  pub lasts : d < doc.end v

-- items j and i, j the lower, have one item number
pub record OneNumber (doc : Doc) (j i : ℕ) : Type 0 where
  pub lower : j < i
  pub one : Item doc j
  pub other : Item doc i
  pub same : doc.item j ≡ doc.item i

-- 9: item number clash with a lower item: another name, or versions that share a day
pub data Clashes (doc : Doc) (i : ℕ) : Type 0 where
  other_name : (j : ℕ) → OneNumber doc j i → (doc.name j ≡ doc.name i → ⊥) → Clashes doc i
  shared_day : (j u v d : ℕ) → OneNumber doc j i → Version doc j u → Version doc i v → HasDay doc u d → HasDay doc v d → Clashes doc i

-- 10: root has no version, or a gap between one and the next
pub data Unrooted (doc : Doc) : Type 0 where
  no_version : ((v : ℕ) → Version doc 0 v → ⊥) → Unrooted doc
  gap : (u v : ℕ) → u < v → Version doc 0 u → Version doc 0 v → ((w : ℕ) → u < w → w < v → Version doc 0 w → ⊥) → doc.end u < doc.begin v → Unrooted doc

-- 24: one of the bytes 39 and 42 to 49 of rule record k is not zero
pub data SpareSet (image : List ℕ) (k : ℕ) : Type 0 where
  at_39 : (byte (record_of rule_form image k) 39 ≡ 0 → ⊥) → SpareSet image k
  from_42 : (at : ℕ) → 42 ≤ at → at < 50 → (byte (record_of rule_form image k) at ≡ 0 → ⊥) → SpareSet image k

-- 26: referred rule missing or of another kind
pub data RefersBadly (rs : List Rule) (k : ℕ) : Type 0 where
  missing : (rule_at rs k).kind ≡ 3 → length rs ≤ (rule_at rs k).referred → RefersBadly rs k
  other_kind : (rule_at rs k).kind ≡ 3 → ((rule_at rs (rule_at rs k).referred).kind ≡ 1 → ⊥) → ((rule_at rs (rule_at rs k).referred).kind ≡ 2 → ⊥) → RefersBadly rs k

-- 11 for change days: no such rule, or a non-sequenced one
pub data Unlistable (rs : List Rule) (k : ℕ) : Type 0 where
  no_such_rule : length rs ≤ k → Unlistable rs k
  not_sequenced : ((rule_at rs k).windowed ≡ 0 → ⊥) → Unlistable rs k

-- the numbers 2, 3, 4, or 22, 23, 24, at block b of an image of this kind, so many records to a block, each so wide
abbrev pub block_lines : ℕ → ℕ → ℕ → ℕ → ℕ → ℕ → List ℕ → ℕ → List Line
block_lines two three four kind each width image b =
    line two b (WrongCheck image b)
    ∷ line three b (WrongHeader kind each image b)
    ∷ line four (each * b + counted (block_at image b)) (NotZeros width image b)
    ∷ []

-- at record i of a document; a field breaks its table where the record is no row of it
abbrev pub record_lines : Doc → ℕ → List Line
record_lines doc i =
    line 4 i (doc.spare i ≡ 0 → ⊥)
    ∷ line 5 i (ItemRow (node doc i) ⊎ VersionRow (node doc i) → ⊥)
    ∷ line 6 i (WrongParent doc i)
    ∷ line 8 i (TooDeep doc i)
    ∷ []

-- THE ORDER OF A DOCUMENT, of its records without an image: record by record 4, 5, 6, 8; then 7; then 9; 10
abbrev pub document_lines : Doc → List Line
document_lines doc =
    joined (
    each doc.size (record_lines doc)
    ∷ each doc.size (λ i. line 7 i (Misplaced doc i) ∷ [])
    ∷ each doc.size (λ i. line 9 i (Clashes doc i) ∷ [])
    ∷ (line 10 0 (Unrooted doc) ∷ [])
    ∷ []
    )

-- THE ORDER OF A NODE IMAGE: 1; block by block 2, 3, 4; record by record 4, 5, 6, 8; then 7; then 9; 10
abbrev pub node_lines : List ℕ → List Line
node_lines image =
    let doc = doc_of image in
    joined (
    (line 1 0 (WrongLength node_form.most image) ∷ [])
    ∷ each (blocks image) (block_lines 2 3 4 1 25 20 image)
    ∷ each doc.size (record_lines doc)
    ∷ each doc.size (λ i. line 7 i (Misplaced doc i) ∷ [])
    ∷ each doc.size (λ i. line 9 i (Clashes doc i) ∷ [])
    ∷ (line 10 0 (Unrooted doc) ∷ [])
    ∷ []
    )

-- THE ORDER OF A RULE IMAGE: 21; blocks 22, 23, 24; records 24, 25; then 26
abbrev pub rule_lines : List ℕ → List Line
rule_lines image =
    let rs = rules_of image in
    joined (
    (line 21 0 (WrongLength 10 image) ∷ [])
    ∷ each (blocks image) (block_lines 22 23 24 2 10 50 image)
    ∷ each (length rs) (λ k. line 24 k (SpareSet image k) ∷ line 25 k (RuleRow (rule_at rs k) → ⊥) ∷ [])
    ∷ each (length rs) (λ k. line 26 k (RefersBadly rs k) ∷ [])
    ∷ []
    )

-- THE ORDER OF THE CALLS: a verdict; a slice, which takes no rules; change days; 11 before 12, which is due where the lent list is too short
abbrev pub verdict_lines : List ℕ → List ℕ → ℕ → List Line
verdict_lines nodes rules k = node_lines nodes ++ (rule_lines rules ++ (line 11 0 (length (rules_of rules) ≤ k) ∷ []))

abbrev pub slice_lines : List ℕ → ℕ → List ℕ → List Line
slice_lines nodes d lent = node_lines nodes ++ (line 11 0 (36524 < d) ∷ line 12 0 (length lent < length (slice (doc_of nodes) d)) ∷ [])

abbrev pub changes_lines : List ℕ → List ℕ → ℕ → List ℕ → List Line
changes_lines nodes rules k lent =
    node_lines nodes ++ (rule_lines rules ++ (line 11 0 (Unlistable (rules_of rules) k) ∷ line 12 0 (length lent < length (changes_of nodes rules k)) ∷ []))
