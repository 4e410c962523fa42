-- A document (MEANING 4): a count, and for each field of the records a column, a function of the record's number.
use Rattle.std.specs.Prelude.{ℕ, ◌≤◌, ◌≡◌, Bool, ◌&&◌, List, map, ℤ, pos, eqb, length, get_or}
use Rattle.std.proofs.Math.ListN.{get_or-eq_default}
use Rattle.meaning.specs.declared.Node.{Node}

pub record Doc : Type 0 where
  pub size : ℕ
  pub kind : ℕ → ℕ
  pub vkind : ℕ → ℕ
  pub name : ℕ → ℕ
  pub parent : ℕ → ℕ
  pub begin : ℕ → ℕ
  pub end : ℕ → ℕ
  pub value : ℕ → ℤ
  pub item : ℕ → ℕ
  pub spare : ℕ → ℕ
  -- past the count stands neither item nor version
  pub past : (i : ℕ) → size ≤ i → kind i ≡ 0

-- the document in lent columns, as many records as the first has entries
abbrev pub columns : List ℕ → List ℕ → List ℕ → List ℕ → List ℕ → List ℕ → List ℤ → List ℕ → List ℕ → Doc
columns kinds vkinds names parents begins ends values items spares =
    record {
      size = length kinds;
      kind = λ i. get_or kinds i 0;
      vkind = λ i. get_or vkinds i 0;
      name = λ i. get_or names i 0;
      parent = λ i. get_or parents i 0;
      begin = λ i. get_or begins i 0;
      end = λ i. get_or ends i 0;
      value = λ i. get_or values i (pos 0);
      item = λ i. get_or items i 0;
      spare = λ i. get_or spares i 0;
      past = λ i h. get_or-eq_default kinds 0 h;
    }

-- the document of a list of records
unfoldable pub of_nodes : List Node → Doc
of_nodes ns =
    columns (map (λ (n : Node). n.kind) ns) (map (λ (n : Node). n.vkind) ns) (map (λ (n : Node). n.name) ns)
    (map (λ (n : Node). n.parent) ns) (map (λ (n : Node). n.begin) ns) (map (λ (n : Node). n.end) ns)
    (map (λ (n : Node). n.value) ns) (map (λ (n : Node). n.item) ns) (map (λ (n : Node). n.spare) ns)

-- record i, its fields together
abbrev pub node : Doc → ℕ → Node
node doc i =
    record { kind = doc.kind i; vkind = doc.vkind i; name = doc.name i; parent = doc.parent i; begin = doc.begin i; end = doc.end i; value = doc.value i; item = doc.item i; spare = doc.spare i }

abbrev pub is_item : Doc → ℕ → Bool
is_item doc i = eqb (doc.kind i) 1

abbrev pub is_version : Doc → ℕ → Bool
is_version doc i = eqb (doc.kind i) 2

-- record v is a version of item record i
unfoldable pub version_of : Doc → ℕ → ℕ → Bool
version_of doc i v = is_version doc v && eqb (doc.parent v) i

-- the version in which the item of version v stands
abbrev pub above : Doc → ℕ → ℕ
above doc v = doc.parent (doc.parent v)

-- the item number of version v
abbrev pub number_of : Doc → ℕ → ℕ
number_of doc v = doc.item (doc.parent v)
