-- What lent columns are to a document: each has its length and holds one field of its records. Contracts say "for every document that these columns hold".
use Rattle.std.specs.Prelude.{◌≡◌, List, ℕ, ◌-◌, ◌≤◌, ℤ, pos, length, get_or, take}
use Rattle.meaning.specs.Document.{Doc}
use Rattle.columns.specs.Judgeable.{Judgeable}
use Rattle.columns.specs.declared.Columns.{Columns}
use Rattle.columns.specs.declared.Records.{Records}

-- a column of n entries, one for each record, and `other` past them
pub record Lends {A : Type 0} (n : ℕ) (field : ℕ → A) (other : A) (column : List A) : Type 0 where
  pub size : length column ≡ n
  pub at : (i : ℕ) → get_or column i other ≡ field i

-- kind, name and parent: what a path is matched against
pub record Tree (doc : Doc) (kinds names parents : List ℕ) : Type 0 where
  pub kind : Lends doc.size doc.kind 0 kinds
  pub name : Lends doc.size doc.name 0 names
  pub parent : Lends doc.size doc.parent 0 parents

-- kind, value kind and value
pub record Values (doc : Doc) (kinds vkinds : List ℕ) (values : List ℤ) : Type 0 where
  pub kind : Lends doc.size doc.kind 0 kinds
  pub vkind : Lends doc.size doc.vkind 0 vkinds
  pub value : Lends doc.size doc.value (pos 0) values

-- begin and end
pub record Periods (doc : Doc) (begins ends : List ℕ) : Type 0 where
  pub begin : Lends doc.size doc.begin 0 begins
  pub end : Lends doc.size doc.end 0 ends

-- kind, parent and item number
pub record Numbers (doc : Doc) (kinds parents items : List ℕ) : Type 0 where
  pub kind : Lends doc.size doc.kind 0 kinds
  pub parent : Lends doc.size doc.parent 0 parents
  pub item : Lends doc.size doc.item 0 items

-- all eight columns of a document that can be judged
pub record Whole (doc : Doc) (kinds vkinds names parents begins ends : List ℕ) (values : List ℤ) (items : List ℕ) : Type 0 where
  pub tree : Tree doc kinds names parents
  pub values_held : Values doc kinds vkinds values
  pub periods : Periods doc begins ends
  pub numbers : Numbers doc kinds parents items
  pub judgeable : Judgeable doc

-- the first n entries of eight columns are such a document
pub record Fronts (n : ℕ) (kinds vkinds names parents begins ends : List ℕ) (values : List ℤ) (items : List ℕ) : Type 0 where
  pub kind : n ≤ length kinds
  pub vkind : n ≤ length vkinds
  pub name : n ≤ length names
  pub parent : n ≤ length parents
  pub begin : n ≤ length begins
  pub end : n ≤ length ends
  pub value : n ≤ length values
  pub item : n ≤ length items
  pub doc : Doc
  pub whole : Whole doc (take (n - 0) kinds) (take (n - 0) vkinds) (take (n - 0) names) (take (n - 0) parents) (take (n - 0) begins) (take (n - 0) ends) (take (n - 0) values) (take (n - 0) items)

-- the same of columns that are lent together
abbrev pub TreeOf : Doc → Records → Type 0
TreeOf doc r = Tree doc r.kind.now r.name.now r.parent.now

abbrev pub ValuesOf : Doc → Records → Type 0
ValuesOf doc r = Values doc r.kind.now r.vkind.now r.value.now

abbrev pub PeriodsOf : Doc → Records → Type 0
PeriodsOf doc r = Periods doc r.begin.now r.end.now

abbrev pub NumbersOf : Doc → Records → Type 0
NumbersOf doc r = Numbers doc r.kind.now r.parent.now r.item.now

-- some document that can be judged has these kinds, names and parents
abbrev pub HasTree : Records → Type 0
HasTree r = (doc : Doc) × TreeOf doc r × Judgeable doc

-- and these values
abbrev pub HasValues : Records → Type 0
HasValues r = (doc : Doc) × TreeOf doc r × ValuesOf doc r × Judgeable doc

-- the first n entries of columns that are owned, lent together
pub record FrontOf (n : ℕ) (c : Columns) (r : Records) : Type 0 where
  pub kind : r.kind.now ≡ take n c.kind
  pub vkind : r.vkind.now ≡ take n c.vkind
  pub name : r.name.now ≡ take n c.name
  pub parent : r.parent.now ≡ take n c.parent
  pub begin : r.begin.now ≡ take n c.begin
  pub end : r.end.now ≡ take n c.end
  pub value : r.value.now ≡ take n c.value
  pub item : r.item.now ≡ take n c.item

-- all their entries
pub record AllOf (c : Columns) (r : Records) : Type 0 where
  pub kind : r.kind.now ≡ c.kind
  pub vkind : r.vkind.now ≡ c.vkind
  pub name : r.name.now ≡ c.name
  pub parent : r.parent.now ≡ c.parent
  pub begin : r.begin.now ≡ c.begin
  pub end : r.end.now ≡ c.end
  pub value : r.value.now ≡ c.value
  pub item : r.item.now ≡ c.item

-- all eight, of a document that can be judged
abbrev pub WholeOf : Doc → Records → Type 0
WholeOf doc r = Whole doc r.kind.now r.vkind.now r.name.now r.parent.now r.begin.now r.end.now r.value.now r.item.now
