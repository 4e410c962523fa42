-- Columns that are owned, lent as far as n: what their first n entries hold is held by what is lent.
use Rattle.std.proofs.Common.{◌≡◌, ◌-◌, ℕ, List}
use native.Mathlib.Nat.{sub-zero}
use lib.ListN.{take}
use Rattle.meaning.specs.Document.{Doc}
use Rattle.columns.specs.declared.Columns.{Columns}
use Rattle.columns.specs.declared.Records.{Records}
use Rattle.columns.specs.Lent.{Whole, FrontOf, WholeOf}

-- a column as far as n
pub cut_lem : {A : Type 0} (n : ℕ) (column : List A) → take n column ≡ take (n - 0) column
cut_lem n column = rw (sub-zero n)

module _ {n : ℕ} {c : Columns} {r : Records} (f : FrontOf n c r) where
  pub whole_front : {doc : Doc} → Whole doc (take (n - 0) c.kind) (take (n - 0) c.vkind) (take (n - 0) c.name) (take (n - 0) c.parent) (take (n - 0) c.begin) (take (n - 0) c.end) (take (n - 0) c.value) (take (n - 0) c.item) → WholeOf doc r
  whole_front w = rw (f.kind, f.vkind, f.name, f.parent, f.begin, f.end, f.value, f.item) (rw (sub-zero n) at w)
