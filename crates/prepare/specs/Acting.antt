-- What a rule makes of one record: how far its names fit, in whose row it is, and whether it is read.
use Rattle.std.specs.Prelude.{◌≡◌, ◌&&◌, cond, ℕ, ◌<◌, eqb}
use Rattle.meaning.specs.declared.Rule.{Rule}
use Rattle.meaning.specs.Block.{limit}
use Rattle.meaning.specs.Document.{Doc}
use Rattle.meaning.specs.Select.{reads_own}
use Rattle.prepare.specs.Rows.{in_row}
use Rattle.prepare.specs.Descent.{Left}

-- the selected version of which version i, of an item with this name that stands in version `above`, is a field version; `limit` for none. What is
-- left of the path is 1 at a selected version: `before` at `above`, `left` at i itself
unfoldable pub owner_of : ℕ → ℕ → ℕ → ℕ → ℕ → ℕ → ℕ
owner_of field name above before left i = cond (eqb field 0) (cond (eqb left 1) i limit) (cond (eqb name field && eqb before 1) above limit)

-- what is left below record i, the version in whose row it is, a number from the document's size on for none, and its mark as one that is read
pub record Acts (doc : Doc) (r : Rule) (i left row read : ℕ) : Type 0 where
  pub passed : Left doc r i left
  pub rowed : (v : ℕ) → v < doc.size → eqb row v ≡ in_row doc r v i
  pub marked : eqb read 1 ≡ reads_own doc r i
