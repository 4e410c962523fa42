-- A rule prepared: its selected versions one after the other, and with each the chain of the field versions that matter to its kind.
use Rattle.std.specs.Prelude.{◌≡◌, Bool, true, ◌&&◌, ◌||◌, not, cond, List, ℕ, zero, suc, ◌≤◌, ◌<◌, eqb, leb, length, get_or}
use Rattle.meaning.specs.declared.Rule.{Rule}
use Rattle.meaning.specs.Document.{Doc}
use Rattle.meaning.specs.Rules.{is_sequenced}
use Rattle.meaning.specs.Select.{selected, field_of, valued, is_nil, is_number, within}
use Rattle.columns.specs.Chains.{past_last}
use Rattle.prepare.specs.Holders.{Skips}

-- which field versions matter on a day to a rule of kind k: all to a cardinality, those with a wrong value to a datatype, the valued ones to the others
unfoldable pub wants_by : Doc → Rule → ℕ → ℕ → Bool
wants_by doc r f zero = valued doc f
wants_by doc r f (suc zero) = valued doc f
wants_by doc r f (suc (suc zero)) = valued doc f
wants_by doc r f (suc (suc (suc zero))) = valued doc f
wants_by doc r f (suc (suc (suc (suc zero)))) = true
wants_by doc r f (suc (suc (suc (suc (suc k))))) = valued doc f && not (is_nil doc f || (is_number doc f && within r (doc.value f)))

-- in a window a datatype passes over nils, and so does a cardinality that counts values
unfoldable pub over_nils : Rule → Bool
over_nils r = leb 5 r.kind || (eqb r.kind 4 && eqb r.distinct 1)

-- there the valued ones matter, but for nils that are passed over
unfoldable pub wants : Doc → Rule → ℕ → Bool
wants doc r f = cond (is_sequenced r) (wants_by doc r f r.kind) (valued doc f && not (over_nils r && is_nil doc f))

-- numbers and texts matter to the rule, and nils do not
abbrev pub KnownOnly : Doc → Rule → Type 0
KnownOnly doc r = (f : ℕ) → wants doc r f ≡ (valued doc f && not (is_nil doc f))

-- f is a wanted field version of v, which is selected
unfoldable pub in_row : Doc → Rule → ℕ → ℕ → Bool
in_row doc r v f = selected doc r v && field_of doc r v f && wants doc r f

-- the selected versions, and for each the way down its row: `last` leads to the last in it, `lower` from each to the one before; both are
-- counted from one, and 0 leads to none
pub record Rows (doc : Doc) (r : Rule) (start : ℕ) (next last lower : List ℕ) : Type 0 where
  pub skips : Skips (selected doc r) doc.size start next
  pub last_room : doc.size ≤ length last
  pub lower_room : doc.size ≤ length lower
  pub last_is : (v : ℕ) → v < doc.size → selected doc r v ≡ true → get_or last v 0 ≡ past_last (in_row doc r v) doc.size
  pub lower_is : (v f : ℕ) → v < doc.size → f < doc.size → in_row doc r v f ≡ true → get_or lower f 0 ≡ past_last (in_row doc r v) f
