-- What the offender of one day is worked out from: a rule's rows, periods and representatives, the bounds of its counts, and a mark for each value.
use Rattle.std.specs.Prelude.{◌≡◌, false, List, ℕ, zero, suc, ◌≤◌, pos, length}
use Rattle.meaning.specs.declared.Rule.{Rule}
use Rattle.meaning.specs.Document.{Doc}
use Rattle.meaning.specs.Select.{valued}
use Rattle.columns.specs.Lent.{Periods}
use Rattle.marks.specs.Marks.{marked}
use Rattle.values.specs.Represents.{Represents}
use Rattle.prepare.specs.Rows.{wants, Rows}

-- the rows of a rule, with the columns that are read along them
pub record Ready (doc : Doc) (r : Rule) (start : ℕ) (next last lower begins ends reps : List ℕ) : Type 0 where
  pub rows : Rows doc r start next last lower
  pub periods : Periods doc begins ends
  pub represents : Represents doc reps

-- the rows of the rule that a reference refers to: what matters in them is what has a value
pub record Referred (doc : Doc) (q : Rule) (start : ℕ) (next last lower begins ends reps : List ℕ) : Type 0 where
  pub ready : Ready doc q start next last lower begins ends reps
  pub valued_only : (f : ℕ) → wants doc q f ≡ valued doc f

-- what becomes of a row with one value: nothing, or it offends where a lower row has the value, or where no row of the referred rule has it
abbrev pub counted : ℕ
counted = 0

abbrev pub distinct : ℕ
distinct = 1

abbrev pub referring : ℕ
referring = 2

-- the mode of a kind, and the bounds of how many wanted field versions a row may have: every kind begins as a count
unfoldable pub TermsBy : Rule → ℕ → ℕ → ℕ → ℕ → Type 0
TermsBy r zero mode low high = ⊥
TermsBy r (suc zero) mode low high = (mode ≡ distinct) × (low ≡ 1) × (high ≡ 1)
TermsBy r (suc (suc zero)) mode low high = (mode ≡ distinct) × (low ≡ 0) × (high ≡ 1)
TermsBy r (suc (suc (suc zero))) mode low high = (mode ≡ referring) × (low ≡ 0) × (high ≡ 1)
TermsBy r (suc (suc (suc (suc zero)))) mode low high = (mode ≡ counted) × (pos low ≡ r.low) × (pos high ≡ r.high)
TermsBy r (suc (suc (suc (suc (suc k))))) mode low high = (mode ≡ counted) × (low ≡ 0) × (high ≡ 0)

unfoldable pub Terms : Rule → ℕ → ℕ → ℕ → Type 0
Terms r mode low high = TermsBy r r.kind mode low high

-- a clear mark for each of n records
pub record Clear (n : ℕ) (marks : List ℕ) : Type 0 where
  pub room : n ≤ length marks
  pub none : (x : ℕ) → marked marks x ≡ false
