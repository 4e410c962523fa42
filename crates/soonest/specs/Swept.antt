-- What the finder is given for one rule over a document: what it reads lined up, by begin and for a cardinality by end too, what it picks out, and its kind and bounds.
use Rattle.std.specs.Prelude.{◌≡◌, ◌⊎◌, true, List, ℕ, ◌≤◌, pos, length}
use Rattle.meaning.specs.declared.Rule.{Rule}
use Rattle.meaning.specs.Document.{Doc}
use Rattle.meaning.specs.Rules.{is_reference}
use Rattle.meaning.specs.Select.{selected, valued}
use Rattle.columns.specs.Judgeable.{Judgeable}
use Rattle.marks.specs.Marks.{Marks}
use Rattle.values.specs.Represents.{Represents}
use Rattle.prepare.specs.Rows.{wants}
use Rattle.prepare.specs.Keys.{Keys}
use Rattle.places.specs.declared.Places.{Places}
use Rattle.places.specs.Placing.{Counted}
use Rattle.soonest.specs.Lined.{Line, Lined, ChosenIn, RowsIn}
use Rattle.soonest.specs.declared.Picked.{Picked}
use Rattle.soonest.specs.declared.Surveyed.{Surveyed}
use Rattle.soonest.specs.declared.sweeps.Course.{Course}
use Rattle.soonest.specs.declared.sweeps.Terms.{Terms}

-- the kind looks at the selected versions themselves: a key, a cardinality
abbrev pub Asks : ℕ → Type 0
Asks kind = (kind ≡ 1) ⊎ (kind ≡ 4)

-- rule r, which refers to q if it is a reference
pub record Swept (doc : Doc) (q r : Rule) (places : Places) (order closes chosen rows others reps lo hi : List ℕ) (kind low high : ℕ) : Type 0 where
  pub counted : Counted places
  pub lined : Lined doc places order lo hi
  pub by_end : kind ≡ 4 → Line lined.begun.member hi closes
  pub judgeable : Judgeable doc
  pub chosen_are : Marks (selected doc r) doc.size chosen
  pub chosen_in : Asks kind → ChosenIn doc lined.begun.member r
  pub rows_are : Keys doc r rows
  pub rows_in : RowsIn doc lined.begun.member r
  pub others_room : doc.size ≤ length others
  pub others_are : is_reference r ≡ true → Keys doc q others × ((f : ℕ) → wants doc q f ≡ valued doc f)
  pub others_in : is_reference r ≡ true → RowsIn doc lined.begun.member q
  pub represents : Represents doc reps
  pub kind_is : kind ≡ r.kind
  pub kind_least : 1 ≤ kind
  pub kind_most : kind ≤ 5
  pub bounds : r.kind ≡ 4 → (pos low ≡ r.low) × (pos high ≡ r.high)

-- the same of what is known of the document, what is picked out, what is lined up and what the rule asks, lent together
abbrev pub SweptBy : Doc → Rule → Rule → Places → Surveyed → Picked → Course → Terms → Type 0
SweptBy doc q r places u p course t =
    Swept doc q r places course.order.now course.closes.now p.chosen.now p.row.now p.other.now u.rep.now course.lo.now course.hi.now t.kind t.low t.high

-- the same of what is known of the document, what is picked out and what is lined up, lent together
abbrev pub SweptOf : Doc → Rule → Rule → Places → Surveyed → Picked → Course → ℕ → ℕ → Type 0
SweptOf doc q r places u p course low high =
    Swept doc q r places course.order.now course.closes.now p.chosen.now p.row.now p.other.now u.rep.now course.lo.now course.hi.now r.kind low high
