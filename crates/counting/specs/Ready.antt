-- What the offender of one window is worked out from, for a non-sequenced cardinality rule, and the terms of that rule.
use Rattle.std.specs.Prelude.{◌≡◌, Bool, false, cond, List, ℕ, pos, eqb}
use Rattle.meaning.specs.declared.Rule.{Rule}
use Rattle.meaning.specs.Document.{Doc}
use Rattle.meaning.specs.Rules.{is_sequenced}
use Rattle.meaning.specs.Select.{selected}
use Rattle.columns.specs.Lent.{Periods}
use Rattle.columns.specs.Judgeable.{Judgeable}
use Rattle.values.specs.Represents.{Represents}
use Rattle.prepare.specs.Holders.{Skips}
use Rattle.day.specs.declared.lent.Trail.{Trail}
use Rattle.day.specs.declared.lent.Stretch.{Stretch}
use Rattle.groups.specs.Groups.{Groups, Gathered}

-- an accepted document and a non-sequenced rule: the selected versions one after the other, the columns that are read along them, and the
-- field versions under each item number
pub record Ready (doc : Doc) (r : Rule) (start : ℕ) (next begins ends reps groups last lower : List ℕ) : Type 0 where
  pub judgeable : Judgeable doc
  pub windowed : is_sequenced r ≡ false
  pub skips : Skips (selected doc r) doc.size start next
  pub periods : Periods doc begins ends
  pub represents : Represents doc reps
  pub classes : Groups doc groups
  pub gathered : Gathered doc r groups last lower

-- the same of what is lent to a look
abbrev pub ReadyAlong : Doc → Rule → Trail → Stretch → List ℕ → Type 0
ReadyAlong doc r t s groups = Ready doc r t.start t.next.now s.begin.now s.end.now s.rep.now groups t.last.now t.lower.now

-- a cardinality that counts values or field versions, and its bounds; in a shortened window the lower one is 0
pub record Terms (r : Rule) (short distinct : Bool) (low high : ℕ) : Type 0 where
  pub kind : r.kind ≡ 4
  pub low_is : pos low ≡ cond short (pos 0) r.low
  pub high_is : pos high ≡ r.high
  pub distinct_is : distinct ≡ eqb r.distinct 1
