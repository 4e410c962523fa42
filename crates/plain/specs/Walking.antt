-- A walk over every day of a rule's period, in order: where it stopped.
use Rattle.std.specs.Prelude.{◌≡◌, List, ℕ, ◌+◌, ◌-◌, ◌≤◌, ◌<◌, Option, Some, None}
use Rattle.meaning.specs.declared.Rule.{Rule}
use Rattle.meaning.specs.Walk.{first, Found}
use Rattle.meaning.specs.Document.{Doc}
use Rattle.meaning.specs.Day.{offends, offender}
use Rattle.marks.specs.Marks.{marked}
use Rattle.plain.specs.declared.days.Failing.{Failing}

-- the lowest offender where those versions are present that are marked
unfoldable pub offender_by : Doc → Rule → Rule → List ℕ → Found
offender_by doc q r marks = first (offends doc (marked marks) q r) 0 doc.size

-- of the first n days of the period none has an offender
abbrev pub Clear : Doc → Rule → Rule → ℕ → Type 0
Clear doc q r n = (i : ℕ) → i < n → offender doc q r (r.begin + i) ≡ None

-- d is the first day of the period with an offender, and v the lowest of that day
pub record FirstDay (doc : Doc) (q r : Rule) (d v : ℕ) : Type 0 where
  pub from : r.begin ≤ d
  pub below : d < r.end
  pub clear : Clear doc q r (d - r.begin)
  pub offence : offender doc q r d ≡ Some v

-- stopped at the first day with an offender, or nowhere as there is none
abbrev pub Stopped : Doc → Rule → Rule → Option Failing → Type 0
Stopped doc q r (Some f) = FirstDay doc q r f.day f.place
Stopped doc q r None = Clear doc q r (r.end - r.begin)
