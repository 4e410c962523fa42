-- What the offenders of a rule's places are worked out from, on days and in windows.
use Rattle.std.specs.Prelude.{◌≡◌, false, List, ℕ, ◌≤◌}
use Rattle.meaning.specs.declared.Rule.{Rule}
use Rattle.meaning.specs.Document.{Doc}
use Rattle.meaning.specs.Rules.{is_sequenced}
use Rattle.meaning.specs.Block.{limit}
use Rattle.columns.specs.Lent.{Lends, Periods}
use Rattle.columns.specs.declared.Records.{Records}
use Rattle.values.specs.Represents.{Represents}
use Rattle.prepare.specs.declared.Prepared.{Prepared}
use Rattle.day.specs.Settled.{Settled as SettledDay}
use Rattle.window.specs.declared.layout.Layout.{Layout}
use Rattle.window.specs.Settled.{Settled as SettledWindow}
use Rattle.soonest.specs.declared.Surveyed.{Surveyed}
use Rattle.judging.specs.declared.walking.Arms.{Arms}

-- the columns along which nils are looked for
pub record Nilling (doc : Doc) (vkinds begins ends reps : List ℕ) : Type 0 where
  pub vkind : Lends doc.size doc.vkind 0 vkinds
  pub periods : Periods doc begins ends
  pub represents : Represents doc reps
  pub few : doc.size ≤ limit

-- rule r, prepared, with the rule q that it refers to if it is a reference; and laid out for windows if it is not sequenced
pub record Armed (doc : Doc) (q r : Rule) (own : Prepared) (laid : Layout) (held : Prepared) (vkinds begins ends reps groups : List ℕ) : Type 0 where
  pub nilling : Nilling doc vkinds begins ends reps
  pub on-days : SettledDay doc q r own held begins ends reps
  pub in_windows : is_sequenced r ≡ false → SettledWindow doc q r laid held begins ends reps groups

-- the same of columns lent together, of what is known of them, and of what the walk has at hand
abbrev pub NillingOf : Doc → Records → Surveyed → Type 0
NillingOf doc s u = Nilling doc s.vkind.now s.begin.now s.end.now u.rep.now

abbrev pub ArmedOf : Doc → Rule → Rule → Arms → Records → Surveyed → Type 0
ArmedOf doc q r arms s u = Armed doc q r arms.own arms.laid arms.held s.vkind.now s.begin.now s.end.now u.rep.now u.group.now
