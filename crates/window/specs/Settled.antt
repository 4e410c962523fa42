-- What the offender of a non-sequenced rule is asked over: its lists laid out, and the rule that it refers to prepared.
use Rattle.std.specs.Prelude.{◌≡◌, true, List, ℕ}
use Rattle.meaning.specs.declared.Rule.{Rule}
use Rattle.meaning.specs.Document.{Doc}
use Rattle.meaning.specs.Rules.{is_reference}
use Rattle.meaning.specs.Select.{valued}
use Rattle.columns.specs.Lent.{Periods}
use Rattle.columns.specs.Judgeable.{Judgeable}
use Rattle.values.specs.Represents.{Represents}
use Rattle.prepare.specs.declared.Prepared.{Prepared}
use Rattle.prepare.specs.Rows.{wants, Rows}
use Rattle.groups.specs.Groups.{Groups}
use Rattle.window.specs.declared.layout.Layout.{Layout}
use Rattle.window.specs.Spread.{Spread}

-- the lists laid out for rule r over an accepted document, with the columns that are read along them, and if it is a reference the rows of the
-- rule q that it refers to
pub record Settled (doc : Doc) (q r : Rule) (laid : Layout) (held : Prepared) (begins ends reps groups : List ℕ) : Type 0 where
  pub spread : Spread doc r laid.start laid.next laid.last laid.lower groups
  pub referred : is_reference r ≡ true → Rows doc q held.start held.next held.last held.lower × ((f : ℕ) → wants doc q f ≡ valued doc f)
  pub periods : Periods doc begins ends
  pub represents : Represents doc reps
  pub classes : Groups doc groups
  pub judgeable : Judgeable doc
