-- What the offender of a sequenced rule is asked over: the rule, and the one that it refers to, prepared over an accepted document.
use Rattle.std.specs.Prelude.{◌≡◌, true, List, ℕ, leb, ltb}
use Rattle.meaning.specs.declared.Rule.{Rule}
use Rattle.meaning.specs.Document.{Doc, is_version}
use Rattle.meaning.specs.Rules.{is_reference, is_sequenced}
use Rattle.meaning.specs.Select.{valued}
use Rattle.columns.specs.Lent.{Periods}
use Rattle.columns.specs.Judgeable.{Judgeable}
use Rattle.values.specs.Represents.{Represents}
use Rattle.prepare.specs.declared.Prepared.{Prepared}
use Rattle.prepare.specs.Rows.{wants}
use Rattle.prepare.specs.Rowed.{Rowed}
use Rattle.day.specs.declared.lent.Trail.{Trail}
use Rattle.day.specs.declared.lent.Stretch.{Stretch}
use Rattle.day.specs.declared.terms.Bounds.{Bounds}
use Rattle.day.specs.Ready.{Terms}
use Rattle.day.specs.Along.{ReadyAlong, ReferredAlong}

-- a sequenced rule r that refers to q, prepared, on a day, with its mode and bounds: a version has begun where it begins below the end of the stretch
pub record Posed (doc : Doc) (q r : Rule) (own held : Trail) (s : Stretch) (b : Bounds) : Type 0 where
  pub ready : ReadyAlong doc r own s
  pub referred : is_reference r ≡ true → ReferredAlong doc q held s
  pub sequenced : is_sequenced r ≡ true
  pub terms : Terms r b.mode b.low b.high
  pub on_day : (v : ℕ) → is_version doc v ≡ true → ltb (doc.begin v) s.to ≡ leb (doc.begin v) s.from

-- rule r, which refers to q if it is a reference, and the rule that it refers to, or another one, prepared over an accepted document
pub record Settled (doc : Doc) (q r : Rule) (own held : Prepared) (begins ends reps : List ℕ) : Type 0 where
  pub rowed : Rowed doc r own
  pub other : Rule
  pub other_rowed : Rowed doc other held
  pub referred : is_reference r ≡ true → Rowed doc q held × ((f : ℕ) → wants doc q f ≡ valued doc f)
  pub periods : Periods doc begins ends
  pub represents : Represents doc reps
  pub judgeable : Judgeable doc
