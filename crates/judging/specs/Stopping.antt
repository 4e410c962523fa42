-- What the walk over a rule's places answers: the first of them that has an offender, with its lowest one.
use Rattle.std.specs.Prelude.{◌≡◌, ℕ, ◌≤◌, ◌<◌, leb, Option, Some, None}
use Rattle.meaning.specs.declared.Rule.{Rule}
use Rattle.meaning.specs.Walk.{first, Found}
use Rattle.meaning.specs.Document.{Doc}
use Rattle.meaning.specs.Window.{Window}
use Rattle.places.specs.declared.Places.{Places}
use Rattle.places.specs.declared.Place.{Place}
use Rattle.places.specs.Placing.{start_of, end_of, window_at}
use Rattle.soonest.specs.Soon.{offends_at}
use Rattle.judging.specs.declared.walking.Stop.{Stop}

-- the lowest offender of a place, as on a day or as in a window
unfoldable pub offender_at : Doc → Rule → Rule → Window → Found
offender_at doc q r w = first (offends_at doc w q r) 0 doc.size

-- no version offends at a place from k on and before j
pub record Clear (doc : Doc) (q r : Rule) (at : Places) (k j : ℕ) : Type 0 where
  pub none : (i : ℕ) → k ≤ i → i < j → offender_at doc q r (window_at at i) ≡ None

-- `here` is the place of its number
pub record Stands (at : Places) (here : Place) : Type 0 where
  pub inside : here.number < at.count
  pub from : here.from ≡ start_of at here.number
  pub to : here.to ≡ end_of at here.number
  pub shortened : here.shortened ≡ leb at.whole here.number

-- of the places from k on, `here` is the first that has an offender, and v is its lowest
pub record Offended (doc : Doc) (q r : Rule) (at : Places) (k : ℕ) (here : Place) (v : ℕ) : Type 0 where
  pub stands : Stands at here
  pub clear : Clear doc q r at k here.number
  pub lowest : offender_at doc q r (window_at at here.number) ≡ Some v

-- by the answer: the walk from place k on stopped there, or nowhere
abbrev pub Stopped : Doc → Rule → Rule → Places → ℕ → Option Stop → Type 0
Stopped doc q r at k (Some stop) = Offended doc q r at k stop.here stop.version
Stopped doc q r at k None = Clear doc q r at k at.count
