-- What the finder promises: no version offends at a place below the one that it answers; and what the sweeps promise, which leave nils aside.
use Rattle.std.specs.Prelude.{◌≡◌, Bool, false, cond, ℕ, ◌≤◌, ◌<◌}
use Rattle.meaning.specs.declared.Rule.{Rule}
use Rattle.meaning.specs.Document.{Doc}
use Rattle.meaning.specs.Rules.{is_sequenced}
use Rattle.meaning.specs.Day.{offends}
use Rattle.meaning.specs.Window.{Window, meets, offends_in}
use Rattle.places.specs.declared.Places.{Places}
use Rattle.places.specs.Placing.{window_at}
use Rattle.prepare.specs.Spoiling.{spoils}

-- version v offends at a place: as on a day, or as in a window
unfoldable pub offends_at : Doc → Window → Rule → Rule → ℕ → Bool
offends_at doc w q r v = cond (is_sequenced r) (offends doc (meets doc w) q r v) (offends_in doc (meets doc w) w q r v)

-- no version offends at any place below D
unfoldable pub Soon : Doc → Rule → Rule → Places → ℕ → Type 0
Soon doc q r places D = (k v : ℕ) → k < places.count → k < D → offends_at doc (window_at places k) q r v ≡ false

-- a nil spoils no version at any place below D
unfoldable pub Unspoilt : Doc → Rule → Places → ℕ → Type 0
Unspoilt doc r places D = (k v : ℕ) → k < places.count → k < D → spoils doc (meets doc (window_at places k)) r v ≡ false

-- nils aside, no version offends at any place below D: none does below a place no later than D where none is spoilt
abbrev pub SoonAside : Doc → Rule → Rule → Places → ℕ → Type 0
SoonAside doc q r places D = (E : ℕ) → E ≤ D → Unspoilt doc r places E → Soon doc q r places E
