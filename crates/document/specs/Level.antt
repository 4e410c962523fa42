-- What is asked of some columns of one document: that they are as long as the first.
use Rattle.std.specs.Prelude.{◌≡◌, List, [], ◌∷◌, ℕ, length}
use Rattle.columns.specs.declared.Records.{Records}

-- each of the other columns is as long as the first
abbrev pub Level : List ℕ → List (List ℕ) → Type 0
Level first [] = Unit {0}
Level first (other ∷ others) = (length other ≡ length first) × Level first others

-- parents and periods are as long as the kinds
abbrev pub PeriodsLevel : Records → Type 0
PeriodsLevel r = Level r.kind.now (r.parent.now ∷ r.begin.now ∷ r.end.now ∷ [])

-- and so are names and item numbers: all that 9 reads
abbrev pub NumbersLevel : Records → Type 0
NumbersLevel r = Level r.kind.now (r.name.now ∷ r.parent.now ∷ r.begin.now ∷ r.end.now ∷ r.item.now ∷ [])
