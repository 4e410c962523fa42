-- One row in a window: which of its records are present, what is asked of their representatives, and what the row leaves in the columns.
use Rattle.std.specs.Prelude.{◌≡◌, Bool, true, false, ◌&&◌, ◌||◌, not, cond, List, ℕ, ◌≤◌, ◌<◌, ltb, eqb, length, get_or, set}
use Rattle.meaning.specs.Walk.{any}
use Rattle.marks.specs.Marks.{marked}

-- one of the first n records is in the row and passes
unfoldable pub some_of : ℕ → (ℕ → Bool) → (ℕ → Bool) → Bool
some_of n row ask = any (λ f. row f && ask f) 0 n

-- x has a holder: its entry is the class of its holders, counted from one
abbrev pub taken : List ℕ → ℕ → Bool
taken owners x = ltb 0 (get_or owners x 0)

-- a value is held by another: x has a holder, and not of this class
abbrev pub foreign : List ℕ → ℕ → ℕ → Bool
foreign owners mine x = taken owners x && not (eqb (get_or owners x 0) mine)

-- what was done with one value: the answer is whether another holds it; where not, it is held now
pub record Took (mine x : ℕ) (owners owners' : List ℕ) (answer : Bool) : Type 0 where
  pub answers : answer ≡ foreign owners mine x
  pub kept : answer ≡ true → owners' ≡ owners
  pub put : answer ≡ false → owners' ≡ set owners x mine

-- an entry for each of n records, none of which has a holder
pub record Unowned (n : ℕ) (owners : List ℕ) : Type 0 where
  pub room : n ≤ length owners
  pub none : (x : ℕ) → get_or owners x 0 ≡ 0

-- a row of n records, those that p passes being present, each represented by a record
module _ (p : ℕ → Bool) (n : ℕ) (rep : ℕ → ℕ) (row : ℕ → Bool) where
  -- one that is present has a representative that passes
  unfoldable pub asks : (ℕ → Bool) → Bool
  asks test = some_of n row (λ f. p f && test (rep f))

  -- one that is present is represented by y
  unfoldable pub shows : ℕ → Bool
  shows y = asks (λ x. eqb x y)

  -- none is present where one must be
  unfoldable pub lacking : Bool → Bool
  lacking needy = needy && not (some_of n row p)

  -- `after` has x at each representative of one that is present, and is as `before` elsewhere
  unfoldable pub Laid : ℕ → List ℕ → List ℕ → Type 0
  Laid x before after = (y : ℕ) → get_or after y 0 ≡ cond (shows y) x (get_or before y 0)

  -- the row of record v left its values marked
  pub record Marked (v : ℕ) (marks marks' : List ℕ) : Type 0 where
    pub seen : (y : ℕ) → marked marks' y ≡ (marked marks y || (p v && shows y))

  -- what a walk down the row did: the answer, and where that is no, what it left
  pub record Claimed (needy : Bool) (mine : ℕ) (owners owners' : List ℕ) (answer : Bool) : Type 0 where
    pub answers : answer ≡ (lacking needy || asks (foreign owners mine))
    pub left : answer ≡ false → Laid mine owners owners'

  -- what was done with the row of record v: the answer, and where that is no, the holders
  pub record Met (needy : Bool) (v mine : ℕ) (owners owners' : List ℕ) (answer : Bool) : Type 0 where
    pub answers : answer ≡ (p v && (lacking needy || asks (foreign owners mine)))
    pub left : answer ≡ false → (y : ℕ) → get_or owners' y 0 ≡ cond (p v && shows y) mine (get_or owners y 0)

-- n entries or more in each list, and representatives that are record numbers
pub record Room (n : ℕ) (lower ends reps column : List ℕ) : Type 0 where
  pub lower_room : n ≤ length lower
  pub end_room : n ≤ length ends
  pub rep_room : n ≤ length reps
  pub column_room : n ≤ length column
  pub rep_low : (f : ℕ) → f < n → get_or reps f 0 < n
