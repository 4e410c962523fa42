-- One item number in a window: how many of its field versions, or of their values, are present, when that is out of range, and what a look at
-- one of its versions leaves.
use Rattle.std.specs.Prelude.{◌≡◌, Bool, ◌&&◌, ◌||◌, not, cond, List, ℕ, ◌≤◌, ◌<◌, eqb, length, get_or}
use Rattle.meaning.specs.Walk.{any, count}
use Rattle.meaning.specs.Block.{limit}
use Rattle.marks.specs.Marks.{marked}
use Rattle.day.specs.Ready.{Clear}
use Rattle.day.specs.Row.{outside}

-- n entries or more in each list that a walk along field versions reads, and representatives that have a place in `seen`
pub record Room (n : ℕ) (ends reps lower seen : List ℕ) : Type 0 where
  pub end_room : n ≤ length ends
  pub rep_room : n ≤ length reps
  pub rep_low : (f : ℕ) → f < n → get_or reps f 0 < n
  pub lower_room : n ≤ length lower
  pub seen_room : n ≤ length seen

-- and in each that is read at a version or at its class
pub record Fits (n : ℕ) (ends reps groups last lower done seen : List ℕ) : Type 0 where
  pub room : Room n ends reps lower seen
  pub few : n ≤ limit
  pub group_room : n ≤ length groups
  pub group_low : (v : ℕ) → v < n → get_or groups v 0 < n
  pub last_room : n ≤ length last
  pub done_room : n ≤ length done

-- entry x is the token
abbrev pub tokened : ℕ → List ℕ → ℕ → Bool
tokened token seen x = eqb (get_or seen x 0) token

-- every entry is at most m
abbrev pub UpTo : ℕ → List ℕ → Type 0
UpTo m entries = (y : ℕ) → get_or entries y 0 ≤ m

-- every entry is below m
abbrev pub Below : ℕ → List ℕ → Type 0
Below m entries = (y : ℕ) → get_or entries y 0 < m

-- what a look at field version f counts and leaves, `here` being whether it is present and x its representative: 1 where it is present and,
-- if values are counted, x has not the token yet; and x gets it
pub record Weighed (here : Bool) (x : ℕ) (distinct : Bool) (token : ℕ) (before after : List ℕ) (c : ℕ) : Type 0 where
  pub adds : c ≡ cond (here && not (distinct && tokened token before x)) 1 0
  pub tokens : (y : ℕ) → tokened token after y ≡ (tokened token before y || (here && eqb x y))
  pub up_to : UpTo token before → UpTo token after

-- the field versions that `row` passes, of n, those that p passes being present
module _ (p : ℕ → Bool) (n : ℕ) (rep : ℕ → ℕ) (distinct : Bool) where
  -- how many there are, or how many values they have
  unfoldable pub number_in : (ℕ → Bool) → ℕ
  number_in row = cond distinct (count (λ x. any (λ f. row f && p f && eqb (rep f) x) 0 n) 0 n) (count (λ f. row f && p f) 0 n)

  -- that is out of range
  unfoldable pub breaks : ℕ → ℕ → (ℕ → Bool) → Bool
  breaks low high row = outside low high (number_in row)

-- what a look at a version of class g answers and leaves, `here` being whether it is present and `bad` whether its item number is out of
-- range: it is bad where it is present and its class has not been counted, and its class has been then
pub record Met (here bad : Bool) (g : ℕ) (before after : List ℕ) (answer : Bool) : Type 0 where
  pub answers : answer ≡ (here && (not (marked before g) && bad))
  pub marks : (y : ℕ) → marked after y ≡ (marked before y || (here && eqb g y))

-- a clear mark for each of n classes, and an entry without token for each of n values
pub record Fresh (n : ℕ) (done seen : List ℕ) : Type 0 where
  pub classes : Clear n done
  pub seen_room : n ≤ length seen
  pub none : (y : ℕ) → get_or seen y 0 ≡ 0
