-- What comes of a text and a dictionary (MEANING 18): the path of a rule record and its length, or a refusal, 27, then 31, then 28.
use Rattle.std.specs.Prelude.{◌≡◌, Bool, true, ◌||◌, cond, List, [], ◌∷◌, ◌++◌, map, ℕ, ◌+◌, ◌-◌, length, replicate, Some, None, Ok, Err, Result}
use Rattle.meaning.specs.Walk.{Found}
use Rattle.meaning.specs.Answer.{Told}
use Rattle.meaning.specs.declared.Refusal.{Refusal}
use Rattle.meaning.specs.Reading.{Refused}
use Rattle.selectors.specs.declared.Selector.{Selector}
use Rattle.selectors.specs.Profile.{is_star, steps, in_profile, Outside}
use Rattle.selectors.specs.Dictionary.{lines, has, number_in, first_bad_line}

-- a star, or a name that some line has
unfoldable pub is_known : List (List ℕ) → List ℕ → Bool
is_known ls s = is_star s || has ls s

-- the number of a step: 65,535 for the star, else what the dictionary gives the name
unfoldable pub step_number : List (List ℕ) → List ℕ → ℕ
step_number ls s = cond (is_star s) 65535 (number_in ls s)

-- 28: where the first unknown name starts, of steps of which the first starts at a place
unfoldable pub unknown_from : List (List ℕ) → ℕ → List (List ℕ) → Found
unknown_from ls at [] = None
unknown_from ls at (s ∷ ss) = let rest = unknown_from ls (at + length s + 1) ss in cond (is_known ls s) rest (Some at)

-- the eight numbers of a path, unused places 0
unfoldable pub path_of : List (List ℕ) → List (List ℕ) → List ℕ
path_of ls ss = map (step_number ls) ss ++ replicate (8 - length ss) 0

-- the answer in numbers, as 01 has them: 0 a path, with its length, 2 a refusal; what an answer does not carry is 0
unfoldable pub tell_selected : Result ℕ Refusal → Told
tell_selected (Ok n) = record { outcome = 0; number = 0; place = 0; day = 0; offender = 0; count = n }
tell_selected (Err why) = record { outcome = 2; number = why.number; place = why.place; day = 0; offender = 0; count = 0 }

-- no path
abbrev pub no_path : List ℕ
no_path = replicate 8 0

-- WHAT COMES OF A TEXT AND A DICTIONARY, in 01's numbers, with the eight numbers beside it
pub data Comes (text d : List ℕ) (told : Told) (numbers : List ℕ) : Type 0 where
  outside : (p : ℕ) → Outside text p → told ≡ tell_selected (Refused 27 p) → numbers ≡ no_path → Comes text d told numbers
  unsound : (k : ℕ) → in_profile text ≡ true → first_bad_line d ≡ Some k → told ≡ tell_selected (Refused 31 k) → numbers ≡ no_path → Comes text d told numbers
  unknown :
      (p : ℕ) → in_profile text ≡ true → first_bad_line d ≡ None → unknown_from (lines d) 0 (steps text) ≡ Some p → told ≡ tell_selected (Refused 28 p) → numbers ≡ no_path
      → Comes text d told numbers
  path :
      in_profile text ≡ true → first_bad_line d ≡ None → unknown_from (lines d) 0 (steps text) ≡ None → told ≡ tell_selected (Ok (length (steps text)))
      → numbers ≡ path_of (lines d) (steps text) → Comes text d told numbers

-- what the call promises of its result
abbrev pub SelectorPromise : List ℕ → List ℕ → Selector → Type 0
SelectorPromise text d r = Comes text d (tell_selected r.answer) r.path
