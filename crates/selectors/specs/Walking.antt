-- What the walk over the steps of a text answers, and leaves in the path, in terms of the lines that names are looked up in.
use Rattle.std.specs.Prelude.{◌≡◌, List, ℕ, length, Ok, Result}
use Rattle.meaning.specs.Walk.{on_found, Found}
use Rattle.meaning.specs.declared.Refusal.{Refusal}
use Rattle.meaning.specs.Reading.{Refused}
use Rattle.selectors.specs.declared.Selector.{Selector}
use Rattle.selectors.specs.Profile.{steps}
use Rattle.selectors.specs.Selecting.{unknown_from, path_of, no_path}

-- how the steps fare: where the first unknown one starts
abbrev pub unknown : List ℕ → List (List ℕ) → Found
unknown text ls = unknown_from ls 0 (steps text)

-- the answer on a text of the profile
abbrev pub answer_on : List ℕ → List (List ℕ) → Result ℕ Refusal
answer_on text ls = on_found (unknown text ls) (Refused 28) (Ok (length (steps text)))

-- the answer, and the path where every step is known
pub record Filled (text : List ℕ) (ls : List (List ℕ)) (r : Result ℕ Refusal) (numbers : List ℕ) : Type 0 where
  pub answer : r ≡ answer_on text ls
  pub path : (n : ℕ) → r ≡ Ok n → numbers ≡ path_of ls (steps text)

-- the same with no path beside a refusal
pub record LooksUp (text : List ℕ) (ls : List (List ℕ)) (r : Selector) : Type 0 where
  pub answer : r.answer ≡ answer_on text ls
  pub path : r.path ≡ on_found (unknown text ls) (λ p. no_path) (path_of ls (steps text))
