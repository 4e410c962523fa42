-- The profile of selectors (MEANING 18): one to eight steps joined by `/`, each a name or `*`; and the place at which a text is outside it.
use Rattle.std.specs.Prelude.{◌≡◌, ◌⊎◌, Bool, true, false, ◌&&◌, ◌||◌, List, [], ◌∷◌, ◌++◌, ℕ, suc, ◌<◌, eqb, leb, length, take}
use Rattle.typed.specs.Numeral.{is_digit}
use Rattle.selectors.specs.Parts.{parts, each, same}

-- the codes of A to Z and of a to z
unfoldable pub is_letter : ℕ → Bool
is_letter x = (leb 65 x && leb x 90) || (leb 97 x && leb x 122)

-- what a name begins with: a letter or `_`
unfoldable pub is_first : ℕ → Bool
is_first x = is_letter x || eqb x 95

-- what a name is made of: letters, digits, `_` and `-`
unfoldable pub is_inner : ℕ → Bool
is_inner x = is_letter x || is_digit x || eqb x 95 || eqb x 45

unfoldable pub is_name : List ℕ → Bool
is_name [] = false
is_name (x ∷ xs) = is_first x && each is_inner xs

unfoldable pub is_star : List ℕ → Bool
is_star s = same s (42 ∷ [])

unfoldable pub is_step : List ℕ → Bool
is_step s = is_star s || is_name s

-- the steps of a text: its parts between slashes, of which every text has at least one
abbrev pub steps : List ℕ → List (List ℕ)
steps text = parts 47 text

-- at most eight steps, each a name or `*`
unfoldable pub in_profile : List ℕ → Bool
in_profile text = each is_step (steps text) && leb (length (steps text)) 8

-- some text beginning with these bytes is in the profile
abbrev pub Begins : List ℕ → Type 0
Begins s = (rest : List ℕ) × (in_profile (s ++ rest) ≡ true)

-- no text beginning with the bytes of a text up to and including the one at p is in the profile
pub record Hopeless (text : List ℕ) (p : ℕ) : Type 0 where
  pub inside : p < length text
  pub none : Begins (take (suc p) text) → ⊥

-- 27: a text outside the profile, with the first such byte, or its length if there is none and it merely ends too soon
pub record Outside (text : List ℕ) (p : ℕ) : Type 0 where
  pub outside : in_profile text ≡ false
  pub first : (k : ℕ) → k < p → Hopeless text k → ⊥
  pub place : Hopeless text p ⊎ (p ≡ length text)
