-- A text's parts between separators (MEANING 18), and tests over all bytes of a text or all parts of one.
use Rattle.std.specs.Prelude.{Bool, true, false, ◌&&◌, cond, List, [], ◌∷◌, ℕ, eqb}

-- the bytes ahead of the first separator, or all
unfoldable pub up_to : ℕ → List ℕ → List ℕ
up_to sep [] = []
up_to sep (x ∷ xs) = let rest = x ∷ up_to sep xs in cond (eqb x sep) [] rest

-- the parts behind the first separator
unfoldable pub later : ℕ → List ℕ → List (List ℕ)
later sep [] = []
later sep (x ∷ xs) = let rest = later sep xs in cond (eqb x sep) (up_to sep xs ∷ rest) rest

-- the parts of a text: one more than it has separators
abbrev pub parts : ℕ → List ℕ → List (List ℕ)
parts sep s = up_to sep s ∷ later sep s

-- every one passes
unfoldable pub each : {A : Type 0} → (A → Bool) → List A → Bool
each f [] = true
each f (x ∷ xs) = let rest = each f xs in f x && rest

-- two texts are the same, byte for byte
unfoldable pub same : List ℕ → List ℕ → Bool
same [] [] = true
same [] (y ∷ ys) = false
same (x ∷ xs) [] = false
same (x ∷ xs) (y ∷ ys) = let rest = same xs ys in eqb x y && rest
