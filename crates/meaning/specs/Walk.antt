-- Walks over the numbers i, i + 1, .., n of them: what each finds is stated as the work that is left at i.
use Rattle.std.specs.Prelude.{ℕ, zero, suc, Bool, true, false, cond, List, [], ◌∷◌, eqb, Option, Some, None}

-- some number passes
unfoldable pub any : (ℕ → Bool) → ℕ → ℕ → Bool
any f i zero = false
any f i (suc n) = let rest = any f (suc i) n in cond (f i) true rest

-- how many numbers pass
unfoldable pub count : (ℕ → Bool) → ℕ → ℕ → ℕ
count f i zero = 0
count f i (suc n) = let rest = count f (suc i) n in cond (f i) (suc rest) rest

-- the numbers that pass, ascending
unfoldable pub pick : (ℕ → Bool) → ℕ → ℕ → List ℕ
pick f i zero = []
pick f i (suc n) = let rest = pick f (suc i) n in cond (f i) (i ∷ rest) rest

-- what was found: a number, or none
abbrev pub Found : Type 0
Found = Option ℕ

-- the lowest number that passes
unfoldable pub first : (ℕ → Bool) → ℕ → ℕ → Found
first f i zero = None
first f i (suc n) = let rest = first f (suc i) n in cond (f i) (Some i) rest

-- what f gives for each number, in order
unfoldable pub listed {ℓ} : {A : Type ℓ} → (ℕ → A) → ℕ → ℕ → List A
listed f i zero = []
listed f i (suc n) = f i ∷ listed f (suc i) n

-- one thing for what was found, another where nothing was
abbrev pub on_found {ℓ} : {A : Type ℓ} → Found → (ℕ → A) → A → A
on_found (Some i) f a = f i
on_found None f a = a

-- something was found
abbrev pub found : Found → Bool
found (Some i) = true
found None = false

-- the place of a number in a list, counted from one
unfoldable pub place : ℕ → List ℕ → ℕ
place x [] = 0
place x (y ∷ ys) = let rest = suc (place x ys) in cond (eqb x y) 1 rest
