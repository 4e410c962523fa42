-- Small laws on tests, shared by every other file.
use mathlib.Core.Path.{◌≡◌, refl, sym, ◌∙◌}
use mathlib.Core.Logic.{◌⊎◌, inl, inr}
use mathlib.Core.Bool.{Bool, true, false, ◌&&◌, ◌||◌, false≢true}
use Prim.Native.Nat.{ℕ, ◌≤◌, ◌<◌}
use lib.Dec.{leb}
use borrow.Author.Tests.{leb-true, leb-false}

-- which way a test went
pub went : (t : Bool) → (t ≡ true) ⊎ (t ≡ false)
went true = inl refl
went false = inr refl

pub le_or_lt : (a b : ℕ) → (a ≤ b) ⊎ (b < a)
le_or_lt a b = go (leb a b) refl
  where
    go : (t : Bool) → leb a b ≡ t → (a ≤ b) ⊎ (b < a)
    go true e = inl (leb-true a b e)
    go false e = inr (leb-false a b e)

-- a test cannot go both ways
pub clear : {t : Bool} → t ≡ true → t ≡ false → ⊥
clear p q = false≢true (sym q ∙ p)

-- a test that cannot pass does not
pub never : (t : Bool) → (t ≡ true → ⊥) → t ≡ false
never true f = absurd (f refl)
never false f = refl

-- two tests are equal if each passes where the other does
pub tests_same : (a b : Bool) → (a ≡ true → b ≡ true) → (b ≡ true → a ≡ true) → a ≡ b
tests_same true b f g = sym (f refl)
tests_same false true f g = g refl
tests_same false false f g = refl

pub and_l : (a b : Bool) → a && b ≡ true → a ≡ true
and_l true b e = refl
and_l false b e = e

pub and_r : (a b : Bool) → a && b ≡ true → b ≡ true
and_r true b e = e
and_r false b e = absurd (false≢true e)

pub both : (a b : Bool) → a ≡ true → b ≡ true → a && b ≡ true
both true b p q = q
both false b p q = absurd (false≢true p)

-- of two tests that do not both pass, one fails
pub and_else : (a b : Bool) {C : Type 0} → (a ≡ false → C) → (b ≡ false → C) → a && b ≡ false → C
and_else true b f g e = g e
and_else false b f g e = f refl

-- two tests behind a first one are equal if they are where the first one passes
pub and_same : (a b c : Bool) → (a ≡ true → b ≡ c) → a && b ≡ (a && c)
and_same true b c h = h refl
and_same false b c h = refl

pub or_cases : (a b : Bool) → a || b ≡ true → (a ≡ true) ⊎ (b ≡ true)
or_cases true b e = inl refl
or_cases false b e = inr e

pub or_l : (a b : Bool) → a ≡ true → a || b ≡ true
or_l true b e = refl
or_l false b e = absurd (false≢true e)

pub or_r : (a b : Bool) → b ≡ true → a || b ≡ true
or_r true b e = refl
or_r false b e = e

pub neither_l : (a b : Bool) → a || b ≡ false → a ≡ false
neither_l true b e = e
neither_l false b e = refl

pub neither_r : (a b : Bool) → a || b ≡ false → b ≡ false
neither_r true b e = absurd (false≢true (sym e))
neither_r false b e = e
