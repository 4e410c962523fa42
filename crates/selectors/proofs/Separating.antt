-- Texts and their parts between separators: a text is its first part, then a separator, then the text of the later parts.
use mathlib.Core.Path.{◌≡◌, refl, ap, ◌∙◌}
use mathlib.Core.Logic.{⊎_elim}
use mathlib.Core.Bool.{Bool, true, false, not}
use mathlib.Core.List.{List, [], ◌∷◌, ◌++◌}
use Prim.Native.Nat.{ℕ}
use native.Mathlib.Omega.{arith}
use borrow.Author.Tests.{eqb-true, eq-eqb, not-true}
use lib.Dec.{eqb}
use Rattle.meaning.proofs.Basics.{went, never, clear, and_l, and_r, both}
use Rattle.selectors.specs.Parts.{up_to, later, parts, each}

-- what passes one test passes another that asks less
pub each-less : {A : Type 0} (f g : A → Bool) → ((x : A) → f x ≡ true → g x ≡ true) → (l : List A) → each f l ≡ true → each g l ≡ true
unfolding each
each-less f g h [] e = refl
each-less f g h (x ∷ l) e = both (g x) (each g l) (h x (and_l (f x) (each f l) e)) (each-less f g h l (and_r (f x) (each f l) e))

-- a byte is not the separator
abbrev pub other : ℕ → ℕ → Bool
other sep x = not (eqb x sep)

-- bytes that pass a test which a separator does not pass are none
pub each-other : (f : ℕ → Bool) (sep : ℕ) → f sep ≡ false → (a : List ℕ) → each f a ≡ true → each (other sep) a ≡ true
each-other f sep o a e = each-less f (other sep) (λ x t. rw (never (eqb x sep) (λ q. clear t (ap f (eqb-true x sep q) ∙ o)))) a e

-- what two lists pass they pass joined
pub each-joined : {A : Type 0} (f : A → Bool) (a b : List A) → each f a ≡ true → each f b ≡ true → each f (a ++ b) ≡ true
unfolding each
each-joined f [] b p q = q
each-joined f (x ∷ a) b p q = both (f x) (each f (a ++ b)) (and_l (f x) (each f a) p) (each-joined f a b (and_r (f x) (each f a) p) q)

-- a text with a later part l, and the parts ls behind that: it is its first part, a separator and the rest, whose parts these are
pub record Parted (sep : ℕ) (s l : List ℕ) (ls : List (List ℕ)) : Type 0 where
  pub rest : List ℕ
  pub joined : s ≡ up_to sep s ++ (sep ∷ rest)
  pub behind : parts sep rest ≡ l ∷ ls

module _ (sep : ℕ) where
  -- bytes without a separator ahead of one are the first part
  pub first-joined : (a b : List ℕ) → each (other sep) a ≡ true → up_to sep (a ++ (sep ∷ b)) ≡ a
  unfolding up_to each
  first-joined [] b e = rw (eq-eqb sep sep refl)
  first-joined (x ∷ a) b e =
      rw (not-true (eqb x sep) (and_l (other sep x) (each (other sep) a) e))
      (ap (λ l. x ∷ l) (first-joined a b (and_r (other sep x) (each (other sep) a) e)))

  -- the parts behind them are those of the text behind the separator
  pub later-joined : (a b : List ℕ) → each (other sep) a ≡ true → later sep (a ++ (sep ∷ b)) ≡ parts sep b
  unfolding later each
  later-joined [] b e = rw (eq-eqb sep sep refl)
  later-joined (x ∷ a) b e =
      rw (not-true (eqb x sep) (and_l (other sep x) (each (other sep) a) e))
      (later-joined a b (and_r (other sep x) (each (other sep) a) e))

  -- a text without a separator is its own first part
  pub first-all : (a : List ℕ) → each (other sep) a ≡ true → up_to sep a ≡ a
  unfolding up_to each
  first-all [] e = refl
  first-all (x ∷ a) e =
      rw (not-true (eqb x sep) (and_l (other sep x) (each (other sep) a) e))
      (ap (λ l. x ∷ l) (first-all a (and_r (other sep x) (each (other sep) a) e)))

  -- and has no later ones
  pub later-all : (a : List ℕ) → each (other sep) a ≡ true → later sep a ≡ []
  unfolding later each
  later-all [] e = refl
  later-all (x ∷ a) e =
      rw (not-true (eqb x sep) (and_l (other sep x) (each (other sep) a) e))
      (later-all a (and_r (other sep x) (each (other sep) a) e))

  -- no byte of the first part is a separator
  pub first-free : (s : List ℕ) → each (other sep) (up_to sep s) ≡ true
  unfolding up_to each
  first-free [] = refl
  first-free (x ∷ s) = ⊎_elim (λ t. rw t) (λ t. rw t (rw t (first-free s))) (went (eqb x sep))

  -- a text with no later part is its first one
  pub later-none : (s : List ℕ) → later sep s ≡ [] → up_to sep s ≡ s
  unfolding up_to later
  later-none [] e = refl
  later-none (x ∷ s) e =
      ⊎_elim
      (λ t. let wrong : parts sep s ≡ [] = rw t at e in let z : ◌≡◌ {A = ℕ} 0 1 = cc in absurd (omega arith))
      (λ t. rw t (ap (λ l. x ∷ l) (later-none s (rw t at e))))
      (went (eqb x sep))

  -- a text with a later part has a separator behind its first one
  pub later-some : (s : List ℕ) {l : List ℕ} {ls : List (List ℕ)} → later sep s ≡ l ∷ ls → Parted sep s l ls
  unfolding up_to later
  later-some [] {l} {ls} e = let z : ◌≡◌ {A = ℕ} 0 1 = cc in absurd (omega arith)
  later-some (x ∷ s) {l} {ls} e =
      ⊎_elim
      (λ t. record { rest = s; joined = rw t (ap (λ y. y ∷ s) (eqb-true x sep t)); behind = rw t at e })
      (λ t. let p = later-some s (rw t at e) in record { rest = p.rest; joined = rw t (ap (λ l. x ∷ l) p.joined); behind = p.behind })
      (went (eqb x sep))
