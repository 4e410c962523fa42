-- Lines of a table of refusals, each with its number, the place it shows and when it is due; which one is the first due, and that a reading says so.
use Rattle.std.specs.Prelude.{Err}
use mathlib.Core.Path.{◌≡◌, refl, sym, ap, ap₂, ◌∙◌, subst₂}
use mathlib.Core.Logic.{◌↔◌, ◌⊎◌, inl, inr, ⊎_elim}
use mathlib.Core.Bool.{Bool, true, false}
use mathlib.Core.List.{List, [], ◌∷◌, ◌++◌}
use Prim.Native.Nat.{ℕ, zero, suc, ◌+◌, ◌≤◌, ◌<◌}
use native.Mathlib.Nat.{eq-or-lt_of_le}
use native.Mathlib.Omega.{arith}
use Rattle.meaning.specs.Reading.{Reading, Accepted, Refused}
use Rattle.meaning.specs.Order.{need, and_then, earliest}
use Rattle.meaning.proofs.Basics.{clear}
use Rattle.meaning.proofs.Orders.{contrary, came, refused_alike}

-- a line of the table at one place
pub record Line : Type 1 where
  pub number : ℕ
  pub place : ℕ
  pub due : Type 0

abbrev pub line : ℕ → ℕ → Type 0 → Line
line number place due = record { number = number; place = place; due = due }

-- the lines at place i, then those at place i + 1, and so on, n places
unfoldable pub each_from : (ℕ → List Line) → ℕ → ℕ → List Line
each_from lines i zero = []
each_from lines i (suc n) = lines i ++ each_from lines (suc i) n

-- the lines at each of n places, from place 0 on
abbrev pub each : ℕ → (ℕ → List Line) → List Line
each n lines = each_from lines 0 n

-- one pass after the other
unfoldable pub joined : List (List Line) → List Line
joined [] = []
joined (lines ∷ passes) = lines ++ joined passes

-- none of the lines is due
abbrev pub NoneDue : List Line → Type 0
NoneDue [] = Unit {0}
NoneDue (l ∷ ls) = (l.due → ⊥) × NoneDue ls

-- some line is due, and the first that is has this number and this place
abbrev pub FirstDue : ℕ → ℕ → List Line → Type 0
FirstDue number place [] = ⊥
FirstDue number place (l ∷ ls) =
    (l.due × (l.number ≡ number) × (l.place ≡ place)) ⊎ ((l.due → ⊥) × FirstDue number place ls)

-- a reading says what the lines say: accepted and none is due, or refused as the first that is due
pub record Says (x : Reading) (ls : List Line) : Type 0 where
  pub none : x ≡ Accepted → NoneDue ls
  pub first : (number place : ℕ) → x ≡ Refused number place → FirstDue number place ls

pub accepts : {ls : List Line} → NoneDue ls → Says Accepted ls
accepts n = record { none = λ e. n; first = λ a b e. absurd (contrary refl e) }

refuses : {ls : List Line} {number place : ℕ} → FirstDue number place ls → Says (Refused number place) ls
refuses {ls} f = record { none = λ e. absurd (contrary e refl); first = λ a b e. let s = refused_alike e in subst₂ (λ (x y : ℕ). FirstDue x y ls) s.0 s.1 f }

-- One line: its test fails exactly where it is due.
pub need-says : (t : Bool) {number place : ℕ} {due : Type 0} → (t ≡ true → due → ⊥) → (t ≡ false → due) → Says (need t number place) (line number place due ∷ [])
need-says true f g = accepts (f refl, tt)
need-says false f g = refuses (inl (g refl, refl, refl))

-- .. which for a line that is due where a condition is broken says that the test passes exactly where it is met
pub need-broken : (t : Bool) {number place : ℕ} {met : Type 0} → (t ≡ true) ↔ met → Says (need t number place) (line number place (met → ⊥) ∷ [])
need-broken t e = need-says t (λ y f. f (e.0 y)) (λ z m. clear (e.1 m) z)

-- Lines after lines: the later ones matter where none of the earlier ones is due.
none_then : (ls ms : List Line) → NoneDue ls → NoneDue ms → NoneDue (ls ++ ms)
none_then [] ms n m = m
none_then (l ∷ ls) ms n m = (n.0, none_then ls ms n.1 m)

first-later : (a b : ℕ) (ls ms : List Line) → NoneDue ls → FirstDue a b ms → FirstDue a b (ls ++ ms)
first-later a b [] ms n f = f
first-later a b (l ∷ ls) ms n f = inr (n.0, first-later a b ls ms n.1 f)

first_here : (a b : ℕ) (ls ms : List Line) → FirstDue a b ls → FirstDue a b (ls ++ ms)
first_here a b [] ms f = absurd f
first_here a b (l ∷ ls) ms (inl h) = inl h
first_here a b (l ∷ ls) ms (inr h) = inr (h.0, first_here a b ls ms h.1)

pub then_says : (x y : Reading) {ls ms : List Line} → Says x ls → (x ≡ Accepted → Says y ms) → Says (and_then x y) (ls ++ ms)
then_says Accepted y {ls} {ms} s f =
    let n = s.none refl in
    let later = f refl in
    record { none = λ e. none_then ls ms n (later.none e); first = λ a b e. first-later a b ls ms n (later.first a b e) }
then_says (Err why) y {ls} {ms} s f = refuses (first_here why.number why.place ls ms (s.first why.number why.place refl))

-- the lines of n places: those of a place matter where every earlier place is accepted
pub each-says : (f : ℕ → Reading) (lines : ℕ → List Line) (i n : ℕ)
    → ((j : ℕ) → i ≤ j → j < i + n → ((h : ℕ) → i ≤ h → h < j → f h ≡ Accepted) → Says (f j) (lines j))
    → Says (earliest f i n) (each_from lines i n)
unfolding earliest each_from
each-says f lines i zero s = accepts tt
each-says f lines i (suc n) s =
    then_says (f i) (earliest f (suc i) n) (s i (omega arith) (omega arith) (λ h a b. absurd (omega arith)))
    (λ e. each-says f lines (suc i) n (λ j a b p. s j (omega arith) (omega arith) (λ h c d. ⊎_elim (λ q. ap f (sym q) ∙ e) (λ l. p h l d) (eq-or-lt_of_le c))))

-- nothing more to be tested
pub last_says : (x : Reading) {ls : List Line} → Says x ls → Says (and_then x Accepted) ls
last_says Accepted s = s
last_says (Err why) s = s

-- a test of one place
pub one-says : (f : ℕ → Reading) {ls : List Line} → Says (f 0) ls → Says (earliest f 0 1) ls
unfolding earliest
one-says f s = last_says (f 0) s

-- What is said is the only thing that is: of the lines none is due, or one is the first.
none-or_first : (a b : ℕ) (ls : List Line) → NoneDue ls → FirstDue a b ls → ⊥
none-or_first a b [] n f = f
none-or_first a b (l ∷ ls) n (inl h) = n.0 h.0
none-or_first a b (l ∷ ls) n (inr h) = none-or_first a b ls n.1 h.1

one-first : (a b c d : ℕ) (ls : List Line) → FirstDue a b ls → FirstDue c d ls → (a ≡ c) × (b ≡ d)
one-first a b c d [] f g = absurd f
one-first a b c d (l ∷ ls) (inl f) (inl g) = (sym f.1 ∙ g.1, sym f.2 ∙ g.2)
one-first a b c d (l ∷ ls) (inl f) (inr g) = absurd (g.0 f.0)
one-first a b c d (l ∷ ls) (inr f) (inl g) = absurd (f.0 g.0)
one-first a b c d (l ∷ ls) (inr f) (inr g) = one-first a b c d ls f.1 g.1

-- THE LAW: accepted exactly where no line is due, and refused exactly as the first line that is due
pub accepted-exactly : (x : Reading) (ls : List Line) → Says x ls → (x ≡ Accepted) ↔ NoneDue ls
accepted-exactly x ls s = (s.none, λ n. ⊎_elim (λ e. e) (λ w. absurd (none-or_first w.0 w.1 ls n (s.first w.0 w.1 w.2))) (came x))

pub refused_exactly : (x : Reading) (ls : List Line) → Says x ls → (a b : ℕ) → (x ≡ Refused a b) ↔ FirstDue a b ls
refused_exactly x ls s a b = (
  s.first a b,
  λ f. ⊎_elim
      (λ e. absurd (none-or_first a b ls (s.none e) f))
      (λ w. let q = one-first w.0 w.1 a b ls (s.first w.0 w.1 w.2) f in w.2 ∙ ap₂ Refused q.0 q.1)
      (came x),
)
