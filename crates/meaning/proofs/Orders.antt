-- Tests in their order: accepted where every test is at every place; what it is to be refused first, at the lowest place of the earliest test.
use Rattle.meaning.specs.declared.Refusal.{Refusal}
use Rattle.std.specs.Prelude.{Err}
use mathlib.Core.Path.{◌≡◌, refl, sym, ◌∙◌, ap}
use mathlib.Core.Logic.{◌⊎◌, inl, inr, ⊎_elim}
use mathlib.Core.Bool.{Bool, true, false}
use mathlib.Core.List.{List, [], ◌∷◌}
use Prim.Native.Nat.{ℕ, zero, suc, ◌+◌, ◌≤◌, ◌<◌}
use native.Mathlib.Nat.{eq-or-lt_of_le}
use native.Mathlib.Omega.{arith}
use Rattle.meaning.specs.Reading.{Reading, Accepted, Refused}
use Rattle.meaning.specs.Order.{need, and_then, earliest, Test, in_order}

-- nothing is both accepted and refused
pub contrary : {x : Reading} {k i : ℕ} → x ≡ Accepted → x ≡ Refused k i → ⊥
contrary p q = let z : ◌≡◌ {A = ℕ} 0 1 = cc in omega arith

-- a refusal tells its number and its place
pub refused_alike : {A : Type 0} {k i l j : ℕ} → Refused {A = A} k i ≡ Refused l j → (k ≡ l) × (i ≡ j)
refused_alike {A} {k} {i} {l} {j} e =
    let told : ◌≡◌ {A = Refusal} (record { number = k; place = i }) (record { number = l; place = j }) = cc in
    (ap (λ (r : Refusal). r.number) told, ap (λ (r : Refusal). r.place) told)

pub need-accepted : (t : Bool) (k i : ℕ) → need t k i ≡ Accepted → t ≡ true
need-accepted true k i e = refl
need-accepted false k i e = absurd (contrary e refl)

pub needed : (t : Bool) (k i : ℕ) → t ≡ true → need t k i ≡ Accepted
needed t k i e = rw e

pub then_accepted : (a b : Reading) → and_then a b ≡ Accepted → (a ≡ Accepted) × (b ≡ Accepted)
then_accepted Accepted b e = (refl, e)
then_accepted (Err why) b e = absurd (contrary e refl)

pub then_both : (a b : Reading) → a ≡ Accepted → b ≡ Accepted → and_then a b ≡ Accepted
then_both a b p q = rw p q

-- one of two, and so on for a reading
pub came : (a : Reading) → (a ≡ Accepted) ⊎ ((k : ℕ) × (i : ℕ) × (a ≡ Refused k i))
came Accepted = inl refl
came (Err why) = inr (why.number, why.place, refl)

-- accepted at each of the places i, i + 1, .., n of them
abbrev pub All : (ℕ → Reading) → ℕ → ℕ → Type 0
All f i n = (j : ℕ) → i ≤ j → j < i + n → f j ≡ Accepted

-- refused with k and p at a place j, and accepted at all before it
pub record Lowest (f : ℕ → Reading) (i n k p : ℕ) : Type 0 where
  pub spot : ℕ
  pub from : i ≤ spot
  pub below : spot < i + n
  pub refused : f spot ≡ Refused k p
  pub before : (j : ℕ) → i ≤ j → j < spot → f j ≡ Accepted

module _ (f : ℕ → Reading) where
  pub earliest-all : (i n : ℕ) → earliest f i n ≡ Accepted → All f i n
  unfolding earliest
  earliest-all i zero e = λ j a b. absurd (omega arith)
  earliest-all i (suc n) e =
      let t = then_accepted (f i) (earliest f (suc i) n) e in
      let rest = earliest-all (suc i) n t.1 in
      λ j a b. ⊎_elim (λ p. ap f (sym p) ∙ t.0) (λ lt. rest j lt (omega arith)) (eq-or-lt_of_le a)

  pub all-earliest : (i n : ℕ) → All f i n → earliest f i n ≡ Accepted
  unfolding earliest
  all-earliest i zero h = refl
  all-earliest i (suc n) h =
      then_both (f i) (earliest f (suc i) n) (h i (omega arith) (omega arith)) (all-earliest (suc i) n (λ j a b. h j (omega arith) (omega arith)))

-- a test is accepted at all its places
abbrev pub Passed : Test → Type 0
Passed t = (j : ℕ) → j < t.places → t.at j ≡ Accepted

-- the refusal k at p comes from the first test of the list that refuses at all, and there from its lowest place
pub data Earliest (k p : ℕ) : List Test → Type 0 where
  here : (t : Test) (ts : List Test) → Lowest t.at 0 t.places k p → Earliest k p (t ∷ ts)
  later : (t : Test) (ts : List Test) → Passed t → Earliest k p ts → Earliest k p (t ∷ ts)

abbrev pub AllPassed : List Test → Type 0
AllPassed [] = Unit {0}
AllPassed (t ∷ ts) = Passed t × AllPassed ts

passed : (t : Test) → earliest t.at 0 t.places ≡ Accepted → Passed t
passed t e j h = earliest-all t.at 0 t.places e j (omega arith) (omega arith)

pub order-passed : (ts : List Test) → in_order ts ≡ Accepted → AllPassed ts
unfolding in_order
order-passed [] e = tt
order-passed (t ∷ ts) e =
    let w = then_accepted (earliest t.at 0 t.places) (in_order ts) e in
    (passed t w.0, order-passed ts w.1)

pub passed-order : (ts : List Test) → AllPassed ts → in_order ts ≡ Accepted
unfolding in_order
passed-order [] h = refl
passed-order (t ∷ ts) h =
    then_both (earliest t.at 0 t.places) (in_order ts) (all-earliest t.at 0 t.places (λ j a b. h.0 j (omega arith))) (passed-order ts h.1)
