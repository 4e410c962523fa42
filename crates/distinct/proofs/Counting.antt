-- The values of a key that are present at a place are as many as the records of it that count there.
use mathlib.Core.Path.{◌≡◌, refl, sym, ◌∙◌, ap}
use mathlib.Core.Bool.{Bool, true, ◌&&◌, not}
use mathlib.Core.Logic.{⊎_elim}
use mathlib.Core.List.{List}
use Prim.Native.Nat.{ℕ, zero, suc, ◌+◌, ◌≤◌, ◌<◌}
use native.Mathlib.Omega.{arith}
use lib.Dec.{eqb}
use borrow.Author.Tests.{not-true}
use Rattle.meaning.specs.Block.{limit}
use Rattle.meaning.specs.Walk.{any, count}
use Rattle.meaning.proofs.Basics.{went, clear, never, and_l, and_r, both, le_or_lt}
use Rattle.meaning.proofs.Says.{says}
use Rattle.meaning.proofs.Walks.{any-true, any_false}
use Rattle.crowds.specs.Crowds.{at, keyed_at, present, ByMany, Ordered}
use Rattle.crowds.proofs.Counts.{count-mono, count-strict}
use Rattle.distinct.specs.Classes.{Pairs}
use Rattle.distinct.specs.Shifts.{CountsOnce, Unmoved}
use Rattle.distinct.specs.Values.{lowest_at, values, ByManyValues}

-- a number below m of class c that passes
pub record Image (Q : ℕ → Bool) (C : ℕ → ℕ) (m c : ℕ) : Type 0 where
  pub who : ℕ
  pub here : who < m
  pub passes : Q who ≡ true
  pub class : C who ≡ c

-- where each number that passes the one test has one of its class that passes the other, and no two that pass the one are of one class, no more pass the one
pub count-into : (P : ℕ → Bool) (C : ℕ → ℕ) (m i n : ℕ) (Q : ℕ → Bool) →
    ((x : ℕ) → i ≤ x → x < i + n → P x ≡ true → Image Q C m (C x)) →
    ((x y : ℕ) → i ≤ x → x < y → y < i + n → P x ≡ true → P y ≡ true → C x ≡ C y → ⊥) → count P i n ≤ count Q 0 m
unfolding count
count-into P C m i zero Q f g = omega arith
count-into P C m i (suc n) Q f g =
    ⊎_elim
    (λ yes'.
    let w = f i (omega arith) (omega arith) yes' in
    let y = w.who in
    let Q' : ℕ → Bool = λ z. Q z && not (eqb z y) in
    let less = count-strict Q' Q y 0 m (omega arith) (omega (arith, w.here))
    (never (Q' y) (λ t. (simp says at t).1 refl)) w.passes (λ z a b t. (simp says at t).0) in
    let rest = count-into P C m (suc i) n Q'
    (λ x a b e.
    let v = f x (omega arith) (omega arith) e in
    record {
      who = v.who;
      here = v.here;
      passes = simp says (v.passes, λ q. g i x (omega arith) (omega arith) (omega arith) yes' e (sym w.class ∙ ap C (sym q) ∙ v.class));
      class = v.class;
    })
    (λ x z a l b. g x z (omega arith) l (omega arith)) in
    rw yes' (omega arith))
    (λ no'. rw no' (count-into P C m (suc i) n Q (λ x a b. f x (omega arith) (omega arith)) (λ x z a l b. g x z (omega arith) l (omega arith))))
    (went (P i))

module _ (keys reps lo hi pairs first : List ℕ) (n : ℕ) (few : n ≤ limit) (pr : Pairs keys reps n pairs) (c : CountsOnce pairs lo hi n first) (k p : ℕ) (kn : k < n) where
  -- a record that has a class has a key
  has_key : (x : ℕ) → x < n → at pairs x < n → at keys x < n
  has_key x h l = ⊎_elim (λ r. absurd (omega (arith, pr.none x h r))) (λ r. r) (le_or_lt n (at keys x))

  -- each lowest one of a value has one that counts
  counted-for : (x : ℕ) → x < n → lowest_at keys reps lo hi k p x ≡ true → Image (keyed_at keys first hi k p) (at pairs) n (at pairs x)
  counted-for x h t =
      let w = (simp says at t).0 in
      let low = pr.low x h (omega arith) in
      let v = c.some x p h low w.1.0 w.1.1 in
      let key = has_key v.who v.here (omega (arith, v.class)) in
      record {
        who = v.who;
        here = v.here;
        passes = simp says (pr.one_key v.who x v.here h key (omega arith) v.class ∙ w.0, (v.from, v.to));
        class = v.class;
      }

  -- the record tests of a place: the key, and a lower record of the same value
  lower : ℕ → ℕ → Bool
  lower y g = eqb (at reps y) (at reps g) && keyed_at keys lo hi k p g

  key-is : (y : ℕ) → keyed_at keys lo hi k p y ≡ true → at keys y ≡ k
  key-is y t = (simp says at t).0

  -- and two lowest ones have not one class
  lowest-apart : (x y : ℕ) → x < y → y < n → lowest_at keys reps lo hi k p x ≡ true → lowest_at keys reps lo hi k p y ≡ true → at pairs x ≡ at pairs y → ⊥
  unfolding lower
  lowest-apart x y l h s t e =
      let a = and_l (keyed_at keys lo hi k p x) (not (any (lower x) 0 x)) s in
      let b = and_l (keyed_at keys lo hi k p y) (not (any (lower y) 0 y)) t in
      let none = any_false (lower y) 0 y (not-true (any (lower y) 0 y) (and_r (keyed_at keys lo hi k p y) (not (any (lower y) 0 y)) t)) in
      let one = pr.one_rep x y (omega arith) h (omega (arith, key-is x a)) (omega (arith, key-is y b)) e in
      clear (both (eqb (at reps y) (at reps x)) (keyed_at keys lo hi k p x) (simp says (sym one)) a) (none x (omega arith) (omega arith))

  -- each record that counts has a lowest one
  lowest-for : (t x : ℕ) → x < t → x < n → keyed_at keys lo hi k p x ≡ true → Image (lowest_at keys reps lo hi k p) (at pairs) n (at pairs x)
  unfolding lower
  lowest-for zero x h l e = absurd (omega arith)
  lowest-for (suc t) x h l e =
      ⊎_elim
      (λ y.
      let a = any-true (lower x) 0 x y in
      let g = a.0 in
      let less : g < x = omega (arith, a.1.below) in
      let one : at reps x ≡ at reps g = simp says at (and_l (eqb (at reps x) (at reps g)) (keyed_at keys lo hi k p g) a.1.passes) in
      let here = and_r (eqb (at reps x) (at reps g)) (keyed_at keys lo hi k p g) a.1.passes in
      let v = lowest-for t g (omega arith) (omega arith) here in
      let same = pr.same g x (omega arith) l (omega (arith, key-is g here)) (key-is g here ∙ sym (key-is x e)) (sym one) in
      record { who = v.who; here = v.here; passes = v.passes; class = v.class ∙ same })
      (λ z. record { who = x; here = l; passes = both (keyed_at keys lo hi k p x) (not (any (lower x) 0 x)) e (ap not z); class = refl })
      (went (any (lower x) 0 x))

  -- two that count have not one class
  counted-apart : (x y : ℕ) → x < y → y < n → keyed_at keys first hi k p x ≡ true → keyed_at keys first hi k p y ≡ true → at pairs x ≡ at pairs y → ⊥
  counted-apart x y l h s t e =
      let v = simp says at s in
      let w = simp says at t in
      let q = c.once x y p (omega arith) h (pr.low x (omega arith) (omega arith)) e v.1.0 v.1.1 w.1.0 w.1.1 in
      omega arith

  -- a record that counts is present
  counted-present : (x : ℕ) → x < n → keyed_at keys first hi k p x ≡ true → keyed_at keys lo hi k p x ≡ true
  counted-present x h t =
      let w = simp says at t in
      let sooner = c.no_sooner x h (pr.low x h (omega arith)) in
      simp says (w.0, (omega (arith, w.1.0), w.1.1))

  -- as many values are present as records count
  pub values-counted : values keys reps lo hi n k p ≡ present keys first hi n k p
  values-counted =
      let most = count-into (lowest_at keys reps lo hi k p) (at pairs) n 0 n (keyed_at keys first hi k p)
      (λ x a b. counted-for x (omega arith)) (λ x y a l b. lowest-apart x y l (omega arith)) in
      let least = count-into (keyed_at keys first hi k p) (at pairs) n 0 n (lowest_at keys reps lo hi k p)
      (λ x a b t. lowest-for (suc x) x (omega arith) (omega arith) (counted-present x (omega arith) t)) (λ x y a l b. counted-apart x y l (omega arith)) in
      omega arith

-- so where no place before D has more records that count, none has more values
pub values-by : (keys reps lo hi pairs first : List ℕ) (n : ℕ) → n ≤ limit → Pairs keys reps n pairs → CountsOnce pairs lo hi n first → (most D : ℕ)
    → ByMany keys first hi n most D → ByManyValues keys reps lo hi n most D
unfolding ByMany ByManyValues
values-by keys reps lo hi pairs first n few pr c most D b k p h more = b k p h (omega (arith, values-counted keys reps lo hi pairs first n few pr c k p h))

-- nor where none has more records present
pub values-present : (keys reps lo hi : List ℕ) (n most D : ℕ) → ByMany keys lo hi n most D → ByManyValues keys reps lo hi n most D
unfolding ByMany ByManyValues
values-present keys reps lo hi n most D b k p h more =
    b k p h
    (omega (
      arith,
      count-mono (lowest_at keys reps lo hi k p) (keyed_at keys lo hi k p) 0 n
          (λ y i j t. and_l (keyed_at keys lo hi k p y) (not (any (λ g. eqb (at reps y) (at reps g) && keyed_at keys lo hi k p g) 0 y)) t),
    ))

-- those that have a class are among those that have a key, so an order of these is one of them
pub pairs_ordered : (order lo keys reps pairs : List ℕ) (n : ℕ) → n ≤ limit → Pairs keys reps n pairs → Ordered order lo keys n → Ordered order lo pairs n
pairs_ordered order lo keys reps pairs n few pr o =
    record {
      covered = o.covered;
      place = o.place;
      all = λ y h l. o.all y h (⊎_elim (λ r. absurd (omega (arith, pr.none y h r))) (λ r. r) (le_or_lt n (at keys y)));
      once = o.once;
      rising = o.rising;
    }

-- where none is moved the order serves
pub unmoved_ordered : (order lo first keys : List ℕ) (n : ℕ) → Unmoved order lo first → Ordered order lo keys n → Ordered order first keys n
unmoved_ordered order lo first keys n u o =
    record {
      covered = o.covered;
      place = o.place;
      all = o.all;
      once = o.once;
      rising = λ i j h l. omega (arith, u.same i (omega arith), u.same j l, o.rising i j h l);
    }

-- an earlier place serves as well
pub values-earlier : (keys reps lo hi : List ℕ) (n most : ℕ) {D E : ℕ} → E ≤ D → ByManyValues keys reps lo hi n most D → ByManyValues keys reps lo hi n most E
unfolding ByManyValues
values-earlier keys reps lo hi n most h b k p l more = omega (arith, b k p l more)
