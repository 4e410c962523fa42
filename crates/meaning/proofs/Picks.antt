-- Lists of numbers picked by a test: ascending, each once, with the members that pass, and how many.
use mathlib.Core.Path.{◌≡◌, refl, ap, sym, ◌∙◌, fun_ext}
use mathlib.Core.Logic.{⊎_elim}
use mathlib.Core.Bool.{Bool, true, false, ◌&&◌, ◌||◌, cond}
use mathlib.Core.List.{List, [], ◌∷◌}
use Prim.Native.Nat.{ℕ, zero, suc, ◌+◌, ◌-◌, ◌*◌, ◌≤◌, ◌<◌}
use native.Mathlib.Nat.{eq-or-lt_of_le}
use native.Mathlib.Omega.{arith}
use lib.Dec.{eqb}
use lib.ListN.{length, get_or}
use borrow.Author.Tests.{eqb-true, ne_eqb}
use Rattle.meaning.specs.Walk.{any, count, pick}
use Rattle.meaning.proofs.Basics.{went}
use Rattle.meaning.proofs.Walks.{NonePass}

-- each number is lower than the next one
abbrev pub Below : ℕ → List ℕ → Type 0
Below x [] = Unit {0}
Below x (y ∷ ys) = x < y

abbrev pub Ascending : List ℕ → Type 0
Ascending [] = Unit {0}
Ascending (x ∷ xs) = Below x xs × Ascending xs

-- d stands in the list, at a place
pub record In (ds : List ℕ) (d : ℕ) : Type 0 where
  pub index : ℕ
  pub inside : index < length ds
  pub there : get_or ds index 0 ≡ d

-- a step of a walk, by the test at i
module _ (f : ℕ → Bool) (i n : ℕ) where
  pub pick_yes : f i ≡ true → pick f i (suc n) ≡ i ∷ pick f (suc i) n
  unfolding pick
  pick_yes e = rw e

  pub pick_no : f i ≡ false → pick f i (suc n) ≡ pick f (suc i) n
  unfolding pick
  pick_no e = rw e

module _ (f : ℕ → Bool) where
  pick-below : (x i n : ℕ) → x < i → Below x (pick f i n)
  unfolding pick
  pick-below x i zero h = tt
  pick-below x i (suc n) h = ⊎_elim (λ e. rw e h) (λ e. rw e (pick-below x (suc i) n (omega arith))) (went (f i))

  pub pick-ascends : (i n : ℕ) → Ascending (pick f i n)
  unfolding pick
  pick-ascends i zero = tt
  pick-ascends i (suc n) =
      ⊎_elim (λ e. rw e (pick-below i (suc i) n (omega arith), pick-ascends (suc i) n)) (λ e. rw e (pick-ascends (suc i) n)) (went (f i))

  pub length_pick : (i n : ℕ) → length (pick f i n) ≡ count f i n
  unfolding pick count
  length_pick i zero = refl
  length_pick i (suc n) = ⊎_elim (λ e. rw e (ap suc (length_pick (suc i) n))) (λ e. rw e (length_pick (suc i) n)) (went (f i))

  -- a number of the list is one of those walked over, and passes
  pub record Picked (i n d : ℕ) : Type 0 where
    pub from : i ≤ d
    pub below : d < i + n
    pub passes : f d ≡ true

  wider : (i n d : ℕ) → Picked (suc i) n d → Picked i (suc n) d
  wider i n d p = record { from = omega (arith, p.from); below = omega (arith, p.below); passes = p.passes }

  pick_at : (i n k : ℕ) → k < length (pick f i n) → Picked i n (get_or (pick f i n) k 0)
  unfolding pick
  pick_at i zero k h = absurd (omega arith)
  pick_at i (suc n) k h =
      let rest : (m : ℕ) → m < length (pick f (suc i) n) → Picked (suc i) n (get_or (pick f (suc i) n) m 0) = pick_at (suc i) n in
      ⊎_elim (λ e. rw e (head e rest k (rw e at h))) (λ e. rw e (wider i n _ (rest k (rw e at h)))) (went (f i))
    where
      head : f i ≡ true → ((m : ℕ) → m < length (pick f (suc i) n) → Picked (suc i) n (get_or (pick f (suc i) n) m 0))
          → (k : ℕ) → k < length (i ∷ pick f (suc i) n) → Picked i (suc n) (get_or (i ∷ pick f (suc i) n) k 0)
      head e rest zero h = record { from = omega arith; below = omega arith; passes = e }
      head e rest (suc k) h = wider i n _ (rest k (omega arith))

  pub in_picked : (i n d : ℕ) → In (pick f i n) d → Picked i n d
  in_picked i n d w = rw w.there at (pick_at i n w.index w.inside)

  pub picked_in : (i n d : ℕ) → Picked i n d → In (pick f i n) d
  unfolding pick
  picked_in i zero d p = absurd (omega (arith, p.from, p.below))
  picked_in i (suc n) d p =
      ⊎_elim
      (λ e. let z : f i ≡ true = ap f e ∙ p.passes in rw z (record { index = 0; inside = omega arith; there = e }))
      (λ l. let w = picked_in (suc i) n d (record { from = l; below = omega (arith, p.below); passes = p.passes }) in
      ⊎_elim
      (λ z. rw z (record { index = suc w.index; inside = omega (arith, w.inside); there = w.there }))
      (λ z. rw z w)
      (went (f i)))
      (eq-or-lt_of_le p.from)

  -- numbers that do not pass can be walked past
  pub pick-skip : (i j n : ℕ) → i ≤ j → j ≤ i + n → NonePass f i (j - i) → pick f i n ≡ pick f j (i + n - j)
  pick-skip i j zero h l r =
      let e : i ≡ j = omega arith in
      let z : i + 0 - j ≡ 0 = omega arith in
      ap (λ x. pick f x 0) e ∙ sym (ap (pick f j) z)
  pick-skip i j (suc n) h l r =
      ⊎_elim
      (λ e. let z : i + suc n - j ≡ suc n = omega arith in ap (λ x. pick f x (suc n)) e ∙ sym (ap (pick f j) z))
      (λ lt.
      let m : suc i + n - j ≡ i + suc n - j = omega arith in
      let top : j ≤ suc i + n = omega arith in
      let rest : NonePass f (suc i) (j - suc i) = λ k a b. r k (omega arith) (omega arith) in
      pick_no f i n (r i (omega arith) (omega arith)) ∙ pick-skip (suc i) j n lt top rest ∙ ap (pick f j) m)
      (eq-or-lt_of_le h)

-- counts
module _ (f g : ℕ → Bool) where
  pub count-or : (i n : ℕ) → count (λ d. f d || g d) i n ≤ count f i n + count g i n
  unfolding count
  count-or i zero = omega arith
  count-or i (suc n) =
      step (f i) (g i) _ (count f (suc i) n) (count g (suc i) n) (count-or (suc i) n)
    where
      step : (a b : Bool) (x y z : ℕ) → x ≤ y + z → cond (a || b) (suc x) x ≤ cond a (suc y) y + cond b (suc z) z
      step true true x y z h = omega arith
      step true false x y z h = omega arith
      step false true x y z h = omega arith
      step false false x y z h = omega arith

count_past : (x i n : ℕ) → x < i → count (λ d. eqb x d) i n ≡ 0
unfolding count
count_past x i zero h = refl
count_past x i (suc n) h = let e : eqb x i ≡ false = ne_eqb x i (λ q. omega arith) in rw e (count_past x (suc i) n (omega arith))

-- one number equals x at most once
pub count-one : (x i n : ℕ) → count (λ d. eqb x d) i n ≤ 1
unfolding count
count-one x i zero = omega arith
count-one x i (suc n) =
    ⊎_elim
    (λ e. rw e (omega (arith, count_past x (suc i) n (omega (arith, eqb-true x i e)))))
    (λ e. rw e (count-one x (suc i) n))
    (went (eqb x i))

count-never : (i n : ℕ) → count (λ d. false) i n ≡ 0
unfolding count
count-never i zero = refl
count-never i (suc n) = count-never (suc i) n

cond_or : (a b : Bool) → cond a true b ≡ (a || b)
cond_or true b = refl
cond_or false b = refl

-- days on which one of m things that pass turns, each on two days at most, are two for each that passes
module _ (f : ℕ → Bool) (a b : ℕ → ℕ) where
  two-each : (j i n : ℕ) → count (λ d. f j && (eqb (a j) d || eqb (b j) d)) i n ≤ 2 * cond (f j) 1 0
  two-each j i n =
      ⊎_elim
      (λ e. rw e (omega (arith, count-or (λ d. eqb (a j) d) (λ d. eqb (b j) d) i n, count-one (a j) i n, count-one (b j) i n)))
      (λ e. rw e (omega (arith, count-never i n)))
      (went (f j))

  count-step : (j m : ℕ) → count f j (suc m) ≡ cond (f j) 1 0 + count f (suc j) m
  unfolding count
  count-step j m = ⊎_elim (λ e. rw e (omega arith)) (λ e. rw e (omega arith)) (went (f j))

  abbrev some_turn : ℕ → ℕ → ℕ → Bool
  some_turn j m d = any (λ k. f k && (eqb (a k) d || eqb (b k) d)) j m

  pub turn_days : (m j i n : ℕ) → count (some_turn j m) i n ≤ 2 * count f j m
  unfolding any
  turn_days zero j i n = omega (arith, count-never i n)
  turn_days (suc m) j i n =
      let p : ℕ → Bool = λ d. f j && (eqb (a j) d || eqb (b j) d) in
      let e : count (some_turn j (suc m)) i n ≡ count (λ d. p d || some_turn (suc j) m d) i n =
      ap (λ (h : ℕ → Bool). count h i n) (fun_ext (λ d. cond_or (p d) (some_turn (suc j) m d))) in
      omega (arith, e, count-or p (some_turn (suc j) m) i n, two-each j i n, turn_days m (suc j) i n, count-step j m)
