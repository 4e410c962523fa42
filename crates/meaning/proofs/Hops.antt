-- The change days by hops from one to the next: the same list, computed in as many steps as it has days.
use mathlib.Core.Path.{◌≡◌, refl, ap, sym, ◌∙◌, fun_ext}
use mathlib.Core.Logic.{⊎_elim, ◌⊎◌, inl, inr}
use mathlib.Core.Bool.{Bool, true, false, ◌&&◌, ◌||◌, cond}
use mathlib.Core.List.{List, [], ◌∷◌}
use Prim.Native.Nat.{ℕ, zero, suc, ◌+◌, ◌-◌, ◌≤◌, ◌<◌}
use native.Mathlib.Omega.{arith}
use lib.Dec.{eqb, ltb}
use borrow.Author.Tests.{ne_eqb, lt-ltb, le-ltb}
use Rattle.meaning.specs.declared.Rule.{Rule}
use Rattle.meaning.specs.Walk.{any, pick}
use Rattle.meaning.specs.Document.{Doc}
use Rattle.meaning.specs.Select.{reads}
use Rattle.meaning.specs.Day.{turns, is_change, change_days}
use Rattle.meaning.proofs.Basics.{went, le_or_lt}
use Rattle.meaning.proofs.Picks.{pick_yes, pick_no, pick-skip}
use Rattle.meaning.proofs.Walks.{NonePass}
use Rattle.meaning.proofs.Changes.{days}

unfoldable pub elem : ℕ → List ℕ → Bool
elem d [] = false
elem d (x ∷ xs) = eqb x d || elem d xs

-- x if it lies after d and before m, else m
unfoldable pub nearer : ℕ → ℕ → ℕ → ℕ
nearer d x m = cond (ltb d x && ltb x m) x m

-- the nearest day of the list after d, or m if none lies before it
unfoldable pub next_in : List ℕ → ℕ → ℕ → ℕ
next_in [] d m = m
next_in (x ∷ xs) d m = next_in xs d (nearer d x m)

-- the days from d on, before m, that pass c, looking only at d and at the days of the list
unfoldable pub hops : (ℕ → Bool) → List ℕ → ℕ → ℕ → ℕ → List ℕ
hops c xs m zero d = []
hops c xs m (suc n) d =
    let rest = hops c xs m n (next_in xs d m) in
    let here = cond (c d) (d ∷ rest) rest in
    cond (ltb d m) here []

nearer_cases : (d x m : ℕ) → ((d < x) × (x < m) × (nearer d x m ≡ x)) ⊎ ((d < x → m ≤ x) × (nearer d x m ≡ m))
unfolding nearer
nearer_cases d x m =
    ⊎_elim
    (λ h. inr (λ l. absurd (omega arith), rw (le-ltb d x h)))
    (λ h. ⊎_elim (λ k. inr (λ l. k, rw (lt-ltb d x h, le-ltb x m k))) (λ k. inl (h, k, rw (lt-ltb d x h, lt-ltb x m k))) (le_or_lt m x))
    (le_or_lt x d)

next-by : (xs : List ℕ) (d m : ℕ) → next_in xs d m ≤ m
unfolding next_in
next-by [] d m = omega arith
next-by (x ∷ xs) d m = let h = next-by xs d (nearer d x m) in ⊎_elim (λ w. omega (arith, w.2)) (λ w. omega (arith, w.1)) (nearer_cases d x m)

next-after : (xs : List ℕ) (d m : ℕ) → d < m → d < next_in xs d m
unfolding next_in
next-after [] d m h = h
next-after (x ∷ xs) d m h = next-after xs d (nearer d x m) (⊎_elim (λ w. omega (arith, w.2)) (λ w. omega (arith, w.1)) (nearer_cases d x m))

-- no day of the list lies between
next-none : (xs : List ℕ) (d m k : ℕ) → d < k → k < next_in xs d m → elem k xs ≡ false
unfolding next_in elem
next-none [] d m k h l = refl
next-none (x ∷ xs) d m k h l =
    let ne : x ≡ k → ⊥ = λ e. ⊎_elim (λ w. omega (arith, w.2, next-by xs d (nearer d x m))) (λ w. omega (arith, w.0 (omega arith), next-by (x ∷ xs) d m)) (nearer_cases d x m) in
    rw (ne_eqb x k ne, next-none xs d (nearer d x m) k h l)

module _ (c : ℕ → Bool) (xs : List ℕ) (m : ℕ) where
  pick-nothing : (d k : ℕ) → k ≡ 0 → pick c d k ≡ []
  unfolding pick
  pick-nothing d k e = rw e

  -- one day, then on to the next of the list
  one-hop : (d : ℕ) → d < m → ((k : ℕ) → d < k → elem k xs ≡ false → c k ≡ false)
      → pick c d (m - d) ≡ cond (c d) (d ∷ pick c (next_in xs d m) (m - next_in xs d m)) (pick c (next_in xs d m) (m - next_in xs d m))
  one-hop d h quiet =
      let j : ℕ = next_in xs d m in
      let up : d < j = next-after xs d m h in
      let top : j ≤ m = next-by xs d m in
      let n : ℕ = m - suc d in
      let e : m - d ≡ suc n = omega arith in
      let f : suc d + n - j ≡ m - j = omega arith in
      let none : NonePass c (suc d) (j - suc d) = λ k a b. quiet k (omega arith) (next-none xs d m k (omega arith) (omega arith)) in
      let rest : pick c (suc d) n ≡ pick c j (m - j) = pick-skip c (suc d) j n (omega arith) (omega arith) none ∙ ap (pick c j) f in
      ap (pick c d) e
      ∙ ⊎_elim
      (λ y. rw y (pick_yes c d n y ∙ ap (λ l. d ∷ l) rest))
      (λ z. rw z (pick_no c d n z ∙ rest))
      (went (c d))

  -- past day s, only days of the list pass
  pub picked_hops : (n s d : ℕ) → ((k : ℕ) → s < k → elem k xs ≡ false → c k ≡ false) → s ≤ d → m - d ≤ n → pick c d (m - d) ≡ hops c xs m n d
  unfolding hops
  picked_hops zero s d h a b = pick-nothing d (m - d) (omega arith)
  picked_hops (suc n) s d h a b =
      ⊎_elim
      (λ past. rw (le-ltb d m past) (pick-nothing d (m - d) (omega arith)))
      (λ l.
      rw (lt-ltb d m l)
      (one-hop d l (λ k x y. h k (omega arith) y)
      ∙ ap (λ (rest : List ℕ). cond (c d) (d ∷ rest) rest)
      (picked_hops n s (next_in xs d m) h (omega (arith, next-after xs d m l)) (omega (arith, next-after xs d m l, next-by xs d m)))))
      (le_or_lt m d)

-- the days on which the versions read among n records from i on begin and end
unfoldable pub marks : Doc → Rule → Rule → ℕ → ℕ → List ℕ
marks doc q r i zero = []
marks doc q r i (suc n) = let rest = marks doc q r (suc i) n in cond (reads doc q r i) (doc.begin i ∷ doc.end i ∷ rest) rest

module _ (doc : Doc) (q r : Rule) where
  marked : (d i n : ℕ) → elem d (marks doc q r i n) ≡ any (λ j. reads doc q r j && turns doc d j) i n
  unfolding marks elem any
  marked d i zero = refl
  marked d i (suc n) = ⊎_elim (λ y. rw y (turn d i _ _ (marked d (suc i) n))) (λ z. rw z (marked d (suc i) n)) (went (reads doc q r i))
    where
      turn : (d i : ℕ) (x y : Bool) → x ≡ y → eqb (doc.begin i) d || (eqb (doc.end i) d || x) ≡ cond (turns doc d i) true y
      turn d i x y e = join (eqb (doc.begin i) d) (eqb (doc.end i) d)
        where
          join : (a b : Bool) → a || (b || x) ≡ cond (a || b) true y
          join true b = refl
          join false true = refl
          join false false = e

  -- what passes, by the marks
  unfoldable pub change_by : List ℕ → ℕ → Bool
  change_by xs d = eqb r.begin d || elem d xs

  pub change-by : is_change doc q r ≡ change_by (marks doc q r 0 doc.size)
  unfolding is_change change_by
  change-by = fun_ext (λ d. ap (λ b. eqb r.begin d || b) (sym (marked d 0 doc.size)))

  -- the change days, found by hops
  unfoldable pub hop_days : List ℕ → List ℕ
  hop_days xs = hops (change_by xs) xs r.end (days r) r.begin

  pub days_by_hops : change_days doc q r ≡ hop_days (marks doc q r 0 doc.size)
  unfolding change_days hop_days change_by
  days_by_hops =
      ap (λ c. pick c r.begin (days r)) change-by
      ∙ picked_hops (change_by xs) xs r.end (days r) r.begin r.begin only (omega arith) (omega arith)
    where
      xs : List ℕ
      xs = marks doc q r 0 doc.size

      only : (k : ℕ) → r.begin < k → elem k xs ≡ false → change_by xs k ≡ false
      only k h e = rw (ne_eqb r.begin k (λ q. omega arith), e)
