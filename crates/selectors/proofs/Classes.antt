-- Names compared class by class: what comes of the lines on the whole is the lowest of what comes of them in each class.
use mathlib.Core.Path.{◌≡◌, refl, ◌∙◌}
use mathlib.Core.Logic.{⊎_elim}
use mathlib.Core.Bool.{Bool, true, false, ◌&&◌, ◌||◌, not}
use mathlib.Core.List.{List, []}
use Prim.Native.Nat.{ℕ, suc, ◌+◌, ◌%◌, ◌≤◌, ◌<◌}
use native.Mathlib.Nat.{mod-lt}
use native.Mathlib.Omega.{arith}
use borrow.Author.Tests.{ltb-true, eqb-true, lt-ltb, le-ltb, eq-eqb, not-true, not-false}
use lib.Dec.{eqb, ltb}
use lib.ListN.{take}
use Rattle.meaning.specs.Walk.{first, on_found, Found}
use Rattle.meaning.proofs.Basics.{went, le_or_lt, tests_same, or_cases, or_l, or_r}
use Rattle.meaning.proofs.Walks.{first-at, first-none, first-nothing, first_found, first-same}
use Rattle.std.specs.Prelude.{Result, Ok, Err, Some, None}
use Rattle.typed.specs.declared.BadLine.{BadLine}
use Rattle.selectors.specs.Parts.{parts, same}
use Rattle.selectors.specs.Dictionary.{is_entry, name_of, ended, line_of, has, good_line, first_bad_line}
use Rattle.selectors.specs.Lining.{of_class, again, good_for, bad_at, checked_by, checked_for, lower, checked}
use Rattle.selectors.specs.Sieve.{key_of}

module _ {a b : Result ℕ BadLine} {i : BadLine} (e : a ≡ Err i) where
  -- a bad line is lower than none
  pub lower-lone : {n : ℕ} → b ≡ Ok n → Err i ≡ lower a b
  lower-lone f = rw e (rw f)

  -- the lower of two is the first, where it is below the second
  pub lower-less : {j : BadLine} → b ≡ Err j → i.line < j.line → Err i ≡ lower a b
  lower-less {j} f l = rw e (rw f (rw (lt-ltb i.line j.line l)))

  -- it is the second, where the first is not below it
  pub lower-more : {j : BadLine} → b ≡ Err j → j.line ≤ i.line → Err j ≡ lower a b
  lower-more {j} f l = rw e (rw f (rw (le-ltb i.line j.line l)))

-- h passes what both f and g pass
module _ (f g h : ℕ → Bool) (n : ℕ) (Each-both : (k : ℕ) → h k ≡ (f k && g k)) where
  -- what passes both passes
  good_both : (k : ℕ) → not (f k) ≡ false → not (g k) ≡ false → not (h k) ≡ false
  good_both k a b = rw (Each-both k, not-false (f k) a, not-false (g k) b)

  -- what does not pass the first does not
  bad-first : (k : ℕ) → not (f k) ≡ true → not (h k) ≡ true
  bad-first k a = rw (Each-both k, not-true (f k) a)

  -- what does not pass the second does not
  bad-second : (k : ℕ) → not (g k) ≡ true → not (h k) ≡ true
  bad-second k b = ⊎_elim (λ y. rw (Each-both k) (rw y (rw (not-true (g k) b)))) (λ o. rw (Each-both k) (rw o)) (went (f k))

  -- line k is what comes of the lines, where those above it pass both
  lowest : (k : ℕ) → k < suc n → not (h k) ≡ true → ((j : ℕ) → j < k → not (f j) ≡ false) → ((j : ℕ) → j < k → not (g j) ≡ false) → bad_at k ≡ checked_by h n
  unfolding checked_by
  lowest k l b p q = rw (first-at (λ j. not (h j)) k 0 (suc n) (omega arith) (omega arith) b (λ j a z. good_both j (p j z) (q j z)))

  -- the lower of what each walk finds is what the walk of both finds
  lower-found :
      (a b : Found) → first (λ k. not (f k)) 0 (suc n) ≡ a → first (λ k. not (g k)) 0 (suc n) ≡ b
      → lower (on_found a bad_at (Ok n)) (on_found b bad_at (Ok n)) ≡ checked_by h n
  unfolding checked_by
  lower-found None None s t =
      let p = first-nothing (λ k. not (f k)) 0 (suc n) s in
      let q = first-nothing (λ k. not (g k)) 0 (suc n) t in
      rw (first-none (λ j. not (h j)) 0 (suc n) (λ k a z. good_both k (p k a z) (q k a z)))
  lower-found None (Some j) s t =
      let p = first-nothing (λ k. not (f k)) 0 (suc n) s in
      let q = first_found (λ k. not (g k)) 0 (suc n) j t in
      let l : j < suc n = omega (arith, q.below) in
      lowest j l (bad-second j q.passes) (λ k z. p k (omega arith) (omega arith)) (λ k z. q.before k (omega arith) z)
  lower-found (Some i) None s t =
      let p = first_found (λ k. not (f k)) 0 (suc n) i s in
      let q = first-nothing (λ k. not (g k)) 0 (suc n) t in
      let l : i < suc n = omega (arith, p.below) in
      lowest i l (bad-first i p.passes) (λ k z. p.before k (omega arith) z) (λ k z. q k (omega arith) (omega arith))
  lower-found (Some i) (Some j) s t =
      let p = first_found (λ k. not (f k)) 0 (suc n) i s in
      let q = first_found (λ k. not (g k)) 0 (suc n) j t in
      ⊎_elim
      (λ le. rw (le-ltb i j le) (lowest j (omega (arith, q.below)) (bad-second j q.passes) (λ k z. p.before k (omega arith) (omega arith)) (λ k z. q.before k (omega arith) z)))
      (λ lt. rw (lt-ltb i j lt) (lowest i (omega (arith, p.below)) (bad-first i p.passes) (λ k z. p.before k (omega arith) z) (λ k z. q.before k (omega arith) (omega arith))))
      (le_or_lt j i)

  -- the lower of what comes of the lines by each is what comes of them by both
  lower-both : lower (checked_by f n) (checked_by g n) ≡ checked_by h n
  unfolding checked_by
  lower-both = lower-found (first (λ k. not (f k)) 0 (suc n)) (first (λ k. not (g k)) 0 (suc n)) refl refl

-- a line is an entry and not told by either test exactly where it is one and not told by the first, and one and not told by the second
told-both : (e p q h : Bool) → e && not ((p || q) && h) ≡ (e && not (p && h) && (e && not (q && h)))
told-both false p q h = refl
told-both true false q h = refl
told-both true true q true = refl
told-both true true true false = refl
told-both true true false false = refl

module _ (p q : ℕ → Bool) (d : List ℕ) where
  -- a line is good for keys that pass either exactly where it is good for both
  good_either : (r : ℕ → Bool) → ((key : ℕ) → r key ≡ (p key || q key)) → (k : ℕ) → good_for r d k ≡ (good_for p d k && good_for q d k)
  unfolding good_for again
  good_either r e k =
      let key = key_of (name_of (line_of d k)) in
      let above = has (take k (parts 10 d)) (name_of (line_of d k)) in
      ⊎_elim
      (λ y. rw (e key) (rw y (told-both (is_entry (line_of d k)) (p key) (q key) above)))
      (λ o. rw o (twice (same (line_of d k) [])))
      (went (ltb k (ended d)))
    where
      twice : (t : Bool) → t ≡ (t && t)
      twice true = refl
      twice false = refl

  -- where keys pass that pass either, the lower of what comes of the lines for each comes of them
  lower-either : (r : ℕ → Bool) → ((key : ℕ) → r key ≡ (p key || q key)) → lower (checked_for p d) (checked_for q d) ≡ checked_for r d
  unfolding checked_for
  lower-either r e = lower-both (good_for p d) (good_for q d) (good_for r d) (ended d) (good_either r e)

  -- where the same keys pass, the same comes of the lines
  for_same : ((key : ℕ) → p key ≡ q key) → checked_for p d ≡ checked_for q d
  unfolding checked_for checked_by good_for again
  for_same e = rw (first-same (λ k. not (good_for p d k)) (λ k. not (good_for q d k)) 0 (suc (ended d)) (λ k a b. rw (e (key_of (name_of (line_of d k))))))

-- where all keys pass, the same comes of the lines as by the meaning
for_all : (p : ℕ → Bool) (d : List ℕ) → ((key : ℕ) → p key ≡ true) → checked_for p d ≡ checked d
unfolding checked_for checked_by good_for again checked first_bad_line good_line
for_all p d e = rw (first-same (λ k. not (good_for p d k)) (λ k. not (good_line d k)) 0 (suc (ended d)) (λ k a b. rw (e (key_of (name_of (line_of d k))))))

-- a key is of a class below c
unfoldable pub below : ℕ → ℕ → ℕ → Bool
below c classes key = ltb (key % classes) c

-- what comes of the first class comes of those below 1
pub class-first : (classes : ℕ) (d : List ℕ) {r : Result ℕ BadLine} → r ≡ checked_for (of_class 0 classes) d → r ≡ checked_for (below 1 classes) d
unfolding of_class below
class-first classes d e =
    e ∙ for_same (of_class 0 classes) (below 1 classes) d (λ key. first-class (key % classes))
  where
    first-class : (x : ℕ) → eqb x 0 ≡ ltb x 1
    first-class x =
        tests_same (eqb x 0) (ltb x 1) (λ y. lt-ltb x 1 (omega (arith, eqb-true x 0 y))) (λ y. eq-eqb x 0 (omega (arith, ltb-true x 1 y)))

-- with one class more, the lower of what came of those below it and of itself comes of them
pub class-next :
    (c classes : ℕ) (d : List ℕ) {a b r : Result ℕ BadLine} → a ≡ checked_for (below c classes) d → b ≡ checked_for (of_class c classes) d → r ≡ lower a b
    → r ≡ checked_for (below (c + 1) classes) d
unfolding of_class below
class-next c classes d {a} {b} {r} ea eb er =
    let both : r ≡ lower (checked_for (below c classes) d) (checked_for (of_class c classes) d) = rw (← ea, ← eb) er in
    both ∙ lower-either (below c classes) (of_class c classes) d (below (c + 1) classes) (λ key. next-class (key % classes))
  where
    next-class : (x : ℕ) → ltb x (c + 1) ≡ (ltb x c || eqb x c)
    next-class x =
        let old = ltb x c in
        let new = eqb x c in
        tests_same (ltb x (c + 1)) (old || new)
        (λ y. ⊎_elim (λ le. or_r old new (eq-eqb x c (omega (arith, ltb-true x (c + 1) y)))) (λ lt. or_l old new (lt-ltb x c lt)) (le_or_lt c x))
        (λ y. lt-ltb x (c + 1) (⊎_elim (λ t. omega (arith, ltb-true x c t)) (λ t. omega (arith, eqb-true x c t)) (or_cases old new y)))

-- where all classes are below, what came of them is what comes of all lines
pub class-last : (c classes : ℕ) (d : List ℕ) {r : Result ℕ BadLine} → 0 < classes → classes ≤ c → r ≡ checked_for (below c classes) d → r ≡ checked d
unfolding below
class-last c classes d some all e =
    e ∙ for_all (below c classes) d (λ key. let l = mod-lt key {m = classes} some in lt-ltb (key % classes) c (omega arith))
