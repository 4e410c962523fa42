-- The next number that passes: how a loop comes to it, and what lies before it.
use mathlib.Core.Path.{◌≡◌, refl, ap, ◌∙◌}
use mathlib.Core.Bool.{Bool, true, false}
use Prim.Native.Nat.{ℕ, ◌+◌, ◌-◌, ◌≤◌, ◌<◌}
use native.Mathlib.Omega.{arith}
use Rattle.std.specs.Prelude.{Some, None}
use Rattle.meaning.specs.Walk.{first, on_found, pick, Found}
use Rattle.meaning.proofs.Walks.{first_found, first-nothing}
use Rattle.meaning.proofs.Loops.{first-yes, first-no, first-end}
use Rattle.meaning.proofs.Picks.{pick-skip}
use Rattle.marks.specs.Marks.{after}

module _ (f : ℕ → Bool) (n : ℕ) where
  pub after-here : (i : ℕ) → i < n → f i ≡ true → after f i n ≡ i
  unfolding after
  after-here i h e = ap (λ x. on_found x (λ v. v) n) (first-yes f n i h e)

  pub after_next : (i : ℕ) → i < n → f i ≡ false → after f i n ≡ after f (i + 1) n
  unfolding after
  after_next i h e = ap (λ x. on_found x (λ v. v) n) (first-no f n i h e)

  pub after-end : (i : ℕ) → n ≤ i → after f i n ≡ n
  unfolding after
  after-end i h = ap (λ x. on_found x (λ v. v) n) (first-end f n i h)

  -- v is the next from i on: nothing before it passes, and it does unless it is n
  pub record Next (i v : ℕ) : Type 0 where
    pub from : i ≤ v
    pub to : v ≤ n
    pub before : (k : ℕ) → i ≤ k → k < v → f k ≡ false
    pub passes : v < n → f v ≡ true

  pub after_is : (i : ℕ) → i ≤ n → Next i (after f i n)
  unfolding after
  after_is i h = go (first f i (n - i)) refl
    where
      go : (x : Found) → first f i (n - i) ≡ x → Next i (on_found (first f i (n - i)) (λ v. v) n)
      go (Some v) e =
          let l = first_found f i (n - i) v e in
          rw e (record { from = l.from; to = omega (arith, l.below); before = l.before; passes = λ _. l.passes })
      go None e =
          rw e (record { from = h; to = omega arith; before = λ k a b. first-nothing f i (n - i) e k a (omega arith); passes = λ l. absurd (omega arith) })

  -- a list of those that pass begins with it
  pub pick-after : (i : ℕ) → i ≤ n → pick f i (n - i) ≡ pick f (after f i n) (n - after f i n)
  pick-after i h =
      let v = after f i n in
      let w = after_is i h in
      let m : i + (n - i) - v ≡ n - v = omega (arith, w.from, w.to) in
      pick-skip f i v (n - i) w.from (omega (arith, w.to)) (λ k a b. w.before k a (omega (arith, w.from))) ∙ ap (pick f v) m

  -- less is left there
  pub after_less : (i j : ℕ) → i < n → j ≡ after f (i + 1) n → n - j < n - i
  after_less i j h e = let w = after_is (i + 1) (omega arith) in omega (arith, w.from, w.to)
