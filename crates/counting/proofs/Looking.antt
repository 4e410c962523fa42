-- The walk from version to version: which classes were counted, and that no version passed offends.
use mathlib.Core.Path.{◌≡◌, sym, ◌∙◌, ap}
use mathlib.Core.Logic.{⊎_elim}
use mathlib.Core.Bool.{Bool, true, false, ◌&&◌, ◌||◌, not}
use mathlib.Core.List.{List}
use Prim.Native.Nat.{ℕ, suc, ◌≤◌, ◌<◌}
use native.Mathlib.Nat.{eq-or-lt_of_le}
use native.Mathlib.Omega.{arith}
use lib.Dec.{eqb}
use Rattle.std.specs.Prelude.{Some, None}
use Rattle.meaning.specs.Walk.{any, first}
use Rattle.meaning.proofs.Basics.{went, le_or_lt}
use Rattle.meaning.proofs.Walks.{any_none, any-true, first-at, first-none}
use Rattle.meaning.proofs.Loops.{any_last}
use Rattle.meaning.proofs.Says.{says}
use Rattle.marks.specs.Marks.{marked}
use Rattle.marks.proofs.After.{Next}
use Rattle.day.proofs.Skipping.{any-skips}
use Rattle.counting.specs.Number.{Met}

-- record v is chosen and present, and bad
abbrev pub offending : (ℕ → Bool) → (ℕ → Bool) → (ℕ → Bool) → ℕ → Bool
offending chosen p bad v = chosen v && (p v && bad v)

module _ (n : ℕ) (chosen p : ℕ → Bool) (group : ℕ → ℕ) (bad : ℕ → Bool) where
  -- record u is chosen and present, and of class y
  abbrev in_class : ℕ → ℕ → Bool
  in_class y u = chosen u && (p u && eqb (group u) y)

  -- the walk has come to record v, a chosen one or the end: the classes of those below it are counted, and none of these offends
  pub record Looked (v : ℕ) (done : List ℕ) : Type 0 where
    pub most : v ≤ n
    pub is_chosen : v < n → chosen v ≡ true
    pub counted : (y : ℕ) → marked done y ≡ any (in_class y) 0 v
    pub none : (u : ℕ) → u < v → offending chosen p bad u ≡ false

  out_of_class : (y u : ℕ) → chosen u ≡ false → in_class y u ≡ false
  out_of_class y u e = rw e

  not_offending : (u : ℕ) → chosen u ≡ false → offending chosen p bad u ≡ false
  not_offending u e = rw e

  pub looked_start : (start : ℕ) (done : List ℕ) → Next chosen n 0 start → ((y : ℕ) → marked done y ≡ false) → Looked start done
  looked_start start done s new =
      record {
        most = s.to;
        is_chosen = s.passes;
        counted = λ y. new y ∙ sym (any_none (in_class y) 0 start (λ u a b. out_of_class y u (s.before u a (omega arith))));
        none = λ u h. not_offending u (s.before u (omega arith) h);
      }

  pub looked_end : (v : ℕ) (done : List ℕ) → Looked v done → n ≤ v → None ≡ first (offending chosen p bad) 0 n
  looked_end v done s h = sym (first-none _ 0 n (λ u a b. s.none u (omega arith)))

  -- two chosen records of one class are bad both or neither; record v was looked at
  module _ (alike : (u v : ℕ) → chosen u ≡ true → chosen v ≡ true → group u ≡ group v → bad u ≡ bad v)
      (v : ℕ) (done : List ℕ) (s : Looked v done) (h : v < n) (after : List ℕ) (answer : Bool) (met : Met (p v) (bad v) (group v) done after answer) where
    -- a class counted is that of a lower record, which was not bad
    counted-good : marked done (group v) ≡ true → bad v ≡ false
    counted-good e =
        let w = any-true (in_class (group v)) 0 v (sym (s.counted (group v)) ∙ e) in
        let u = w.0 in
        let is = simp says at w.1.passes in
        let no = simp says at (s.none u (omega (arith, w.1.below))) in
        sym (alike u v is.0 (s.is_chosen h) is.1.1) ∙ no is.0 is.1.0

    answered : offending chosen p bad v ≡ answer
    answered =
        rw (s.is_chosen h)
        (⊎_elim
        (λ e. let g = counted-good e in let m : answer ≡ (p v && (not true && bad v)) = rw e at met.answers in rw g (sym m))
        (λ e. let m : answer ≡ (p v && (not false && bad v)) = rw e at met.answers in sym m)
        (went (marked done (group v))))

    pub looked_found : answer ≡ true → Some v ≡ first (offending chosen p bad) 0 n
    looked_found y = sym (first-at _ v 0 n (omega arith) (omega arith) (answered ∙ y) (λ u a b. s.none u b))

    pub looked_step : answer ≡ false → (next : ℕ) → Next chosen n (suc v) next → Looked next after
    looked_step e next to =
        record {
          most = to.to;
          is_chosen = to.passes;
          counted = λ y.
              met.marks y ∙ ap (λ b. b || (p v && eqb (group v) y)) (s.counted y)
              ∙ sym (any-skips (in_class y) (suc v) next to.from (λ u a b. out_of_class y u (to.before u a b)) ∙ any_last (in_class y) v ∙ rw (s.is_chosen h));
          none = λ u b.
              ⊎_elim
              (λ (a : u ≤ v). ⊎_elim (λ q. ap (offending chosen p bad) q ∙ answered ∙ e) (λ (l : u < v). s.none u l) (eq-or-lt_of_le a))
              (λ (l : v < u). not_offending u (to.before u (omega arith) b))
              (le_or_lt u v);
        }
