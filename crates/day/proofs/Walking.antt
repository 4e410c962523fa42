-- The walk from row to row: what the marks tell of the rows passed, and that none of these offends.
use mathlib.Core.Path.{◌≡◌, refl, sym, ◌∙◌, ap, fun_ext}
use mathlib.Core.Logic.{⊎_elim}
use mathlib.Core.Bool.{Bool, true, false, ◌&&◌, ◌||◌, not, or-false, and-false, and-or_distrib_left}
use mathlib.Core.List.{List}
use Prim.Native.Nat.{ℕ, suc, ◌≤◌, ◌<◌}
use native.Mathlib.Nat.{eq-or-lt_of_le}
use native.Mathlib.Omega.{arith}
use lib.Dec.{eqb}
use borrow.Author.Tests.{eqb-true}
use Rattle.std.specs.Prelude.{Some, None}
use Rattle.meaning.specs.Walk.{any, first}
use Rattle.meaning.proofs.Basics.{went, le_or_lt, clear}
use Rattle.meaning.proofs.Walks.{any_none, first-at, first-none}
use Rattle.meaning.proofs.Loops.{any_last}
use Rattle.day.specs.Ready.{distinct}
use Rattle.day.specs.Row.{number, only, outside, keeps, row_breaks, row_keeps, Met}
use Rattle.day.specs.Table.{holder, seen_below, row_offends}
use Rattle.marks.specs.Marks.{marked}
use Rattle.marks.proofs.After.{Next}
use Rattle.day.proofs.Skipping.{any-skips}

one_more : (a k b x : Bool) → (a || (k && b)) || (k && x) ≡ (a || (k && (b || x)))
one_more true k b x = refl
one_more false k b x = sym (and-or_distrib_left k b x)

module _ (p : ℕ → Bool) (n : ℕ) (rep : ℕ → ℕ) (chosen : ℕ → Bool) (rows : ℕ → ℕ → Bool) (mode : ℕ) (old : List ℕ) where
  -- the only value of row v is y
  abbrev holds : ℕ → ℕ → Bool
  holds v y = p v && only p n (rows v) rep (λ x. eqb x y)

  -- the walk has come to record v, a chosen one or the end, and the marks tell the only values of the rows below it
  pub record Told (v : ℕ) (marks : List ℕ) : Type 0 where
    pub most : v ≤ n
    pub is_chosen : v < n → chosen v ≡ true
    pub seen : (y : ℕ) → marked marks y ≡ seen_below p n rep chosen rows mode (marked old) v y

  not_held : (y u : ℕ) → chosen u ≡ false → holder p n rep chosen rows y u ≡ false
  unfolding holder
  not_held y u e = rw e

  held : (y u : ℕ) → chosen u ≡ true → holder p n rep chosen rows y u ≡ holds u y
  unfolding holder
  held y u e = rw e

  pub told-start : (start : ℕ) → Next chosen n 0 start → Told start old
  unfolding seen_below
  told-start start s =
      record {
        most = s.to;
        is_chosen = s.passes;
        seen = λ y. let none = any_none (holder p n rep chosen rows y) 0 start (λ u a b. not_held y u (s.before u a (omega arith))) in rw (none, and-false (keeps mode)) (sym (or-false (marked old y)));
      }

  module _ (v : ℕ) (marks : List ℕ) (s : Told v marks) (h : v < n) (next : ℕ) (to : Next chosen n (suc v) next) where
    held_next : (y : ℕ) → any (holder p n rep chosen rows y) 0 next ≡ (any (holder p n rep chosen rows y) 0 v || holds v y)
    held_next y =
        any-skips (holder p n rep chosen rows y) (suc v) next to.from (λ u a b. not_held y u (to.before u a b))
        ∙ any_last (holder p n rep chosen rows y) v
        ∙ ap (λ b. any (holder p n rep chosen rows y) 0 v || b) (held y v (s.is_chosen h))

    told-step : (marks' : List ℕ) → ((y : ℕ) → marked marks' y ≡ (marked marks y || (keeps mode && holds v y))) → Told next marks'
    unfolding seen_below
    told-step marks' kept =
        record {
          most = to.to;
          is_chosen = to.passes;
          seen =
              λ y.
              kept y ∙ ap (λ b. b || (keeps mode && holds v y)) (s.seen y)
              ∙ one_more (marked old y) (keeps mode) (any (holder p n rep chosen rows y) 0 v) (holds v y)
              ∙ ap (λ b. marked old y || (keeps mode && b)) (sym (held_next y));
        }

  -- at the end, where nothing was marked before, they tell the only values of all rows
  pub told-all : (v : ℕ) (marks : List ℕ) → Told v marks → n ≤ v → mode ≡ distinct → ((x : ℕ) → marked old x ≡ false) → (y : ℕ) → marked marks y ≡ any (holder p n rep chosen rows y) 0 n
  unfolding seen_below keeps
  told-all v marks s h m new y =
      let e : v ≡ n = omega (arith, s.most) in
      s.seen y ∙ rw (new y, m, e)

  -- with the bounds 0..1 a row leaves its only value, whatever the answer
  left-always : (v y : ℕ) → p v && row_keeps p n rep mode 0 1 (rows v) y ≡ (keeps mode && holds v y)
  unfolding row_keeps only
  left-always v y = one (number p n (rows v)) (p v) (keeps mode) _
    where
      one : (c : ℕ) (a k q : Bool) → a && (k && (not (outside 0 1 c) && (eqb c 1 && q))) ≡ (k && (a && (eqb c 1 && q)))
      one c false k q = sym (and-false k)
      one c true k q =
          ap (λ b. k && b)
          (⊎_elim
          (λ i. let e : c ≡ 1 = eqb-true c 1 i in rw e)
          (λ i. rw i (and-false (not (outside 0 1 c))))
          (went (eqb c 1)))

  pub told-met : (v : ℕ) (marks : List ℕ) → Told v marks → v < n → (after : List ℕ) (answer : Bool) → Met p n rep mode 0 1 (rows v) v marks after answer
      → (next : ℕ) → Next chosen n (suc v) next → Told next after
  told-met v marks s h after answer met next to =
      told-step v marks s h next to after (λ y. met.marks y ∙ ap (λ b. marked marks y || b) (left-always v y))

  module _ (low high : ℕ) where
    -- and none of those below it offends
    pub record Looked (v : ℕ) (marks : List ℕ) : Type 0 where
      pub told : Told v marks
      pub none : (u : ℕ) → u < v → row_offends p n rep chosen rows mode (marked old) low high u ≡ false

    not_offends : (u : ℕ) → chosen u ≡ false → row_offends p n rep chosen rows mode (marked old) low high u ≡ false
    unfolding row_offends
    not_offends u e = rw e

    pub looked_start : (start : ℕ) → Next chosen n 0 start → Looked start old
    looked_start start s = record { told = told-start start s; none = λ u h. not_offends u (s.before u (omega arith) h) }

    pub looked_end : (v : ℕ) (marks : List ℕ) → Looked v marks → n ≤ v → None ≡ first (row_offends p n rep chosen rows mode (marked old) low high) 0 n
    looked_end v marks s h = sym (first-none _ 0 n (λ u a b. s.none u (omega arith)))

    module _ (v : ℕ) (marks : List ℕ) (s : Looked v marks) (h : v < n) (after : List ℕ) (answer : Bool) (met : Met p n rep mode low high (rows v) v marks after answer) where
      -- the answer is about record v
      answered : row_offends p n rep chosen rows mode (marked old) low high v ≡ answer
      unfolding row_offends
      answered =
          rw (s.told.is_chosen h)
          (sym (met.answers ∙ ap (λ (f : ℕ → Bool). p v && row_breaks p n rep mode low high (rows v) f) (fun_ext s.told.seen)))

      pub looked_found : answer ≡ true → Some v ≡ first (row_offends p n rep chosen rows mode (marked old) low high) 0 n
      looked_found y = sym (first-at _ v 0 n (omega arith) (omega arith) (answered ∙ y) (λ u a b. s.none u b))

      -- a row that does not offend leaves its only value
      left : answer ≡ false → (y : ℕ) → p v && row_keeps p n rep mode low high (rows v) y ≡ (keeps mode && holds v y)
      unfolding row_breaks row_keeps
      left e y = within (p v) (outside low high (number p n (rows v))) _ (keeps mode) _ (sym met.answers ∙ e)
        where
          within : (a o w k q : Bool) → a && (o || w) ≡ false → a && (k && (not o && q)) ≡ (k && (a && q))
          within false o w k q i = sym (and-false k)
          within true true w k q i = absurd (clear refl i)
          within true false w k q i = refl

      pub looked_step : answer ≡ false → (next : ℕ) → Next chosen n (suc v) next → Looked next after
      looked_step e next to =
          record {
            told = told-step v marks s.told h next to after (λ y. met.marks y ∙ ap (λ b. marked marks y || b) (left e y));
            none =
                λ u b.
                ⊎_elim
                (λ (a : u ≤ v). ⊎_elim (λ q. ap (row_offends p n rep chosen rows mode (marked old) low high) q ∙ answered ∙ e) (λ (l : u < v). s.none u l) (eq-or-lt_of_le a))
                (λ (l : v < u). not_offends u (to.before u (omega arith) b))
                (le_or_lt u v);
          }
