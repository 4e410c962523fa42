-- A walk down the chain of an item number counts those that are present, or their values, which are those with the token.
use mathlib.Core.Path.{◌≡◌, refl, sym, ◌∙◌, ap}
use mathlib.Core.Bool.{Bool, true, false, ◌&&◌, ◌||◌, not, cond, or-false, and-true}
use mathlib.Core.List.{List}
use Prim.Native.Nat.{ℕ, suc, ◌+◌, ◌-◌, ◌≤◌, ◌<◌}
use native.Mathlib.Omega.{arith}
use lib.Dec.{eqb}
use lib.ListN.{get_or}
use borrow.Author.Tests.{ne_eqb}
use Rattle.meaning.specs.Walk.{any, count}
use Rattle.meaning.proofs.Basics.{and_l}
use Rattle.meaning.proofs.Walks.{count_same}
use Rattle.meaning.proofs.Loops.{any_last}
use Rattle.columns.specs.Chains.{past_last}
use Rattle.columns.proofs.Along.{past-low, past-in, along_start}
use Rattle.day.specs.Row.{Chain}
use Rattle.day.proofs.Tallying.{count-last, past-count}
use Rattle.counting.specs.Number.{tokened, Below, Weighed, number_in}
use Rattle.counting.proofs.Numbering.{count_none, count-more}
use Rattle.counting.proofs.Weighing.{weighed_absent, weighed_here, weighed_most}

-- one thing where a test passes, another where it does not
by_cases : (d : Bool) (a b c : ℕ) → (d ≡ true → c ≡ a) → (d ≡ false → c ≡ b) → c ≡ cond d a b
by_cases true a b c f g = f refl
by_cases false a b c f g = g refl

module _ (p : ℕ → Bool) (n : ℕ) (rep : ℕ → ℕ) (distinct : Bool) (token : ℕ) (row : ℕ → Bool) where
  abbrev here : ℕ → Bool
  here f = row f && p f

  abbrev asked : ℕ → ℕ → Bool
  asked y f = row f && p f && eqb (rep f) y

  -- the walk has come to the record below `at`, or to 0, its end: it has counted c, and the values met have the token
  pub record Counted (at c : ℕ) (seen : List ℕ) : Type 0 where
    pub low : c + at ≤ n
    pub member : 0 < at → row (at - 1) ≡ true
    pub number : distinct ≡ false → c + count here 0 at ≡ count here 0 n
    pub values : distinct ≡ true → c ≡ count (tokened token seen) 0 n
    pub told : (y : ℕ) → any (asked y) 0 at || tokened token seen y ≡ any (asked y) 0 n

  here-row : (f : ℕ) → here f ≡ true → row f ≡ true
  here-row f e = and_l (row f) (p f) e

  asked_row : (y f : ℕ) → asked y f ≡ true → row f ≡ true
  asked_row y f e = here-row f (and_l (here f) (eqb (rep f) y) e)

  past-asked : (y t : ℕ) → any (asked y) 0 (past_last row t) ≡ any (asked y) 0 t
  past-asked y t = (along_start row (asked y) (asked_row y) t).rest

  counted_start : (past : ℕ) (lower seen : List ℕ) → Chain row n past lower → Below token seen → Counted past 0 seen
  counted_start past lower seen ch fresh =
      let none : (y : ℕ) → tokened token seen y ≡ false = λ y. ne_eqb (get_or seen y 0) token (λ q. omega (arith, fresh y)) in
      rw ch.last_is
      (record {
        low = omega (arith, past-low row n);
        member = past-in row n;
        number = λ d. omega (arith, past-count row here here-row n);
        values = λ d. sym (count_none (tokened token seen) n (λ y a b. none y));
        told = λ y. rw (none y) (or-false (any (asked y) 0 (past_last row n)) ∙ past-asked y n);
      })

  pub counted-end : (at c : ℕ) (seen : List ℕ) → Counted at c seen → at ≤ 0 → c ≡ number_in p n rep distinct row
  unfolding number_in any count
  counted-end at c seen s h =
      let e : at ≡ 0 = omega arith in
      by_cases distinct _ _ c
      (λ d. s.values d ∙ count_same (tokened token seen) (λ y. any (asked y) 0 n) 0 n (λ y a b. rw e at (s.told y)))
      (λ d. let r : c + count here 0 0 ≡ count here 0 n = rw e at (s.number d) in omega arith)

  -- a step to the next lower record of the row, the one below `at` having been weighed
  module _ (at c : ℕ) (seen : List ℕ) (s : Counted at c seen) (h : 0 < at) (past : ℕ) (lower : List ℕ) (ch : Chain row n past lower) (next : ℕ) (step : next ≡ get_or lower (at - 1) 0) where
    leads : next ≡ past_last row (at - 1)
    leads = step ∙ ch.lower_is (at - 1) (omega (arith, s.low)) (s.member h)

    counted-less : next < at
    counted-less = omega (arith, leads, past-low row (at - 1))

    up : at ≡ suc (at - 1)
    up = omega arith

    top_count : count here 0 at ≡ count here 0 next + cond (p (at - 1)) 1 0
    top_count =
        ap (count here 0) up ∙ count-last here (at - 1)
        ∙ rw (s.member h, leads) (ap (λ k. k + cond (p (at - 1)) 1 0) (sym (past-count row here here-row (at - 1))))

    top-any : (y : ℕ) → any (asked y) 0 at ≡ (any (asked y) 0 next || (p (at - 1) && eqb (rep (at - 1)) y))
    top-any y =
        ap (any (asked y) 0) up ∙ any_last (asked y) (at - 1)
        ∙ rw (s.member h, leads) (ap (λ b. b || (p (at - 1) && eqb (rep (at - 1)) y)) (sym (past-asked y (at - 1))))

    module _ (seen' : List ℕ) (w : ℕ) (found : Weighed (p (at - 1)) (rep (at - 1)) distinct token seen seen' w) (small : rep (at - 1) < n) where
      counted_step : Counted next (c + w) seen'
      counted_step =
          record {
            low = omega (arith, s.low, counted-less, weighed_most _ _ _ _ _ _ _ found);
            member = rw leads (past-in row (at - 1));
            number = λ d. let e : w ≡ cond (p (at - 1)) 1 0 = rw (and-true (p (at - 1))) at (rw d at found.adds) in omega (arith, s.number d, top_count);
            values = λ d.
                let e : w ≡ cond (p (at - 1) && not (tokened token seen (rep (at - 1)))) 1 0 = rw d at found.adds in
                let split = count_same (tokened token seen') (λ y. tokened token seen y || (p (at - 1) && eqb (rep (at - 1)) y)) 0 n (λ y a b. found.tokens y) in
                omega (arith, s.values d, count-more (tokened token seen) (rep (at - 1)) n small (p (at - 1)));
            told = λ y. rw (found.tokens y) (swap (any (asked y) 0 next) _ (tokened token seen y) ∙ ap (λ b. b || tokened token seen y) (sym (top-any y)) ∙ s.told y);
          }
        where
          swap : (a b s : Bool) → a || (s || b) ≡ (a || b || s)
          swap true b s = refl
          swap false true true = refl
          swap false true false = refl
          swap false false true = refl
          swap false false false = refl

-- the same for every row that the chain holds, with its bound apart
abbrev pub Walked : (ℕ → Bool) → ℕ → (ℕ → ℕ) → Bool → ℕ → ℕ → List ℕ → ℕ → ℕ → List ℕ → Type 0
Walked p n rep distinct token past lower at c seen =
    (c + at ≤ n) × ((row : ℕ → Bool) → Chain row n past lower → Counted p n rep distinct token row at c seen)

module _ (p : ℕ → Bool) (n : ℕ) (rep : ℕ → ℕ) (distinct : Bool) (token past : ℕ) (lower : List ℕ) (some : (row : ℕ → Bool) × Chain row n past lower) where
  pub walked_start : (at : ℕ) → at ≡ past → (seen : List ℕ) → Below token seen → Walked p n rep distinct token past lower at 0 seen
  walked_start at e seen fresh =
      rw e
      ((counted_start p n rep distinct token some.0 past lower seen some.1 fresh).low, λ row ch. counted_start p n rep distinct token row past lower seen ch fresh)

  module _ (at c : ℕ) (seen : List ℕ) (s : Walked p n rep distinct token past lower at c seen) (h : 0 < at) (next : ℕ) (step : next ≡ get_or lower (at - 1) 0) where
    pub walked_less : next < at
    walked_less = counted-less p n rep distinct token some.0 at c seen (s.1 some.0 some.1) h past lower some.1 next step

    walked_step : (seen' : List ℕ) (w : ℕ) → Weighed (p (at - 1)) (rep (at - 1)) distinct token seen seen' w → rep (at - 1) < n → Walked p n rep distinct token past lower next (c + w) seen'
    walked_step seen' w found small =
        let each : (row : ℕ → Bool) → Chain row n past lower → Counted p n rep distinct token row next (c + w) seen' =
        λ row ch. counted_step p n rep distinct token row at c seen (s.1 row ch) h past lower ch next step seen' w found small in
        ((each some.0 some.1).low, each)

    -- the record below `at` is present and was weighed
    pub walked_take : (seen' : List ℕ) (w : ℕ) → p (at - 1) ≡ true → Weighed true (rep (at - 1)) distinct token seen seen' w → rep (at - 1) < n → (c' : ℕ) → c' ≡ c + w
        → (seen'' : List ℕ) → seen'' ≡ seen' → Walked p n rep distinct token past lower next c' seen''
    walked_take seen' w e found small c' i seen'' j =
        rw (i, j) (walked_step seen' w (weighed_here (p (at - 1)) (rep (at - 1)) distinct token seen e seen' w found) small)

    -- it is not
    pub walked_skip : p (at - 1) ≡ false → rep (at - 1) < n → (c' : ℕ) → c' ≡ c → (seen' : List ℕ) → seen' ≡ seen → Walked p n rep distinct token past lower next c' seen'
    walked_skip e small c' i seen' j =
        let more : c' ≡ c + 0 = omega arith in
        rw (more, j) (walked_step seen 0 (weighed_absent (p (at - 1)) (rep (at - 1)) distinct token seen e) small)
