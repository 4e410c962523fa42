-- A walk down the chain of a row counts those that are present, and where one only is, it has that one's representative at the end.
use mathlib.Core.Path.{◌≡◌, refl, sym, ◌∙◌, ap}
use mathlib.Core.Logic.{⊎_elim}
use mathlib.Core.Bool.{Bool, true, false, ◌&&◌, ◌||◌, not, cond, or-false}
use mathlib.Core.List.{List}
use Prim.Native.Nat.{ℕ, zero, suc, ◌+◌, ◌-◌, ◌≤◌, ◌<◌}
use native.Mathlib.Omega.{arith}
use lib.Dec.{eqb, ltb}
use lib.ListN.{get_or}
use borrow.Author.Tests.{eq-eqb, ne_eqb, lt-ltb}
use Rattle.meaning.specs.Walk.{any, count}
use Rattle.meaning.proofs.Basics.{went, never, clear, and_l}
use Rattle.meaning.proofs.Walks.{any_none}
use Rattle.meaning.proofs.Loops.{any_last}
use Rattle.meaning.proofs.Says.{says}
use Rattle.columns.specs.Chains.{past_last}
use Rattle.columns.proofs.Along.{past-low, past-in, along_start}
use Rattle.day.specs.Row.{Chain, number, Tallied}

-- one number more at the far end
count-far : (f : ℕ → Bool) (i n : ℕ) → count f i (suc n) ≡ count f i n + cond (f (i + n)) 1 0
unfolding count
count-far f i zero = let e : i + 0 ≡ i = omega arith in rw e (one (f i))
  where
    one : (t : Bool) → cond t 1 0 ≡ 0 + cond t 1 0
    one true = omega arith
    one false = omega arith
count-far f i (suc n) =
    let r = count-far f (suc i) n in
    let e : suc i + n ≡ i + suc n = omega arith in
    let r' : count f (suc i) (suc n) ≡ count f (suc i) n + cond (f (i + suc n)) 1 0 = r ∙ ap (λ x. count f (suc i) n + cond (f x) 1 0) e in
    ⊎_elim (λ y. rw y (omega arith)) (λ z. rw z r') (went (f i))

pub count-last : (f : ℕ → Bool) (n : ℕ) → count f 0 (suc n) ≡ count f 0 n + cond (f n) 1 0
count-last f n = let e : 0 + n ≡ n = omega arith in rw e at (count-far f 0 n)

-- a chain m has every number that passes f, so that nothing is passed over
pub past-count : (m f : ℕ → Bool) → ((v : ℕ) → f v ≡ true → m v ≡ true) → (t : ℕ) → count f 0 (past_last m t) ≡ count f 0 t
unfolding past_last
past-count m f all zero = refl
past-count m f all (suc t) =
    let r = past-count m f all t in
    ⊎_elim
    (λ y. rw y)
    (λ z.
    let n : f t ≡ false = never (f t) (λ e. clear (all t e) z) in
    let l : count f 0 (suc t) ≡ count f 0 t + 0 = count-last f t ∙ rw n in
    rw z (omega arith))
    (went (m t))

module _ (p : ℕ → Bool) (n : ℕ) (row : ℕ → Bool) (rep : ℕ → ℕ) where
  abbrev here : ℕ → Bool
  here f = row f && p f

  abbrev asked : (ℕ → Bool) → ℕ → Bool
  asked test f = row f && p f && test (rep f)

  -- the walk has come to the record below `at`, or to 0, its end: it has counted c, and x represents the last of them
  pub record Counted (at c x : ℕ) : Type 0 where
    pub low : c + at ≤ n
    pub member : 0 < at → row (at - 1) ≡ true
    pub rest : c + count here 0 at ≡ count here 0 n
    pub one : c ≤ 1 → (test : ℕ → Bool) → any (asked test) 0 at || (eqb c 1 && test x) ≡ any (asked test) 0 n

  here-row : (f : ℕ) → here f ≡ true → row f ≡ true
  here-row f e = and_l (row f) (p f) e

  asked_row : (test : ℕ → Bool) (f : ℕ) → asked test f ≡ true → row f ≡ true
  asked_row test f e = here-row f (and_l (here f) (test (rep f)) e)

  past-asked : (test : ℕ → Bool) (t : ℕ) → any (asked test) 0 (past_last row t) ≡ any (asked test) 0 t
  past-asked test t = (along_start row (asked test) (asked_row test) t).rest

  counted_start : (past x : ℕ) (lower : List ℕ) → Chain row n past lower → Counted past 0 x
  counted_start past x lower ch =
      rw ch.last_is
      (record {
        low = omega (arith, past-low row n);
        member = past-in row n;
        rest = omega (arith, past-count row here here-row n);
        one = λ h test. or-false (any (asked test) 0 (past_last row n)) ∙ past-asked test n;
      })

  pub counted-end : (at c x : ℕ) → Counted at c x → at ≤ 0 → Tallied p n row rep c x
  unfolding number any count
  counted-end at c x s h =
      let e : at ≡ 0 = omega arith in
      let r : c + count here 0 0 ≡ count here 0 n = rw e at s.rest in
      record {
        counts = omega arith;
        stands = λ o test. sym (rw (e, eq-eqb c 1 o) at (s.one (omega arith) test));
      }

  module _ (at c x : ℕ) (s : Counted at c x) (h : 0 < at) (past : ℕ) (lower : List ℕ) (ch : Chain row n past lower) (next : ℕ) (step : next ≡ get_or lower (at - 1) 0) where
    -- the step leads to the next lower record of the row
    leads : next ≡ past_last row (at - 1)
    leads = step ∙ ch.lower_is (at - 1) (omega (arith, s.low)) (s.member h)

    counted-less : next < at
    counted-less = omega (arith, leads, past-low row (at - 1))

    up : at ≡ suc (at - 1)
    up = omega arith

    top_count : count here 0 at ≡ count here 0 next + cond (p (at - 1)) 1 0
    top_count =
        ap (count here 0) up ∙ count-last here (at - 1)
        ∙ rw (s.member h, leads) (ap (λ k. k + cond (p (at - 1)) 1 0) (sym (past-count row here here-row (at - 1))))

    top-any : (test : ℕ → Bool) → any (asked test) 0 at ≡ (any (asked test) 0 next || (p (at - 1) && test (rep (at - 1))))
    top-any test =
        ap (any (asked test) 0) up ∙ any_last (asked test) (at - 1)
        ∙ rw (s.member h, leads) (ap (λ b. b || (p (at - 1) && test (rep (at - 1)))) (sym (past-asked test (at - 1))))

    member-next : 0 < next → row (next - 1) ≡ true
    member-next = rw leads (past-in row (at - 1))

    -- the record below `at` is not present
    counted_skip : p (at - 1) ≡ false → Counted next c x
    counted_skip z =
        let k : count here 0 at ≡ count here 0 next + 0 = rw z at top_count in
        record {
          low = omega (arith, s.low, counted-less);
          member = member-next;
          rest = omega (arith, s.rest);
          one = λ l test. rw (or-false (any (asked test) 0 next)) at (rw z at (ap (λ b. b || (eqb c 1 && test x)) (sym (top-any test)))) ∙ s.one l test;
        }

    -- the record below `at` is present
    counted-more : p (at - 1) ≡ true → Counted next (c + 1) (rep (at - 1))
    counted-more y =
        let k : count here 0 at ≡ count here 0 next + 1 = rw y at top_count in
        record {
          low = omega (arith, s.low, counted-less);
          member = member-next;
          rest = omega (arith, s.rest);
          one =
              λ l test.
              let z : c ≡ 0 = omega arith in
              let o : c + 1 ≡ 1 = omega arith in
              rw (eq-eqb (c + 1) 1 o)
              (sym (rw y at (top-any test)) ∙ sym (or-false (any (asked test) 0 at)) ∙ rw (ne_eqb c 1 (omega arith)) at (s.one (omega arith) test));
        }

-- a chain that starts where another does
pub chain-from : (row : ℕ → Bool) (n past : ℕ) (lower : List ℕ) (start : ℕ) → start ≡ past → Chain row n past lower → Chain row n start lower
chain-from row n past lower start e ch = rw e ch

-- the same for every row that the chain holds, with its bound apart
abbrev pub Walked : (ℕ → Bool) → ℕ → (ℕ → ℕ) → ℕ → List ℕ → ℕ → ℕ → ℕ → Type 0
Walked p n rep past lower at c x = (c + at ≤ n) × ((row : ℕ → Bool) → Chain row n past lower → Counted p n row rep at c x)

module _ (p : ℕ → Bool) (n : ℕ) (rep : ℕ → ℕ) (past : ℕ) (lower : List ℕ) (some : (row : ℕ → Bool) × Chain row n past lower) where
  pub walked_start : (x : ℕ) → Walked p n rep past lower past 0 x
  walked_start x = ((counted_start p n some.0 rep past x lower some.1).low, λ row ch. counted_start p n row rep past x lower ch)

  module _ (at c x : ℕ) (s : Walked p n rep past lower at c x) (h : 0 < at) (next : ℕ) (step : next ≡ get_or lower (at - 1) 0) where
    pub walked_less : next < at
    walked_less = counted-less p n some.0 rep at c x (s.1 some.0 some.1) h past lower some.1 next step

    pub walked_skip : p (at - 1) ≡ false → (c' x' : ℕ) → c' ≡ c → x' ≡ x → Walked p n rep past lower next c' x'
    walked_skip z c' x' e i =
        rw (e, i) (omega (arith, walked_less), λ row ch. counted_skip p n row rep at c x (s.1 row ch) h past lower ch next step z)

    pub walked_more : p (at - 1) ≡ true → (c' x' : ℕ) → c' ≡ c + 1 → x' ≡ rep (at - 1) → Walked p n rep past lower next c' x'
    walked_more y c' x' e i =
        rw (e, i) (omega (arith, walked_less), λ row ch. counted-more p n row rep at c x (s.1 row ch) h past lower ch next step y)

-- the only one's representative is a record number where all are
pub tallied_low : (p : ℕ → Bool) (n : ℕ) (row : ℕ → Bool) (rep : ℕ → ℕ) (c x : ℕ) → Tallied p n row rep c x → c ≡ 1 → ((f : ℕ) → f < n → rep f < n) → x < n
tallied_low p n row rep c x s o low =
    let none = any_none (asked p n row rep (λ y. not (ltb y n))) 0 n (λ f a b. rw (lt-ltb (rep f) n (low f (omega arith))) (simp says (λ _. refl))) in
    simp says at (sym (s.stands o (λ y. not (ltb y n))) ∙ none)
