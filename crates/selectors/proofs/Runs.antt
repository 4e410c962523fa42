-- Runs of bytes that a name can be made of: along the places of a text, and as the front of a list of bytes.
use mathlib.Core.Path.{◌≡◌, refl, ap}
use mathlib.Core.Logic.{⊎_elim}
use mathlib.Core.Bool.{Bool, true, false, ◌||◌}
use mathlib.Core.List.{List, [], ◌∷◌, ◌++◌}
use Prim.Native.Nat.{ℕ, suc, ◌+◌, ◌≤◌, ◌<◌}
use native.Mathlib.Numerals.{add-one}
use native.Mathlib.Omega.{arith}
use lib.Dec.{eqb}
use lib.ListN.{length, get_or, drop, drop_of_length-le}
use lib.Seq.{drop-cons}
use Rattle.meaning.proofs.Basics.{went, clear, and_l, and_r, both, or_cases, or_l, or_r}
use Rattle.typed.specs.Numeral.{is_digit}
use Rattle.selectors.specs.Parts.{each}
use Rattle.selectors.specs.Profile.{is_letter, is_first, is_inner, is_name}
use Rattle.selectors.specs.Lining.{run, begins}

module _ (d : List ℕ) (i : ℕ) where
  -- the run from a byte of one on ends where the run behind that byte does
  pub run_on : i < length d → is_inner (get_or d i 0) ≡ true → i + 1 + run (drop (i + 1) d) ≡ i + run (drop i d)
  unfolding run
  run_on here t = rw (add-one, drop-cons d i 0 here, t) (omega arith)

  -- at a byte of no name there is no run
  pub run_none : i < length d → is_inner (get_or d i 0) ≡ false → i ≡ i + run (drop i d)
  unfolding run
  run_none here t = rw (drop-cons d i 0 here, t) (omega arith)

  -- nor behind the end
  pub run_end : length d ≤ i → i ≡ i + run (drop i d)
  unfolding run
  run_end past = rw (drop_of_length-le d past) (omega arith)

  -- a name can begin at a byte that is one's first
  pub begins-here : i < length d → is_first (get_or d i 0) ≡ begins (drop i d)
  unfolding begins
  begins-here here = rw (drop-cons d i 0 here)

  -- and not behind the end
  pub begins-end : length d ≤ i → false ≡ begins (drop i d)
  unfolding begins
  begins-end past = rw (drop_of_length-le d past)

-- what a name begins with it can be made of
pub first_inner : (x : ℕ) → is_first x ≡ true → is_inner x ≡ true
unfolding is_first is_inner
first_inner x e = ⊎_elim (λ t. rw t) (λ t. or_l (is_letter x || is_digit x || eqb x 95) (eqb x 45) (or_r (is_letter x || is_digit x) (eqb x 95) t)) (or_cases (is_letter x) (eqb x 95) e)

-- all bytes of a name are such
pub name-inner : (a : List ℕ) → is_name a ≡ true → each is_inner a ≡ true
unfolding is_name each
name-inner [] e = refl
name-inner (x ∷ a) e =
    both (is_inner x) (each is_inner a) (first_inner x (and_l (is_first x) (each is_inner a) e)) (and_r (is_first x) (each is_inner a) e)

-- such bytes behind the first one of a name are a name
pub inner_name : (a b : List ℕ) → begins (a ++ b) ≡ true → 1 ≤ length a → each is_inner a ≡ true → is_name a ≡ true
unfolding is_name each begins
inner_name [] b e some i = absurd (omega arith)
inner_name (x ∷ a) b e some i = both (is_first x) (each is_inner a) e (and_r (is_inner x) (each is_inner a) i)

-- a text that begins as a name has a run
pub begins-run : (s : List ℕ) → begins s ≡ true → 1 ≤ run s
unfolding begins run
begins-run [] e = absurd (clear e refl)
begins-run (x ∷ s) e = rw (first_inner x e) (omega arith)

-- a name ahead of other bytes is begun as one
pub name-begins : (a b : List ℕ) → is_name a ≡ true → begins (a ++ b) ≡ true
unfolding is_name begins
name-begins [] b e = absurd (clear e refl)
name-begins (x ∷ a) b e = and_l (is_first x) (each is_inner a) e

-- a run that another byte ends is as long as the bytes ahead of it
pub run-ended : (a : List ℕ) (x : ℕ) (b : List ℕ) → each is_inner a ≡ true → is_inner x ≡ false → run (a ++ (x ∷ b)) ≡ length a
unfolding each run
run-ended [] x b e o = rw o
run-ended (y ∷ a) x b e o = rw (and_l (is_inner y) (each is_inner a) e) (ap suc (run-ended a x b (and_r (is_inner y) (each is_inner a) e) o))

-- a text as bytes that pass a test, so many of them, and the rest
pub record Fronted (f : ℕ → Bool) (s : List ℕ) (n : ℕ) : Type 0 where
  pub front : List ℕ
  pub back : List ℕ
  pub joined : s ≡ front ++ back
  pub passing : each f front ≡ true
  pub size : n ≡ length front

-- the bytes of a run are those ahead of its end
pub run-front : (s : List ℕ) → Fronted is_inner s (run s)
unfolding each run
run-front [] = record { front = []; back = []; joined = refl; passing = refl; size = refl }
run-front (x ∷ s) =
    ⊎_elim
    (λ t.
    let r = run-front s in
    record {
      front = x ∷ r.front;
      back = r.back;
      joined = ap (λ l. x ∷ l) r.joined;
      passing = rw t r.passing;
      size = rw t (ap suc r.size);
    })
    (λ t. record { front = []; back = x ∷ s; joined = refl; passing = refl; size = rw t })
    (went (is_inner x))
