-- Judging only some days finds what judging every day finds, where each day left out is like the day before.
use mathlib.Core.Path.{◌≡◌, refl, ap, ap₂, sym, ◌∙◌}
use mathlib.Core.Logic.{⊎_elim, ◌⊎◌, inl, inr}
use mathlib.Core.Bool.{Bool, true, false, false≢true}
use mathlib.Core.List.{List, [], ◌∷◌}
use Prim.Native.Nat.{ℕ, zero, suc, ◌+◌, ◌≤◌, ◌<◌}
use native.Mathlib.Omega.{arith}
use lib.ListN.{length}
use borrow.Author.Tests.{eq-eqb, ne_eqb}
use Rattle.std.specs.Prelude.{Some, None}
use Rattle.meaning.specs.declared.Verdict.TheVariants.{Holds, Fails}
use Rattle.meaning.specs.declared.Verdict.{Verdict}
use Rattle.meaning.specs.Walk.{pick, first, on_found, found, place, Found}
use Rattle.meaning.proofs.Basics.{went}
use Rattle.meaning.proofs.Walks.{first_found}
use Rattle.meaning.proofs.Picks.{pick_yes, pick_no}

-- the verdict over a list of days, in its order: the first with an offender, k days having been looked at before
unfoldable pub over : (ℕ → Found) → List ℕ → ℕ → Verdict
over f [] k = Holds k
over f (d ∷ ds) k = let rest = over f ds (suc k) in on_found (f d) (λ v. Fails d v (suc k)) rest

pub nowhere : (x : Found) → found x ≡ false → x ≡ None
nowhere (Some v) e = absurd (false≢true (sym e))
nowhere None e = refl

pub place-first : (d : ℕ) (ds : List ℕ) → place d (d ∷ ds) ≡ 1
unfolding place
place-first d ds = rw (eq-eqb d d refl)

pub place-next : (d x : ℕ) (ds : List ℕ) → (d ≡ x → ⊥) → place d (x ∷ ds) ≡ suc (place d ds)
unfolding place
place-next d x ds h = rw (ne_eqb d x h)

-- Judging only the days that pass c finds what judging every day finds, where each other day is like the day before.
module _ (f : ℕ → Found) (c : ℕ → Bool) where
  abbrev bad : ℕ → Bool
  bad d = found (f d)

  -- what the first failing day x comes to, counted in the list after k others
  unfoldable pub said : Found → List ℕ → ℕ → Verdict
  said x ds k = on_found x (λ d. on_found (f d) (λ v. Fails d v (place d ds + k)) (Holds (length ds + k))) (Holds (length ds + k))

  said-next : (x : Found) (i : ℕ) (ds : List ℕ) (k : ℕ) → ((d : ℕ) → x ≡ Some d → i < d) → said x ds (suc k) ≡ said x (i ∷ ds) k
  unfolding said
  said-next None i ds k h = ap Holds (omega arith)
  said-next (Some d) i ds k h =
      let p : place d (i ∷ ds) ≡ suc (place d ds) = place-next d i ds (λ e. omega (arith, h d refl)) in
      ap₂ (λ (m n : ℕ). on_found (f d) (λ v. Fails d v m) (Holds n)) (omega (arith, p)) (omega arith)

  -- days from i on, n of them, each that does not pass like the one before
  abbrev Steady : ℕ → ℕ → Type 0
  Steady i n = (d : ℕ) → i ≤ d → suc d < i + n → c (suc d) ≡ false → f d ≡ f (suc d)

  steady-less : (i n : ℕ) → Steady i (suc n) → Steady (suc i) n
  steady-less i n s d h l e = s d (omega arith) (omega arith) e

  later-day : (i n d : ℕ) → first bad (suc i) n ≡ Some d → i < d
  later-day i n d e = (first_found bad (suc i) n d e).from

  -- the first of n days, if there is one, passes or has no offender
  abbrev Ready : ℕ → ℕ → Type 0
  Ready i n = 0 < n → (c i ≡ true) ⊎ (f i ≡ None)

  ready-next : (i n : ℕ) → Steady i (suc n) → f i ≡ None → Ready (suc i) n
  ready-next i n s e h = ⊎_elim (λ y. inl y) (λ z. inr (sym (s i (omega arith) (omega arith) z) ∙ e)) (went (c (suc i)))

  first-no : (i n : ℕ) → f i ≡ None → first bad i (suc n) ≡ first bad (suc i) n
  unfolding first
  first-no i n e = rw e

  first-yes : (i n v : ℕ) → f i ≡ Some v → first bad i (suc n) ≡ Some i
  unfolding first
  first-yes i n v e = rw e

  -- one day, with an offender or without
  hit : (i k v : ℕ) (ds : List ℕ) → f i ≡ Some v → over f (i ∷ ds) k ≡ said (Some i) (i ∷ ds) k
  unfolding over said
  hit i k v ds e = rw (e, place-first i ds) (ap (Fails i v) (omega arith))

  miss : (i k : ℕ) (ds : List ℕ) → f i ≡ None → over f (i ∷ ds) k ≡ over f ds (suc k)
  unfolding over
  miss i k ds e = rw e

  pub over-picked : (n i k : ℕ) → Steady i n → Ready i n → over f (pick c i n) k ≡ said (first bad i n) (pick c i n) k
  unfolding over said first pick
  over-picked zero i k s o = ap Holds (omega arith)
  over-picked (suc n) i k s o = go (f i) refl (went (c i)) (λ j e. over-picked n (suc i) j (steady-less i n s) (ready-next i n s e))
    where
      ds : List ℕ
      ds = pick c (suc i) n

      x : Found
      x = first bad (suc i) n

      go : (y : Found) → f i ≡ y → (c i ≡ true) ⊎ (c i ≡ false) → ((j : ℕ) → f i ≡ None → over f ds j ≡ said x ds j)
          → over f (pick c i (suc n)) k ≡ said (first bad i (suc n)) (pick c i (suc n)) k
      go (Some v) e (inl t) ih = rw (pick_yes c i n t, first-yes i n v e) (hit i k v ds e)
      go (Some v) e (inr t) ih = ⊎_elim (λ t'. absurd (false≢true (sym t ∙ t'))) (λ e'. let z : ◌≡◌ {A = ℕ} 0 1 = cc in absurd (omega arith)) (o (omega arith))
      go None e (inl t) ih = rw (pick_yes c i n t, first-no i n e) (miss i k ds e ∙ ih (suc k) e ∙ said-next x i ds k (λ d p. later-day i n d p))
      go None e (inr t) ih = rw (pick_no c i n t, first-no i n e) (ih k e)
