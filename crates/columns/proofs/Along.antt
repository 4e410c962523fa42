-- A walk along a chain finds what the walk over all numbers finds: a step down to the last lower number of the chain passes over
-- nothing that the test passes.
use mathlib.Core.Path.{◌≡◌, refl, sym, ◌∙◌, ap}
use mathlib.Core.Logic.{⊎_elim}
use mathlib.Core.Bool.{Bool, true, false, ◌||◌, or-false}
use Prim.Native.Nat.{ℕ, zero, suc, ◌-◌, ◌≤◌, ◌<◌}
use native.Mathlib.Omega.{arith}
use Rattle.meaning.specs.Walk.{any}
use Rattle.meaning.proofs.Basics.{went, never, clear, or_r}
use Rattle.meaning.proofs.Loops.{any_last}
use Rattle.columns.specs.Chains.{past_last}

-- what `past_last` points past is below t, and passes
pub past-low : (m : ℕ → Bool) (t : ℕ) → past_last m t ≤ t
unfolding past_last
past-low m zero = omega arith
past-low m (suc t) =
    let r = past-low m t in
    ⊎_elim (λ y. rw y (omega arith)) (λ z. rw z (omega arith)) (went (m t))

pub past-in : (m : ℕ → Bool) (t : ℕ) → 0 < past_last m t → m (past_last m t - 1) ≡ true
unfolding past_last
past-in m zero = λ h. absurd (omega arith)
past-in m (suc t) =
    let r = past-in m t in
    let e : suc t - 1 ≡ t = omega arith in
    ⊎_elim (λ y. rw y (λ h. ap m e ∙ y)) (λ z. rw z r) (went (m t))

-- a walk down from t has come to the number below `at`, one of the chain m, or to 0, its end; what f passes is still to be found
pub record Along (m f : ℕ → Bool) (t at : ℕ) : Type 0 where
  pub low : at ≤ t
  pub member : 0 < at → m (at - 1) ≡ true
  pub rest : any f 0 at ≡ any f 0 t

-- the chain m has every number that passes f
module _ (m f : ℕ → Bool) (all : (v : ℕ) → f v ≡ true → m v ≡ true) where
  -- nothing is passed over
  past_all : (t : ℕ) → any f 0 (past_last m t) ≡ any f 0 t
  unfolding past_last
  past_all zero = refl
  past_all (suc t) =
      let r = past_all t in
      ⊎_elim
      (λ y. rw y)
      (λ z.
      let n : f t ≡ false = never (f t) (λ e. clear (all t e) z) in
      rw z (r ∙ sym (any_last f t ∙ rw n (or-false (any f 0 t)))))
      (went (m t))

  pub along_start : (t : ℕ) → Along m f t (past_last m t)
  along_start t = record { low = past-low m t; member = past-in m t; rest = past_all t }

  module _ (t at : ℕ) (s : Along m f t at) where
    pub along_end : at ≤ 0 → false ≡ any f 0 t
    unfolding any
    along_end h = let e : at ≡ 0 = omega arith in rw e at s.rest

    module _ (h : 0 < at) where
      -- the walk up to `at`, with the number below it apart
      top : any f 0 t ≡ (any f 0 (at - 1) || f (at - 1))
      top = let e : at ≡ suc (at - 1) = omega arith in sym s.rest ∙ ap (any f 0) e ∙ any_last f (at - 1)

      pub along_hit : f (at - 1) ≡ true → true ≡ any f 0 t
      along_hit y = sym (top ∙ or_r (any f 0 (at - 1)) (f (at - 1)) y)

      pub along_next : f (at - 1) ≡ false → (next : ℕ) → next ≡ past_last m (at - 1) → Along m f t next
      along_next n next e =
          let w = along_start (at - 1) in
          rw e (record { low = omega (arith, s.low, w.low); member = w.member; rest = w.rest ∙ sym (top ∙ rw n (or-false (any f 0 (at - 1)))) })
