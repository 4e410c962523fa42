-- The current version of an item: a walk down the chain of its versions, a law for each way out of the code.
use mathlib.Core.Path.{◌≡◌, refl, sym, ◌∙◌, ap}
use mathlib.Core.Logic.{⊎_elim}
use mathlib.Core.Bool.{Bool, true, false, ◌&&◌}
use mathlib.Core.List.{List}
use Prim.Native.Nat.{ℕ, zero, suc, ◌-◌, ◌≤◌, ◌<◌}
use native.Mathlib.Omega.{arith}
use lib.Dec.{eqb, leb, ltb}
use lib.ListN.{get_or}
use Rattle.meaning.specs.Block.{limit}
use Rattle.meaning.specs.Document.{Doc, is_version, version_of}
use Rattle.meaning.specs.Day.{alive}
use Rattle.meaning.proofs.Basics.{went, clear, never, and_l}
use Rattle.columns.specs.Chains.{past_last}
use Rattle.columns.proofs.Along.{past-low, past-in}
use Rattle.descent.specs.Descent.{current_of, Linked}

-- a walk down from t for the last number that passes f has come to `at`, one past a number of the chain m, or 0
pub record Seeking (m f : ℕ → Bool) (t at : ℕ) : Type 0 where
  pub low : at ≤ t
  pub member : 0 < at → m (at - 1) ≡ true
  pub rest : past_last f at ≡ past_last f t

-- the chain has every number that passes
module _ (m f : ℕ → Bool) (all : (v : ℕ) → f v ≡ true → m v ≡ true) where
  past-chain : (t : ℕ) → past_last f (past_last m t) ≡ past_last f t
  unfolding past_last
  past-chain zero = refl
  past-chain (suc t) =
      let r = past-chain t in
      ⊎_elim
      (λ y. rw y)
      (λ z. let n : f t ≡ false = never (f t) (λ e. clear (all t e) z) in rw (z, n) r)
      (went (m t))

  seeking_start : (t at : ℕ) → at ≡ past_last m t → Seeking m f t at
  seeking_start t at e = rw e (record { low = past-low m t; member = past-in m t; rest = past-chain t })

  module _ (t at : ℕ) (s : Seeking m f t at) (h : 0 < at) where
    seeking_hit : f (at - 1) ≡ true → at ≡ past_last f t
    unfolding past_last
    seeking_hit y =
        let e : at ≡ suc (at - 1) = omega arith in
        let top : past_last f (suc (at - 1)) ≡ suc (at - 1) = rw y in
        e ∙ sym top ∙ ap (past_last f) (sym e) ∙ s.rest

    seeking_next : f (at - 1) ≡ false → (next : ℕ) → next ≡ past_last m (at - 1) → Seeking m f t next
    unfolding past_last
    seeking_next n next e =
        let w = seeking_start (at - 1) next e in
        let q : at ≡ suc (at - 1) = omega arith in
        let top : past_last f (suc (at - 1)) ≡ past_last f (at - 1) = rw n in
        record { low = omega (arith, s.low, w.low); member = w.member; rest = w.rest ∙ sym top ∙ ap (past_last f) (sym q) ∙ s.rest }

-- the current version of item i, sought along its chain
abbrev pub Sought : Doc → ℕ → ℕ → ℕ → Type 0
Sought doc d i at = Seeking (version_of doc i) (current_of doc d i) doc.size at

module _ {doc : Doc} {vl vw il iw begins ends : List ℕ} (l : Linked doc vl vw il iw begins ends) (d i : ℕ) (small : i < limit) where
  chained : (v : ℕ) → current_of doc d i v ≡ true → version_of doc i v ≡ true
  unfolding current_of
  chained v e = and_l (version_of doc i v) (alive doc d v) e

  -- a version of the item is the current one where its period has the day
  current_lasts : (v : ℕ) → version_of doc i v ≡ true → current_of doc d i v ≡ (leb (get_or begins v 0) d && ltb d (get_or ends v 0))
  unfolding current_of alive version_of
  current_lasts v e = rw (e, and_l (is_version doc v) (eqb (doc.parent v) i) e, l.periods.begin.at v, l.periods.end.at v)

  pub sought_start : (at : ℕ) → at ≡ get_or vl i 0 → Sought doc d i at
  sought_start at e = seeking_start (version_of doc i) (current_of doc d i) chained doc.size at (e ∙ l.version_ends i small)

  module _ (at : ℕ) (s : Sought doc d i at) where
    pub sought_end : at ≤ 0 → 0 ≡ past_last (current_of doc d i) doc.size
    unfolding past_last
    sought_end h = let e : at ≡ 0 = omega arith in rw e at s.rest

    module _ (h : 0 < at) (now : Bool) (e : now ≡ (leb (get_or begins (at - 1) 0) d && ltb d (get_or ends (at - 1) 0))) where
      current_now : current_of doc d i (at - 1) ≡ now
      current_now = current_lasts (at - 1) (s.member h) ∙ sym e

      pub sought_hit : now ≡ true → at ≡ past_last (current_of doc d i) doc.size
      sought_hit y = seeking_hit (version_of doc i) (current_of doc d i) chained doc.size at s h (current_now ∙ y)

      pub sought_next : now ≡ false → (next : ℕ) → next ≡ get_or vw (at - 1) 0 → Sought doc d i next
      sought_next n next q =
          seeking_next (version_of doc i) (current_of doc d i) chained doc.size at s h (current_now ∙ n) next
          (q ∙ l.version_steps i (at - 1) small (omega (arith, s.low)) (s.member h))

    pub sought_less : 0 < at → (next : ℕ) → next ≡ get_or vw (at - 1) 0 → next < at
    sought_less h next q =
        omega (arith, q, l.version_steps i (at - 1) small (omega (arith, s.low)) (s.member h), past-low (version_of doc i) (at - 1))
