-- How the pass for clashes goes on. K, O, A, B: key, owner, lo and hi of the record at a position of the order, of m.
use mathlib.Core.Path.{◌≡◌, sym, ◌∙◌, ap}
use mathlib.Core.Bool.{false, not, ◌&&◌}
use mathlib.Core.Logic.{⊎_elim}
use mathlib.Core.List.{List}
use Prim.Native.Nat.{ℕ, ◌+◌, ◌≤◌, ◌<◌}
use native.Mathlib.Omega.{arith}
use lib.Dec.{eqb, ltb}
use lib.ListN.{length, set}
use lib.Seq.{get_or-set_same, get_or-set_other}
use Rattle.std.proofs.lemmas.Bool.{cases_eq, cases_lt}
use Rattle.passes.specs.Passes.{at, Rising, ByClash}
use Rattle.passes.proofs.Cases.{by, no_hit}

module _ (K O A B : ℕ → ℕ) (m room : ℕ) where
  -- the positions below i are done, and there was no hit
  pub record Swept (i : ℕ) (top holder : List ℕ) : Type 0 where
    -- the top of a key is no earlier than any end
    pub reached : (j k : ℕ) → j < i → K j ≡ k → k < room → A j < B j → B j ≤ at top k
    -- who is not the holder has ended by all that is to come
    pub owned : (j k l : ℕ) → j < i → K j ≡ k → k < room → A j < B j → (O j ≡ at holder k → ⊥) → i ≤ l → l < m → B j ≤ A l
    -- two of one key and of different owners lie apart
    pub apart : (j l : ℕ) → j < l → l < i → K j ≡ K l → K l < room → (O j ≡ O l → ⊥) → A j < B j → A l < B l → B j ≤ A l

  pub swept_none : (top holder : List ℕ) → Swept 0 top holder
  swept_none top holder =
      record {
        reached = λ j k l. absurd (omega arith);
        owned = λ j k l h. absurd (omega arith);
        apart = λ j l g h. absurd (omega arith);
      }

  module _ (up : (j l : ℕ) → j < l → l < m → A j ≤ A l) (i : ℕ) (top holder : List ℕ) (s : Swept i top holder) where
    -- the record at i has no key, or is never present
    pub swept_skip : (K i < room → B i ≤ A i) → Swept (i + 1) top holder
    swept_skip e =
        -- so it is not one of a key that is present
        let none : (j : ℕ) → j ≡ i → K j < room → A j < B j → ⊥
        = λ j p r n.
        let r' : K i < room = rw p at r in
        let n' : A i < B i = rw p at n in
        omega (arith, e r') in
        record {
          reached = λ j k h q r n. ⊎_elim
              (λ (p : j ≡ i). absurd (none j p (rw q r) n))
              (λ p. s.reached j k (omega arith) q r n)
              (cases_eq j i);
          owned = λ j k l h q r n o g t. ⊎_elim
              (λ (p : j ≡ i). absurd (none j p (rw q r) n))
              (λ p. s.owned j k l (omega arith) q r n o (omega arith) t)
              (cases_eq j i);
          apart = λ j l g h q r o n t. ⊎_elim
              (λ (p : l ≡ i). absurd (none l p r t))
              (λ p. s.apart j l g (omega arith) q r o n t)
              (cases_eq l i);
        }

    -- the record at i has the key k, and was no hit
    module _ (k : ℕ) (ek : k ≡ K i) (kr : k < room) (im : i < m) (quiet : A i < at top k → at holder k ≡ O i) where
      -- those of its key and of other owners have ended
      ended : (j : ℕ) → j < i → K j ≡ k → (O j ≡ O i → ⊥) → A j < B j → B j ≤ A i
      ended j h q n e = ⊎_elim
          (λ l. s.owned j k i h q kr e (λ p. n (p ∙ quiet l)) (omega arith) im)
          (λ l. let r = s.reached j k h q kr e in omega arith)
          (cases_lt (A i) (at top k))

      apart_more : (j l : ℕ) → j < l → l < i + 1 → K j ≡ K l → K l < room → (O j ≡ O l → ⊥) → A j < B j → A l < B l → B j ≤ A l
      apart_more j l g h q t o n r = ⊎_elim
          (λ (p : l ≡ i).
          rw p (ended j (omega arith) (q ∙ ap K p ∙ sym ek) (λ e. o (e ∙ sym (ap O p))) n))
          (λ p. s.apart j l g (omega arith) q t o n r)
          (cases_eq l i)

      -- the top stays
      pub swept_keep : A i < B i → B i ≤ at top k → Swept (i + 1) top holder
      swept_keep e t =
          record {
            reached = λ j c h q r n. ⊎_elim
                (λ (p : j ≡ i). let f : c ≡ k = sym q ∙ ap K p ∙ sym ek in rw (p, f) t)
                (λ p. s.reached j c (omega arith) q r n)
                (cases_eq j i);
            owned = λ j c l h q w n o g r. ⊎_elim
                (λ (p : j ≡ i).
                let f : c ≡ k = sym q ∙ ap K p ∙ sym ek in
                absurd (o (ap O p ∙ sym (quiet (omega arith)) ∙ ap (at holder) (sym f))))
                (λ p. s.owned j c l (omega arith) q w n o (omega arith) r)
                (cases_eq j i);
            apart = apart_more;
          }

      -- the record at i gives the top
      pub swept_raise : k < length top → k < length holder → at top k < B i → Swept (i + 1) (set top k (B i)) (set holder k (O i))
      swept_raise kt kh t =
          let new-top = get_or-set_same top k (B i) 0 kt in
          let new-holder = get_or-set_same holder k (O i) 0 kh in
          record {
            reached = λ j c h q w n. ⊎_elim
                (λ (f : c ≡ k).
                rw (f, new-top)
                (⊎_elim
                (λ (p : j ≡ i). let z : B j ≡ B i = ap B p in omega arith)
                (λ p. let z = s.reached j k (omega arith) (q ∙ f) kr n in omega arith)
                (cases_eq j i)))
                (λ f.
                let p : j ≡ i → ⊥ = λ w. f (sym q ∙ ap K w ∙ sym ek) in
                let z = s.reached j c (omega arith) q w n in
                rw (get_or-set_other top k c (B i) 0 f) z)
                (cases_eq c k);
            owned = λ j c l h q w n o g r. ⊎_elim
                (λ (f : c ≡ k).
                let other : O j ≡ O i → ⊥ = λ w. o (w ∙ sym new-holder ∙ ap (at (set holder k (O i))) (sym f)) in
                let p : j ≡ i → ⊥ = λ w. other (ap O w) in
                let z = ended j (omega arith) (q ∙ f) other n in
                let y = up i l (omega arith) r in
                omega arith)
                (λ f.
                let p : j ≡ i → ⊥ = λ w. f (sym q ∙ ap K w ∙ sym ek) in
                s.owned j c l (omega arith) q w n (λ w. o (w ∙ sym (get_or-set_other holder k c (O i) 0 f))) (omega arith) r)
                (cases_eq c k);
            apart = apart_more;
          }

    -- no two of those done clash
    pub swept_clear : (j l p : ℕ) → j < i → l < i → K j < room → K j ≡ K l → (O j ≡ O l → ⊥) → A j ≤ p → p < B j → A l ≤ p → p < B l → ⊥
    swept_clear j l p h g t q o a b c d = ⊎_elim
        (λ e. let r : K l < room = omega arith in let z = s.apart j l e g q r o (omega arith) (omega arith) in omega arith)
        (λ e.
        let n : l ≡ j → ⊥ = λ w. o (ap O (sym w)) in
        let z = s.apart l j (omega arith) h (sym q) t (λ w. o (sym w)) (omega arith) (omega arith) in
        omega arith)
        (cases_lt j l)

    -- so of two that clash one is to come, and begins no earlier than the record at i
    pub swept_hit : (j l p : ℕ) → j < m → l < m → K j < room → K j ≡ K l → (O j ≡ O l → ⊥) → A j ≤ p → p < B j → A l ≤ p → p < B l → A i ≤ p
    swept_hit j l p jm lm t q o a b c d = ⊎_elim
        (λ h. ⊎_elim (λ g. absurd (swept_clear j l p h g t q o a b c d)) (λ g. later l lm g c) (cases_lt l i))
        (λ h. later j jm h a)
        (cases_lt j i)
      where
        later : (l : ℕ) → l < m → i ≤ l → A l ≤ p → A i ≤ p
        later l lm g c = ⊎_elim (λ (e : l ≡ i). rw e at c) (λ e. let z = up i l (omega arith) lm in omega arith) (cases_eq l i)

-- what holds of any two positions holds of any two records
module _ (order key owner lo hi : List ℕ) (room D : ℕ) where
  unfoldable pub Positions : Type 0
  Positions =
      (j l p : ℕ) → j < length order → l < length order → by order key j < room → by order key j ≡ by order key l → (by order owner j ≡ by order owner l → ⊥) →
      by order lo j ≤ p → p < by order hi j → by order lo l ≤ p → p < by order hi l → D ≤ p

  pub by-positions : Positions → ByClash order key owner lo hi room D
  unfolding Positions ByClash
  by-positions f x y p on-x on-y r q o s t =
      let ex = on-x.found in
      let ey = on-y.found in
      f on-x.place on-y.place p on-x.below on-y.below (rw ex r)
      (ap (at key) ex ∙ q ∙ sym (ap (at key) ey))
      (λ w. o (sym (ap (at owner) ex) ∙ w ∙ ap (at owner) ey))
      (rw ex s.from) (rw ex s.to) (rw ey t.from) (rw ey t.to)

-- the pass after i records of the order
unfoldable pub Sweep : (order key owner lo hi : List ℕ) → ℕ → ℕ → List ℕ → List ℕ → Type 0
Sweep order key owner lo hi room = Swept (by order key) (by order owner) (by order lo) (by order hi) (length order) room

module _ (order key owner lo hi : List ℕ) (room : ℕ) (rising : Rising order lo) (i : ℕ) (top holder : List ℕ) (s : Sweep order key owner lo hi room i top holder) where
  pub sweep_end : length order ≤ i → (D : ℕ) → ByClash order key owner lo hi room D
  unfolding Sweep Positions
  sweep_end m D =
      by-positions order key owner lo hi room D
      (λ j l p jm lm t q o a b c d. absurd (swept_clear _ _ _ _ _ _ rising.up i top holder s j l p (omega arith) (omega arith) t q o a b c d))

  -- record x is at i
  module _ (im : i < length order) (x : ℕ) (ex : x ≡ at order i) where
    pub sweep_hit : ByClash order key owner lo hi room (at lo x)
    unfolding Sweep Positions
    sweep_hit = rw ex (by-positions order key owner lo hi room (by order lo i) (swept_hit _ _ _ _ _ _ rising.up i top holder s))

    pub sweep_skip : (at key x < room → at hi x ≤ at lo x) → Sweep order key owner lo hi room (i + 1) top holder
    unfolding Sweep
    sweep_skip h = swept_skip _ _ _ _ _ _ rising.up i top holder s (rw ex at h)

    -- its key is k, and it was no hit
    module _ (k : ℕ) (ek : k ≡ at key x) (kr : k < room) (quiet : (ltb (at lo x) (at top k) && not (eqb (at holder k) (at owner x))) ≡ false) where
      pub sweep_keep : at lo x < at hi x → at hi x ≤ at top k → Sweep order key owner lo hi room (i + 1) top holder
      unfolding Sweep
      sweep_keep h t =
          swept_keep _ _ _ _ _ _ rising.up i top holder s k (rw ex at ek) kr im (no_hit _ _ _ _ (rw ex at quiet)) (rw ex at h) (rw ex at t)

      pub sweep_raise : k < length top → k < length holder → at top k < at hi x →
          Sweep order key owner lo hi room (i + 1) (set top k (at hi x)) (set holder k (at owner x))
      unfolding Sweep
      sweep_raise kt kh t =
          rw ex (swept_raise _ _ _ _ _ _ rising.up i top holder s k (rw ex at ek) kr im (no_hit _ _ _ _ (rw ex at quiet)) kt kh (rw ex at t))

pub sweep_none : (order key owner lo hi : List ℕ) (room : ℕ) (top holder : List ℕ) → Sweep order key owner lo hi room 0 top holder
unfolding Sweep
sweep_none order key owner lo hi room top holder = swept_none _ _ _ _ _ _ top holder
