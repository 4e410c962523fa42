-- How the pass along a list of versions goes on. T, C, A, B: whether the version at a position is taken, its class, begin and end.
use mathlib.Core.Path.{◌≡◌, refl, sym, ◌∙◌, ap}
use mathlib.Core.Logic.{⊎_elim}
use mathlib.Core.Bool.{Bool, true, false}
use mathlib.Core.List.{List}
use Prim.Native.Nat.{ℕ, ◌+◌, ◌≤◌, ◌<◌}
use native.Mathlib.Nat.{eq-or-lt_of_le}
use native.Mathlib.Omega.{arith}
use lib.Dec.{eqb}
use lib.ListN.{length, get_or, set}
use lib.Seq.{get_or-set_same, get_or-set_other}
use Rattle.meaning.proofs.Basics.{went, clear, le_or_lt}
use Rattle.meaning.proofs.Says.{says}
use Rattle.twins.specs.Apart.{under, class_of, Lists, Follows, Apart}
use Rattle.twins.proofs.Classing.{last_or}

module _ (T : ℕ → Bool) (C A B : ℕ → ℕ) where
  -- the positions below i are done: the reach of a class is no earlier than any of its ends, and each began where those before it had ended
  pub record Swept (i : ℕ) (reach : List ℕ) : Type 0 where
    pub reached : (q : ℕ) → q < i → T q ≡ true → B q ≤ get_or reach (C q) 0
    pub apart : (q r : ℕ) → q < r → r < i → T q ≡ true → T r ≡ true → C q ≡ C r → B q ≤ A r

  pub swept_none : (reach : List ℕ) → Swept 0 reach
  swept_none reach = record { reached = λ q h. absurd (omega arith); apart = λ q r g h. absurd (omega arith) }

  module _ (i : ℕ) (reach : List ℕ) (s : Swept i reach) where
    -- the one at i is not taken
    pub swept_skip : T i ≡ false → Swept (i + 1) reach
    swept_skip n =
        let below : (q : ℕ) → q < i + 1 → T q ≡ true → q < i
        = λ q h t. ⊎_elim (λ (e : q ≡ i). absurd (clear t (ap T e ∙ n))) (λ b. b) (last_or q i (omega arith)) in
        record {
          reached = λ q h t. s.reached q (below q h t) t;
          apart = λ q r g h t w. s.apart q r g (below r h w) t w;
        }

    -- the one at i, of class c, begins and ends no earlier than those before it have ended
    module _ (c : ℕ) (e : c ≡ C i) (room : c < length reach) (from : get_or reach c 0 ≤ A i) (to : get_or reach c 0 ≤ B i) where
      pub swept_store : Swept (i + 1) (set reach c (B i))
      swept_store =
          let new = get_or-set_same reach c (B i) 0 room in
          -- what ended before, of its class
          let ended : (q : ℕ) → q < i → T q ≡ true → C q ≡ c → B q ≤ get_or reach c 0
          = λ q h t p. rw p at (s.reached q h t) in
          record {
            reached = λ q h t. ⊎_elim
                (λ y.
                let p = simp says at y in
                rw (p, new)
                (⊎_elim (λ (z : q ≡ i). rw z (omega arith)) (λ z. omega (arith, ended q z t p)) (last_or q i (omega arith))))
                (λ n.
                let p = simp says at n in
                let z : q ≡ i → ⊥ = λ y. p (ap C y ∙ sym e) in
                rw (get_or-set_other reach c (C q) (B i) 0 p) (s.reached q (omega arith) t))
                (went (eqb (C q) c));
            apart = λ q r g h t w p. ⊎_elim
                (λ (z : r ≡ i). rw z (omega (arith, ended q (omega arith) t (p ∙ ap C z ∙ sym e))))
                (λ z. s.apart q r g z t w p)
                (last_or r i (omega arith));
          }

module _ (kinds parents begins ends classes order : List ℕ) (m : ℕ) where
  -- the pass over items below m after i of the list
  unfoldable pub Sweep : ℕ → List ℕ → Type 0
  Sweep =
      Swept (λ q. under kinds parents m (get_or order q 0)) (λ q. class_of parents classes (get_or order q 0))
      (λ q. get_or begins (get_or order q 0) 0) (λ q. get_or ends (get_or order q 0) 0)

  pub sweep_none : (reach : List ℕ) → Sweep 0 reach
  unfolding Sweep
  sweep_none reach = swept_none _ _ _ _ reach

  module _ (i : ℕ) (reach : List ℕ) (s : Sweep i reach) where
    -- version v is at i
    pub sweep_next : (v : ℕ) → v ≡ get_or order i 0 → (reach' : List ℕ) → Follows kinds parents begins ends classes m v reach reach' → Sweep (i + 1) reach'
    unfolding Sweep
    sweep_next v ev reach' f =
        let g : Follows kinds parents begins ends classes m (get_or order i 0) reach reach' = rw ev at f in
        ⊎_elim
        (λ y. let t = g.taken y in rw t.next (swept_store _ _ _ _ i reach s _ refl t.room t.begun t.ended))
        (λ n. rw (g.other n) (swept_skip _ _ _ _ i reach s n))
        (went (under kinds parents m (get_or order i 0)))

    -- a list that has every version
    module _ (many : ℕ) (l : Lists kinds order many) (done : many ≤ i) where
      -- two versions at different positions
      ordered : (p q : ℕ) → p < q → q < many → (u v : ℕ) → get_or order p 0 ≡ u → get_or order q 0 ≡ v → under kinds parents m u ≡ true → under kinds parents m v ≡ true
          → class_of parents classes u ≡ class_of parents classes v → get_or ends u 0 ≤ get_or begins v 0
      unfolding Sweep
      ordered p q g h u v eu ev tu tv e = rw (eu, ev) at (s.apart p q g (omega arith) (rw eu tu) (rw ev tv) (rw (eu, ev) e))

      pub sweep_end : Apart kinds parents begins ends classes m
      sweep_end =
          record {
            apart = λ u v tu tv e n a b.
                let x = l.all u (simp says at tu).0 in
                let y = l.all v (simp says at tv).0 in
                ⊎_elim
                (λ (q : l.place u ≤ l.place v).
                ⊎_elim
                (λ (p : l.place u ≡ l.place v). n (sym x.1 ∙ ap (λ k. get_or order k 0) p ∙ y.1))
                (λ p. omega (arith, ordered (l.place u) (l.place v) p y.0 u v x.1 y.1 tu tv e))
                (eq-or-lt_of_le q))
                (λ q. omega (arith, ordered (l.place v) (l.place u) q x.0 v u y.1 x.1 tv tu (sym e)))
                (le_or_lt (l.place u) (l.place v));
          }
