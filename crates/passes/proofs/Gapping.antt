-- How the pass for gaps goes on.
use mathlib.Core.Path.{◌≡◌, refl, sym, ◌∙◌, ap}
use mathlib.Core.Logic.{⊎_elim}
use mathlib.Core.List.{List}
use Prim.Native.Nat.{ℕ, ◌+◌, ◌≤◌, ◌<◌, max}
use native.Mathlib.Omega.{arith}
use lib.ListN.{length, set}
use lib.Seq.{get_or-set_same, get_or-set_other}
use Rattle.std.proofs.lemmas.Bool.{cases_eq, cases_lt}
use Rattle.passes.specs.Passes.{at, Rising, ByGap}
use Rattle.passes.specs.Given.{Cleared}
use Rattle.passes.specs.Gaps.{Raised, Missed, Demanded, Supplied, Unmet}
use Rattle.passes.proofs.Cases.{by}

-- no supply of the key k is present at p
unfoldable pub Free : (order lo supply shi : List ℕ) → ℕ → ℕ → Type 0
Free order lo supply shi k p = (v : ℕ) → v < length order → by order supply v ≡ k → by order lo v ≤ p → p < by order shi v → ⊥

-- the demands at positions below i are met, D is the answer so far
pub record Met (order lo demand dhi supply shi : List ℕ) (room i D : ℕ) (reach need : List ℕ) : Type 0 where
  -- a demand met has ended by the need of its key
  pub needed : (u k : ℕ) → u < i → by order demand u ≡ k → k < room → by order lo u < by order dhi u → by order dhi u ≤ at need k
  -- within reach no demand met is without supply, or the answer tells
  pub told : (u k p : ℕ) → u < i → by order demand u ≡ k → k < room → by order lo u ≤ p → p < by order dhi u → p < at reach k → Free order lo supply shi k p → D ≤ p
  -- within reach all is supplied from the next demand on
  pub ahead : (u k p : ℕ) → i ≤ u → u < length order → k < room → by order lo u ≤ p → p < at reach k → Free order lo supply shi k p → ⊥

module _ (order lo demand dhi supply shi : List ℕ) (room : ℕ) where
  pub met_none : (D : ℕ) (reach need : List ℕ) → Cleared reach room → Met order lo demand dhi supply shi room 0 D reach need
  met_none D reach need z =
      record {
        needed = λ u k h. absurd (omega arith);
        told = λ u k p h. absurd (omega arith);
        ahead = λ u k p h um kr a b. absurd (omega (arith, z.zeros k kr));
      }

  -- the record at i is taken as a demand
  pub met_demand : (i D : ℕ) (reach need : List ℕ) → Met order lo demand dhi supply shi room i D reach need → Rising order lo → i < length order →
      (x : ℕ) → x ≡ at order i → (reach' need' : List ℕ) → Demanded (at demand x) (at lo x) (at dhi x) room reach need reach' need' →
      Met order lo demand dhi supply shi room (i + 1) D reach' need'
  met_demand i D reach need m rising im x ex reach' need' taken =
      let lo-i : at lo x ≡ by order lo i = ap (at lo) ex in
      let hi-i : at dhi x ≡ by order dhi i = ap (at dhi) ex in
      let key-i : at demand x ≡ by order demand i = ap (at demand) ex in
      -- a place within the new reach is within the old one, if it is before the need or not before the demand
      let back : (k p : ℕ) → p < at reach' k → ((at need k ≤ p) × (p < by order lo i) → ⊥) → p < at reach k
      = λ k p h no. ⊎_elim (λ l. l)
      (λ l. let w = taken.passed k p l h in absurd (no (w.0, omega (arith, w.1))))
      (cases_lt p (at reach k)) in
      record {
        needed = λ u k h q kr l. ⊎_elim
            (λ (w : u ≡ i).
            let e : at demand x ≡ k = key-i ∙ sym (ap (by order demand) w) ∙ q in
            let l' : by order lo i < by order dhi i = rw w at l in
            let z = taken.risen (omega arith) (omega arith) in
            let y : at dhi x ≤ at need' k = rw e at z in
            rw w (omega arith))
            (λ w. let z = m.needed u k (omega arith) q kr l in omega (arith, taken.kept k))
            (cases_eq u i);
        told = λ u k p h q kr a b l free. ⊎_elim
            (λ (w : u ≡ i).
            let a' : by order lo i ≤ p = rw w at a in
            absurd (m.ahead i k p (omega arith) im kr a' (back k p l (λ t. omega (arith, t.1))) free))
            (λ w.
            let z = m.needed u k (omega arith) q kr (omega arith) in
            m.told u k p (omega arith) q kr a b (back k p l (λ t. omega (arith, t.0))) free)
            (cases_eq u i);
        ahead = λ u k p h um kr a l free.
            let up = rising.up i u (omega arith) um in
            m.ahead u k p (omega arith) um kr a (back k p l (λ t. omega (arith, t.1, up))) free;
      }

  -- the record at i is taken as a supply; the demands to come begin no earlier
  pub met_supply : (i D : ℕ) (reach need : List ℕ) → Met order lo demand dhi supply shi room (i + 1) D reach need → Rising order lo → i < length order →
      (x : ℕ) → x ≡ at order i → (reach' : List ℕ) (r : ℕ) → Supplied (at supply x) (at lo x) (at shi x) reach need D reach' r →
      Met order lo demand dhi supply shi room (i + 1) r reach' need
  unfolding Free
  met_supply i D reach need m rising im x ex reach' r taken =
      let lo-i : at lo x ≡ by order lo i = ap (at lo) ex in
      let hi-i : at shi x ≡ by order shi i = ap (at shi) ex in
      let key-i : at supply x ≡ by order supply i = ap (at supply) ex in
      -- a place within the new reach and not within the old one comes before the supply, if it is free
      let before : (k p : ℕ) → p < at reach' k → at reach k ≤ p → Free order lo supply shi k p → p < by order lo i
      = λ k p h l free.
      let w = taken.passed k p l h in
      ⊎_elim (λ g. g)
      (λ g. absurd (free i im (sym key-i ∙ sym w.0) (omega arith) (omega (arith, w.1))))
      (cases_lt p (by order lo i)) in
      record {
        needed = m.needed;
        told = λ u k p h q kr a b l free. ⊎_elim
            (λ g. let z = m.told u k p h q kr a b g free in omega (arith, taken.sooner))
            (λ g.
            let w = before k p l g free in
            let z = m.needed u k h q kr (omega arith) in
            let t = taken.missed k p g l (omega arith) (omega arith) in
            omega arith)
            (cases_lt p (at reach k));
        ahead = λ u k p h um kr a l free. ⊎_elim
            (λ g. m.ahead u k p h um kr a g free)
            (λ g.
            let w = before k p l g free in
            let up = rising.up i u (omega arith) um in
            omega arith)
            (cases_lt p (at reach k));
      }

  -- all demands are met
  pub met_end : (i D : ℕ) (reach need : List ℕ) → Met order lo demand dhi supply shi room i D reach need → length order ≤ i →
      (r : ℕ) → Unmet reach need D room r → ByGap order lo demand dhi supply shi room r
  unfolding ByGap Free
  met_end i D reach need m im r unmet x p on kx h none =
      let u = on.place in
      let um = on.below in
      let e = on.found in
      let k = at demand x in
      let q : by order demand u ≡ k = ap (at demand) e in
      let free : Free order lo supply shi k p
      = λ v vm w a b. none (at order v) (record { place = v; below = vm; found = refl }) w (record { from = a; to = b }) in
      let a : by order lo u ≤ p = rw e h.from in
      let b : p < by order dhi u = rw e h.to in
      ⊎_elim
      (λ l. let z = m.told u k p (omega arith) q kx a b l free in omega (arith, unmet.no_later))
      (λ l.
      let z = m.needed u k (omega arith) q kx (omega arith) in
      let w = unmet.each k kx (omega arith) in
      omega arith)
      (cases_lt p (at reach k))

-- a demand of a key below room that is ever present is taken
pub demand-taken : (reach need : List ℕ) (k key : ℕ) → k ≡ key → k < length reach → k < length need → (a b room r n : ℕ) →
    Raised (at need k) (at reach k) a r → n ≡ max (at need k) b → Demanded key a b room reach need (set reach k r) (set need k n)
demand-taken reach need k key ek kr kn a b room r n raised later =
    let new-reach = get_or-set_same reach k r 0 kr in
    let new-need = get_or-set_same need k n 0 kn in
    record {
      kept = λ c. ⊎_elim
          (λ (f : c ≡ k). rw (f, new-need) (omega arith))
          (λ f. rw (get_or-set_other need k c n 0 f) (omega arith))
          (cases_eq c k);
      risen = λ h l. rw (← ek, new-need) (omega arith);
      passed = λ c p l h. ⊎_elim
          (λ (f : c ≡ k).
          let l' : at reach k ≤ p = rw f at l in
          let h' : p < r = rw (f, new-reach) at h in
          rw f (raised.passed p l' h'))
          (λ f. let h' : p < at reach c = rw (get_or-set_other reach k c r 0 f) at h in absurd (omega arith))
          (cases_eq c k);
    }

-- a supply of a key below room that is ever present is taken
pub supply-taken : (reach need : List ℕ) (k key : ℕ) → k ≡ key → k < length reach → (a b D s r : ℕ) →
    s ≡ max (at reach k) b → Missed (at reach k) (at need k) a D r → Supplied key a b reach need D (set reach k s) r
supply-taken reach need k key ek kr a b D s r later missed =
    let new-reach = get_or-set_same reach k s 0 kr in
    -- only the reach of the key goes up, to the end of the supply
    let passed : (c p : ℕ) → at reach c ≤ p → p < at (set reach k s) c → (c ≡ k) × (p < b)
    = λ c p l h. ⊎_elim
    (λ (f : c ≡ k).
    let l' : at reach k ≤ p = rw f at l in
    let h' : p < s = rw (f, new-reach) at h in
    (f, ⊎_elim (λ g. g) (λ g. absurd (omega arith)) (cases_lt p b)))
    (λ f. let h' : p < at reach c = rw (get_or-set_other reach k c s 0 f) at h in absurd (omega arith))
    (cases_eq c k) in
    record {
      sooner = missed.sooner;
      passed = λ c p l h. let w = passed c p l h in (w.0 ∙ ek, w.1);
      missed = λ c p l h e w.
          let f : c ≡ k = (passed c p l h).0 in
          let e' : at reach k < a = rw f at e in
          let w' : at reach k < at need k = rw f at w in
          rw f (missed.missed e' w');
    }

-- the keys one after the other
pub unmet_none : (reach need : List ℕ) (D : ℕ) → Unmet reach need D 0 D
unmet_none reach need D = record { no_later = omega arith; each = λ c h. absurd (omega arith) }

pub unmet_more : (reach need : List ℕ) (D k r r' : ℕ) → Unmet reach need D k r → at need k ≤ 65535 →
    Missed (at reach k) (at need k) 65535 r r' → Unmet reach need D (k + 1) r'
unmet_more reach need D k r r' s fits missed =
    record {
      no_later = omega (arith, s.no_later, missed.sooner);
      each = λ c h l. ⊎_elim
          (λ (e : c ≡ k).
          let l' : at reach k < at need k = rw e at l in
          rw e (missed.missed (omega arith) l'))
          (λ e. let z = s.each c (omega arith) l in omega (arith, missed.sooner))
          (cases_eq c k);
    }
