-- How the pass for gaps goes on where the supplies come in an order of their own: it takes the first i demands and some supplies, one at a time.
use mathlib.Core.Path.{◌≡◌, refl, sym, ◌∙◌, ap}
use mathlib.Core.Logic.{⊎_elim}
use mathlib.Core.List.{List}
use Prim.Native.Nat.{ℕ, ◌+◌, ◌≤◌, ◌<◌}
use native.Mathlib.Omega.{arith}
use lib.ListN.{length}
use Rattle.std.proofs.lemmas.Bool.{cases_eq, cases_lt}
use Rattle.passes.specs.Passes.{at, Rising}
use Rattle.passes.specs.Given.{Cleared}
use Rattle.passes.specs.Gaps.{Demanded, Supplied, Unmet}
use Rattle.passes.proofs.Cases.{by}
use Rattle.pieces.specs.Merged.{ByGapApart}

-- no supply of the key k is present at p
unfoldable pub Free : (supplies from supply shi : List ℕ) → ℕ → ℕ → Type 0
Free supplies from supply shi k p = (v : ℕ) → v < length supplies → by supplies supply v ≡ k → by supplies from v ≤ p → p < by supplies shi v → ⊥

-- the demands at positions below i are met, D is the answer so far; `free` tells where no supply of a key is present
pub record Met (order lo demand dhi : List ℕ) (free : ℕ → ℕ → Type 0) (room i D : ℕ) (reach need : List ℕ) : Type 0 where
  -- a demand met has ended by the need of its key
  pub needed : (u k : ℕ) → u < i → by order demand u ≡ k → k < room → by order lo u < by order dhi u → by order dhi u ≤ at need k
  -- within reach no demand met is without supply, or the answer tells
  pub told : (u k p : ℕ) → u < i → by order demand u ≡ k → k < room → by order lo u ≤ p → p < by order dhi u → p < at reach k → free k p → D ≤ p
  -- within reach all is supplied from the next demand on
  pub ahead : (u k p : ℕ) → i ≤ u → u < length order → k < room → by order lo u ≤ p → p < at reach k → free k p → ⊥

module _ (order lo demand dhi : List ℕ) (room : ℕ) where
  module _ (free : ℕ → ℕ → Type 0) where
    pub met_none : (D : ℕ) (reach need : List ℕ) → Cleared reach room → Met order lo demand dhi free room 0 D reach need
    met_none D reach need z =
        record {
          needed = λ u k h. absurd (omega arith);
          told = λ u k p h. absurd (omega arith);
          ahead = λ u k p h um kr a b. absurd (omega (arith, z.zeros k kr));
        }

    -- the record at i is taken as a demand
    pub met_demand : (i D : ℕ) (reach need : List ℕ) → Met order lo demand dhi free room i D reach need → Rising order lo → i < length order →
        (x : ℕ) → x ≡ at order i → (reach' need' : List ℕ) → Demanded (at demand x) (at lo x) (at dhi x) room reach need reach' need' →
        Met order lo demand dhi free room (i + 1) D reach' need'
    met_demand i D reach need m rising im x ex reach' need' taken =
        let lo-i : at lo x ≡ by order lo i = ap (at lo) ex in
        let hi-i : at dhi x ≡ by order dhi i = ap (at dhi) ex in
        let key-i : at demand x ≡ by order demand i = ap (at demand) ex in
        -- a place within the new reach is within the old one, if it is before the need or not before the demand
        let back : (k p : ℕ) → p < at reach' k → ((at need k ≤ p) × (p < by order lo i) → ⊥) → p < at reach k
        = λ k p h no. ⊎_elim (λ l. l)
        (λ l. let w = taken.passed k p l h in absurd (no (w.0, omega (arith, w.1))))
        (cases_lt p (at reach k)) in
        record {
          needed = λ u k h q kr l. ⊎_elim
              (λ (w : u ≡ i).
              let e : at demand x ≡ k = key-i ∙ sym (ap (by order demand) w) ∙ q in
              let l' : by order lo i < by order dhi i = rw w at l in
              let z = taken.risen (omega arith) (omega arith) in
              let y : at dhi x ≤ at need' k = rw e at z in
              rw w (omega arith))
              (λ w. let z = m.needed u k (omega arith) q kr l in omega (arith, taken.kept k))
              (cases_eq u i);
          told = λ u k p h q kr a b l none. ⊎_elim
              (λ (w : u ≡ i).
              let a' : by order lo i ≤ p = rw w at a in
              absurd (m.ahead i k p (omega arith) im kr a' (back k p l (λ t. omega (arith, t.1))) none))
              (λ w.
              let z = m.needed u k (omega arith) q kr (omega arith) in
              m.told u k p (omega arith) q kr a b (back k p l (λ t. omega (arith, t.0))) none)
              (cases_eq u i);
          ahead = λ u k p h um kr a l none.
              let up = rising.up i u (omega arith) um in
              m.ahead u k p (omega arith) um kr a (back k p l (λ t. omega (arith, t.1, up))) none;
        }

  module _ (supplies from supply shi : List ℕ) where
    -- what is free of supplies here
    abbrev bare : ℕ → ℕ → Type 0
    bare = Free supplies from supply shi

    -- the supply at j is taken, which begins no later than the next demand
    pub met_supply : (i j D : ℕ) (reach need : List ℕ) → Met order lo demand dhi bare room i D reach need → Rising order lo → j < length supplies →
        (y : ℕ) → y ≡ at supplies j → (i < length order → by supplies from j ≤ by order lo i) →
        (reach' : List ℕ) (r : ℕ) → Supplied (at supply y) (at from y) (at shi y) reach need D reach' r →
        Met order lo demand dhi bare room i r reach' need
    unfolding Free
    met_supply i j D reach need m rising jm y ey no_later reach' r taken =
        let from-j : at from y ≡ by supplies from j = ap (at from) ey in
        let hi-j : at shi y ≡ by supplies shi j = ap (at shi) ey in
        let key-j : at supply y ≡ by supplies supply j = ap (at supply) ey in
        -- a place within the new reach and not within the old one comes before the supply, if it is free
        let before : (k p : ℕ) → p < at reach' k → at reach k ≤ p → bare k p → p < by supplies from j
        = λ k p h l none.
        let w = taken.passed k p l h in
        ⊎_elim (λ g. g)
        (λ g. absurd (none j jm (sym key-j ∙ sym w.0) (omega arith) (omega (arith, w.1))))
        (cases_lt p (by supplies from j)) in
        record {
          needed = m.needed;
          told = λ u k p h q kr a b l none. ⊎_elim
              (λ g. let z = m.told u k p h q kr a b g none in omega (arith, taken.sooner))
              (λ g.
              let w = before k p l g none in
              let z = m.needed u k h q kr (omega arith) in
              let t = taken.missed k p g l (omega arith) (omega arith) in
              omega arith)
              (cases_lt p (at reach k));
          ahead = λ u k p h um kr a l none. ⊎_elim
              (λ g. m.ahead u k p h um kr a g none)
              (λ g.
              let w = before k p l g none in
              let first = no_later (omega arith) in
              ⊎_elim
              (λ (e : u ≡ i). let z : by order lo u ≡ by order lo i = ap (by order lo) e in omega arith)
              (λ e. let up = rising.up i u (omega arith) um in omega arith)
              (cases_eq u i))
              (cases_lt p (at reach k));
        }

    -- all demands are met, and all supplies taken
    pub met_end : (i D : ℕ) (reach need : List ℕ) → Met order lo demand dhi bare room i D reach need → length order ≤ i →
        (r : ℕ) → Unmet reach need D room r → ByGapApart order lo demand dhi supplies from supply shi room r
    unfolding ByGapApart Free
    met_end i D reach need m im r unmet x p on kx h none =
        let u = on.place in
        let um = on.below in
        let e = on.found in
        let k = at demand x in
        let q : by order demand u ≡ k = ap (at demand) e in
        let free : bare k p
        = λ v vm w a b. none (at supplies v) (record { place = v; below = vm; found = refl }) w (record { from = a; to = b }) in
        let a : by order lo u ≤ p = rw e h.from in
        let b : p < by order dhi u = rw e h.to in
        ⊎_elim
        (λ l. let z = m.told u k p (omega arith) q kx a b l free in omega (arith, unmet.no_later))
        (λ l.
        let z = m.needed u k (omega arith) q kx (omega arith) in
        let w = unmet.each k kx (omega arith) in
        omega arith)
        (cases_lt p (at reach k))
