-- How the pass for the least place goes on.
use mathlib.Core.Path.{◌≡◌, sym, ap, ◌∙◌}
use mathlib.Core.List.{List}
use mathlib.Core.Logic.{⊎_elim}
use Prim.Native.Nat.{ℕ, ◌+◌, ◌≤◌, ◌<◌}
use native.Mathlib.Omega.{arith}
use lib.ListN.{length}
use Rattle.std.proofs.lemmas.Bool.{cases_eq, cases_lt}
use Rattle.passes.specs.Passes.{at, Rising, ByLeast}

-- the records with a key at positions below i are never present
pub record Never (order key lo hi : List ℕ) (room i : ℕ) : Type 0 where
  pub never : (j : ℕ) → j < i → at key (at order j) < room → at hi (at order j) ≤ at lo (at order j)

module _ (order key lo hi : List ℕ) (room : ℕ) where
  pub never_none : Never order key lo hi room 0
  never_none = record { never = λ j h. absurd (omega arith) }

  module _ (i : ℕ) (s : Never order key lo hi room i) where
    pub never_more : (x : ℕ) → x ≡ at order i → (at key x < room → at hi x ≤ at lo x) → Never order key lo hi room (i + 1)
    never_more x ex h =
        record {
          never = λ j l. ⊎_elim
              (λ (e : j ≡ i). rw (e, ← ex) h)
              (λ e. s.never j (omega arith))
              (cases_eq j i);
        }

    pub never_end : length order ≤ i → (D : ℕ) → ByLeast order key lo hi room D
    unfolding ByLeast
    never_end m D x p on kx h =
        let b = on.below in
        let n = rw on.found at (s.never on.place (omega arith)) in
        absurd (omega (arith, n kx, h.from, h.to))

    pub never_hit : Rising order lo → i < length order → (y : ℕ) → y ≡ at order i → ByLeast order key lo hi room (at lo y)
    unfolding ByLeast
    never_hit rising im y ey x p on kx h =
        let e = on.found in
        ⊎_elim
        (λ l. let n = rw e at (s.never on.place l) in absurd (omega (arith, n kx, h.from, h.to)))
        (λ l. ⊎_elim
        (λ (q : on.place ≡ i).
        let z : x ≡ y = sym e ∙ ap (at order) q ∙ sym ey in
        rw z at h.from)
        (λ q.
        let u : at lo (at order i) ≤ at lo x = rw e at (rising.up i on.place (omega arith) on.below) in
        let v : at lo y ≤ at lo x = rw ey u in
        omega (arith, h.from))
        (cases_eq on.place i))
        (cases_lt on.place i)
