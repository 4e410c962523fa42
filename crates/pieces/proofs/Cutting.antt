-- How the stretches are cut, from the last record of the order down.
use mathlib.Core.Path.{◌≡◌, sym, ◌∙◌, ap}
use mathlib.Core.List.{List}
use mathlib.Core.Logic.{⊎_elim}
use Prim.Native.Nat.{ℕ, ◌+◌, ◌≤◌, ◌<◌, min}
use native.Mathlib.Omega.{arith}
use lib.ListN.{length, set}
use lib.Seq.{get_or-set_same, get_or-set_other}
use Rattle.std.proofs.lemmas.Bool.{cases_eq}
use Rattle.passes.specs.Passes.{at, Rising}
use Rattle.passes.proofs.Cases.{by}
use Rattle.pieces.specs.Steps.{Cut}

-- the records from position i on are done; `next` has by row a begin that is no later than theirs
pub record Cutting (order key lo : List ℕ) (n i : ℕ) (to₀ next to : List ℕ) : Type 0 where
  pub first : (v k : ℕ) → i ≤ v → v < length order → by order key v ≡ k → k < n → at next k ≤ by order lo v
  pub sooner : (x : ℕ) → at to x ≤ at to₀ x
  pub ends : (u v : ℕ) → i ≤ u → u < v → v < length order → by order key u < n → by order key v ≡ by order key u → at to (at order u) ≤ by order lo v

module _ (order key lo : List ℕ) (n : ℕ) (to₀ : List ℕ) where
  pub cutting_none : (i : ℕ) → i ≡ length order → (next : List ℕ) → Cutting order key lo n i to₀ next to₀
  cutting_none i e next =
      record {
        first = λ v k h l. absurd (omega arith);
        sooner = λ x. omega arith;
        ends = λ u v h l m. absurd (omega arith);
      }

  -- record x is at i, and those after it are done
  module _ (i j : ℕ) (ej : j ≡ i + 1) (next to : List ℕ) (s : Cutting order key lo n j to₀ next to) (x : ℕ) (ex : x ≡ at order i) where
    key-at : {u : ℕ} → u ≡ i → by order key u ≡ at key x
    key-at w = ap (at key) (ap (at order) w ∙ sym ex)

    pub cutting_skip : n ≤ at key x → Cutting order key lo n i to₀ next to
    cutting_skip l =
        record {
          first = λ v k h m q kn. ⊎_elim
              (λ (w : v ≡ i). let e = key-at w in absurd (omega arith))
              (λ w. s.first v k (omega arith) m q kn)
              (cases_eq v i);
          sooner = s.sooner;
          ends = λ u v h g m kn q. ⊎_elim
              (λ (w : u ≡ i). let e = key-at w in absurd (omega arith))
              (λ w. s.ends u v (omega arith) g m kn q)
              (cases_eq u i);
        }

    pub cutting_more : Rising order lo → (k : ℕ) → k ≡ at key x → k < n → k < length next → x < length to → (r : ℕ) → r ≡ min (at to x) (at next k) →
        Cutting order key lo n i to₀ (set next k (at lo x)) (set to x r)
    cutting_more rising k ek kn kl xl r less =
        let new-next = get_or-set_same next k (at lo x) 0 kl in
        let new-to = get_or-set_same to x r 0 xl in
        -- no stretch is made longer
        let falls : (y : ℕ) → at (set to x r) y ≤ at to y
        = λ y. ⊎_elim
        (λ (e : y ≡ x). rw (e, new-to) (omega arith))
        (λ e. rw (get_or-set_other to x y r 0 e) (omega arith))
        (cases_eq y x) in
        record {
          first = λ v c h m q cn. ⊎_elim
              (λ (f : c ≡ k).
              let lo_x : at lo x ≡ by order lo i = ap (at lo) ex in
              rw (f, new-next)
              (⊎_elim
              (λ (w : v ≡ i). let z : by order lo v ≡ by order lo i = ap (by order lo) w in omega arith)
              (λ w. let z = rising.up i v (omega arith) m in omega arith)
              (cases_eq v i)))
              (λ f.
              let w : v ≡ i → ⊥ = λ w. f (sym q ∙ key-at w ∙ sym ek) in
              let z = s.first v c (omega arith) m q cn in
              rw (get_or-set_other next k c (at lo x) 0 f) z)
              (cases_eq c k);
          sooner = λ y. omega (arith, falls y, s.sooner y);
          ends = λ u v h g m un q. ⊎_elim
              (λ (w : u ≡ i).
              let e : at order u ≡ x = ap (at order) w ∙ sym ex in
              let z = s.first v k (omega arith) m (q ∙ key-at w ∙ sym ek) kn in
              rw (e, new-to) (omega arith))
              (λ w. let z = s.ends u v (omega arith) g m un q in omega (arith, falls (at order u)))
              (cases_eq u i);
        }

  pub cutting_end : (i : ℕ) (next to : List ℕ) → Cutting order key lo n i to₀ next to → i ≤ 0 → Cut order key lo n to₀ to
  cutting_end i next to s h = record { sooner = s.sooner; ends = λ u v g m un q. s.ends u v (omega arith) g m un q }
