-- How the stretches of the records are drawn along the order.
use mathlib.Core.Path.{◌≡◌, sym, ◌∙◌, ap}
use mathlib.Core.List.{List}
use mathlib.Core.Logic.{⊎_elim}
use Prim.Native.Nat.{ℕ, ◌+◌, ◌≤◌, ◌<◌, max}
use native.Mathlib.Omega.{arith}
use lib.ListN.{length, set}
use lib.Seq.{get_or-set_same, get_or-set_other}
use Rattle.std.proofs.lemmas.Bool.{cases_eq}
use Rattle.passes.specs.Passes.{at, Rising}
use Rattle.passes.specs.Given.{Cleared}
use Rattle.passes.proofs.Cases.{by}
use Rattle.pieces.specs.Steps.{Early, Drawn}
use Rattle.pieces.proofs.Ranking.{Ranks}

module _ (order key lo hi : List ℕ) (n : ℕ) where
  pub drawn_none : (from to sole : List ℕ) → Cleared to n → Drawn order key lo hi n 0 from to sole
  drawn_none from to sole z =
      record {
        begun = λ u h. absurd (omega arith);
        rows = λ x p h t. absurd (omega (arith, z.zeros x h));
        early = λ x p h f t. absurd (omega (arith, z.zeros x h));
      }

  -- record x is at i
  module _ (i : ℕ) (from to sole : List ℕ) (d : Drawn order key lo hi n i from to sole) (x : ℕ) (ex : x ≡ at order i) (xf : x < length from) where
    further : {y s p : ℕ} → Early order key lo hi i y s p → Early order key lo hi (i + 1) y s p
    further h =
        record {
          place = h.place;
          below = omega (arith, h.below);
          found = h.found;
          holder = h.holder;
          by_then = h.by_then;
          names = h.names;
          of = h.of;
          from = h.from;
          to = h.to;
          only = h.only;
        }

    -- it begins its stretch at a, which is no sooner than its own begin
    begun_more : (a : ℕ) → at lo x ≤ a → (u : ℕ) → u < i + 1 → by order lo u ≤ at (set from x a) (at order u)
    begun_more a l u h = ⊎_elim
        (λ (e : at order u ≡ x). rw (e, get_or-set_same from x a 0 xf) l)
        (λ e.
        let w : u ≡ i → ⊥ = λ w. e (ap (at order) w ∙ sym ex) in
        let z = d.begun u (omega arith) in
        rw (get_or-set_other from x (at order u) a 0 e) z)
        (cases_eq (at order u) x)

    -- it is in no row
    pub drawn_skip : x < n → n ≤ at key x → Drawn order key lo hi n (i + 1) (set from x (at lo x)) to sole
    drawn_skip xn l =
        record {
          begun = begun_more (at lo x) (omega arith);
          rows = d.rows;
          early = λ y p yn f t. ⊎_elim
              (λ (e : y ≡ x).
              let t' : p < at to x = rw e at t in
              absurd (omega (arith, d.rows x p xn t')))
              (λ e.
              let f' : at from y ≤ p = rw (get_or-set_other from x y (at lo x) 0 e) at f in
              further (d.early y p yn f' t))
              (cases_eq y x);
        }

    -- it is in row k, whose ends are ranked
    module _ (rising : Rising order lo) (im : i < length order) (k : ℕ) (ek : k ≡ at key x) (kn : k < n)
        (top who second : List ℕ) (s : Ranks order key hi n (i + 1) top who second) (a : ℕ) (later : a ≡ max (at lo x) (at second k)) where
      early-here : (p : ℕ) → a ≤ p → p < at top k → Early order key lo hi (i + 1) x (at who k) p
      early-here p f t =
          let h = s.held k p kn t in
          let first : at lo x ≤ a = omega arith in
          let second' : at second k ≤ a = omega arith in
          let lo_x : at lo x ≡ by order lo i = ap (at lo) ex in
          let lo-h : at lo (at who k) ≡ by order lo h.place = ap (at lo) (sym h.found) in
          record {
            place = i;
            below = omega arith;
            found = sym ex;
            holder = h.place;
            by_then = omega (arith, h.below);
            names = h.found;
            of = h.of ∙ ek;
            from = ⊎_elim
                (λ (w : h.place ≡ i). let z : by order lo h.place ≡ by order lo i = ap (by order lo) w in omega arith)
                (λ w. let z = rising.up h.place i (omega (arith, h.below)) im in omega arith)
                (cases_eq h.place i);
            to = h.to;
            only = λ v l q b. ⊎_elim
                (λ e. e)
                (λ no. let z = s.others v k (omega arith) (q ∙ sym ek) kn no in absurd (omega arith))
                (cases_eq (at order v) (at who k));
          }

      pub drawn_more : x < length to → x < length sole → Drawn order key lo hi n (i + 1) (set from x a) (set to x (at top k)) (set sole x (at who k))
      drawn_more xt xs =
          record {
            begun = begun_more a (omega arith);
            rows = λ y p yn t. ⊎_elim
                (λ (e : y ≡ x). rw (e, ← ek) kn)
                (λ e.
                let t' : p < at to y = rw (get_or-set_other to x y (at top k) 0 e) at t in
                d.rows y p yn t')
                (cases_eq y x);
            early = λ y p yn f t. ⊎_elim
                (λ (e : y ≡ x).
                let f' : a ≤ p = rw (e, get_or-set_same from x a 0 xf) at f in
                let t' : p < at top k = rw (e, get_or-set_same to x (at top k) 0 xt) at t in
                rw (e, get_or-set_same sole x (at who k) 0 xs) (early-here p f' t'))
                (λ e.
                let f' : at from y ≤ p = rw (get_or-set_other from x y a 0 e) at f in
                let t' : p < at to y = rw (get_or-set_other to x y (at top k) 0 e) at t in
                rw (get_or-set_other sole x y (at who k) 0 e) (further (d.early y p yn f' t')))
                (cases_eq y x);
          }
