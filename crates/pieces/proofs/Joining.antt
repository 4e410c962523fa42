-- Stretches that were drawn and then cut: on each, one record of the row alone is present.
use mathlib.Core.Path.{◌≡◌, sym, ◌∙◌, ap}
use mathlib.Core.List.{List}
use mathlib.Core.Logic.{⊎_elim}
use Prim.Native.Nat.{ℕ, ◌≤◌, ◌<◌}
use native.Mathlib.Omega.{arith}
use lib.ListN.{length}
use Rattle.meaning.proofs.Basics.{le_or_lt}
use Rattle.passes.specs.Passes.{at}
use Rattle.pieces.specs.Lone.{Alone, Stretched}
use Rattle.pieces.specs.Steps.{Early, Drawn, Cut}

module _ (order key lo hi : List ℕ) (n : ℕ) (from to sole to' : List ℕ)
    (drawn : Drawn order key lo hi n (length order) from to sole) (cut : Cut order key lo n to to') where
  -- those after x in its row begin when its stretch is over
  lone : (x p : ℕ) → at key x < n → p < at to' x → Early order key lo hi (length order) x (at sole x) p → Alone order key lo hi (at key x) (at sole x) p
  lone x p kx t e =
      let below = e.below in
      let by_then = e.by_then in
      record {
        on = record { place = e.holder; below = omega arith; found = e.names };
        of = e.of;
        here = record { from = e.from; to = e.to };
        only = λ y o q h. ⊎_elim
            (λ l. sym o.found ∙ e.only o.place l (ap (at key) o.found ∙ q) (rw o.found h.to))
            (λ l.
            let same : at key (at order o.place) ≡ at key (at order e.place) = ap (at key) o.found ∙ q ∙ sym (ap (at key) e.found) in
            let keyed : at key (at order e.place) < n = rw e.found kx in
            let z = cut.ends e.place o.place l o.below keyed same in
            let z' : at to' x ≤ at lo y = rw (e.found, o.found) at z in
            absurd (omega (arith, h.from)))
            (le_or_lt o.place e.place);
      }

  pub stretched : n ≤ length from → n ≤ length to' → n ≤ length sole → Stretched order key lo hi n from to' sole
  stretched f t s =
      record {
        from_room = f;
        to_room = t;
        sole_room = s;
        begun = λ x o. rw o.found at (drawn.begun o.place o.below);
        alone = λ x p h g l.
            let l' : p < at to x = omega (arith, cut.sooner x) in
            let kx = drawn.rows x p h l' in
            (kx, lone x p kx l (drawn.early x p h g l'));
      }
