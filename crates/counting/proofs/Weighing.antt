-- A look at one field version, a law for each way out of the code: what it adds, and the tokens that are left.
use mathlib.Core.Path.{◌≡◌, refl, sym, ◌∙◌, ap}
use mathlib.Core.Logic.{⊎_elim}
use mathlib.Core.Bool.{Bool, true, false, ◌&&◌, ◌||◌, not, cond, or-false}
use mathlib.Core.List.{List}
use Prim.Native.Nat.{ℕ, ◌≤◌, ◌<◌}
use native.Mathlib.Omega.{arith}
use lib.Dec.{eqb}
use lib.ListN.{length, set}
use lib.Seq.{get_or-set_same, get_or-set_other}
use borrow.Author.Tests.{eqb-true, eqb-false, eq-eqb}
use Rattle.meaning.proofs.Basics.{went, and_r, or_r}
use Rattle.counting.specs.Number.{tokened, UpTo, Weighed}

-- what is the token already is so once more
pub tokened-again : (t : ℕ) (seen : List ℕ) (x : ℕ) → tokened t seen x ≡ true → (y : ℕ) → tokened t seen y ≡ (tokened t seen y || eqb x y)
tokened-again t seen x e y =
    ⊎_elim (λ i. let q : x ≡ y = eqb-true x y i in let s : tokened t seen y ≡ true = ap (tokened t seen) (sym q) ∙ e in rw s) (λ i. rw i (sym (or-false (tokened t seen y)))) (went (eqb x y))

-- one token more
set_tokened : (t : ℕ) (seen : List ℕ) (x : ℕ) → x < length seen → (y : ℕ) → tokened t (set seen x t) y ≡ (tokened t seen y || eqb x y)
set_tokened t seen x h y =
    ⊎_elim
    (λ i. let e : x ≡ y = eqb-true x y i in
    rw (sym e, get_or-set_same seen x t 0 h, eq-eqb t t refl) (sym (or_r (tokened t seen x) (eqb x x) (eq-eqb x x refl))))
    (λ i. rw (get_or-set_other seen x y t 0 (λ q. eqb-false x y i (sym q)), i) (sym (or-false (tokened t seen y))))
    (went (eqb x y))

set_up_to : (t : ℕ) (seen : List ℕ) (x : ℕ) → x < length seen → UpTo t seen → UpTo t (set seen x t)
set_up_to t seen x h b y =
    ⊎_elim
    (λ i. rw (eqb-true y x i, get_or-set_same seen x t 0 h) (omega arith))
    (λ i. rw (get_or-set_other seen x y t 0 (eqb-false y x i)) (b y))
    (went (eqb y x))

module _ (here : Bool) (x : ℕ) (distinct : Bool) (token : ℕ) (seen : List ℕ) where
  pub weighed_absent : here ≡ false → Weighed here x distinct token seen seen 0
  weighed_absent e = record { adds = rw e; tokens = λ y. rw e (sym (or-false (tokened token seen y))); up_to = λ h. h }

  pub weighed_here : here ≡ true → (after : List ℕ) (c : ℕ) → Weighed true x distinct token seen after c → Weighed here x distinct token seen after c
  weighed_here e after c w = rw e w

  -- it is one at most
  pub weighed_most : (after : List ℕ) (c : ℕ) → Weighed here x distinct token seen after c → c ≤ 1
  weighed_most after c w = rw w.adds (one (here && not (distinct && tokened token seen x)))
    where
      one : (b : Bool) → cond b 1 0 ≤ 1
      one true = omega arith
      one false = omega arith

-- no token is above the one given, where it was given
pub up_to-here : (x : ℕ) (distinct : Bool) (token : ℕ) (seen after : List ℕ) (c : ℕ) → Weighed true x distinct token seen after c → UpTo token seen → (after' : List ℕ) → after' ≡ after → UpTo token after'
up_to-here x distinct token seen after c w h after' e = rw e (w.up_to h)

-- and where it was not
pub up_to-same : (token : ℕ) (seen : List ℕ) → UpTo token seen → (seen' : List ℕ) → seen' ≡ seen → UpTo token seen'
up_to-same token seen h seen' e = rw e h

-- one that is present, represented by x, which the code has as `at`
module _ (x : ℕ) (distinct : Bool) (token : ℕ) (seen : List ℕ) (at : ℕ) (i : at ≡ x) where
  pub weighed_again : distinct && tokened token seen at ≡ true → Weighed true x distinct token seen seen 0
  weighed_again s =
      let t : distinct && tokened token seen x ≡ true = rw (sym i) s in
      record { adds = rw t; tokens = λ y. tokened-again token seen x (and_r distinct _ t) y; up_to = λ h. h }

  pub weighed_new : distinct && tokened token seen at ≡ false → at < length seen → Weighed true x distinct token seen (set seen at token) 1
  weighed_new s room =
      let t : distinct && tokened token seen x ≡ false = rw (sym i) s in
      record {
        adds = rw t;
        tokens = λ y. set_tokened token seen at room y ∙ ap (λ z. tokened token seen y || eqb z y) i;
        up_to = set_up_to token seen at room;
      }
