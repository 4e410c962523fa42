-- The lowest record that passes one of two tests is the lower of those that pass each; and what a nil spoils at a place.
use mathlib.Core.Path.{◌≡◌, sym, ap, ◌∙◌}
use mathlib.Core.Bool.{Bool, true, false, ◌&&◌, ◌||◌, or-false}
use Prim.Native.Nat.{ℕ, ◌≤◌, ◌<◌}
use native.Mathlib.Omega.{arith}
use lib.Dec.{eqb}
use Rattle.std.specs.Prelude.{Some, None}
use Rattle.meaning.specs.declared.Rule.{Rule}
use Rattle.meaning.specs.Walk.{first, Found}
use Rattle.meaning.specs.Document.{Doc}
use Rattle.meaning.specs.Select.{present, has_nil}
use Rattle.meaning.proofs.Basics.{or_l, or_r}
use Rattle.meaning.proofs.Walks.{first-same, first-none, first-nothing, first-at, first_found}
use Rattle.prepare.specs.Spoiling.{spoils}

module _ (f g h : ℕ → Bool) (n : ℕ) (either : (v : ℕ) → h v ≡ (f v || g v)) where
  -- nothing passes the first
  pub lower-second : {a b : Found} → a ≡ first f 0 n → b ≡ first g 0 n → a ≡ None → b ≡ first h 0 n
  lower-second p q e = q ∙ first-same g h 0 n (λ v i j. sym (either v ∙ ap (λ t. t || g v) (first-nothing f 0 n (sym p ∙ e) v i j)))

  -- nothing passes the second
  pub lower-first : {a b : Found} → a ≡ first f 0 n → b ≡ first g 0 n → b ≡ None → a ≡ first h 0 n
  lower-first p q e = p ∙ first-same f h 0 n (λ v i j. sym (either v ∙ ap (λ t. f v || t) (first-nothing g 0 n (sym q ∙ e) v i j) ∙ or-false (f v)))

  module _ {a b : Found} (p : a ≡ first f 0 n) (q : b ≡ first g 0 n) (u v : ℕ) (x : a ≡ Some u) (y : b ≡ Some v) where
    pub lower-left : u < v → a ≡ first h 0 n
    lower-left l =
        let s = first_found f 0 n u (sym p ∙ x) in
        let t = first_found g 0 n v (sym q ∙ y) in
        x
        ∙ sym (first-at h u 0 n s.from s.below (either u ∙ or_l (f u) (g u) s.passes)
        (λ j i k. either j ∙ ap (λ z. z || g j) (s.before j i k) ∙ t.before j i (omega arith)))

    pub lower-right : v ≤ u → b ≡ first h 0 n
    lower-right l =
        let s = first_found f 0 n u (sym p ∙ x) in
        let t = first_found g 0 n v (sym q ∙ y) in
        y
        ∙ sym (first-at h v 0 n t.from t.below (either v ∙ or_r (f v) (g v) t.passes)
        (λ j i k. either j ∙ ap (λ z. z || g j) (s.before j i (omega arith)) ∙ t.before j i k))

module _ (doc : Doc) (p : ℕ → Bool) (r : Rule) where
  -- a rule that is neither key nor reference is spoilt nowhere
  pub never_spoilt : (eqb r.kind 1 || eqb r.kind 3) ≡ false → None ≡ first (spoils doc p r) 0 doc.size
  unfolding spoils
  never_spoilt e = sym (first-none (spoils doc p r) 0 doc.size (λ v i j. rw e))

  -- any other where there is a nil
  pub spoilt_by_nil : {x : Found} → (eqb r.kind 1 || eqb r.kind 3) ≡ true → x ≡ first (λ v. present doc p r v && has_nil doc p r v) 0 doc.size → x ≡ first (spoils doc p r) 0 doc.size
  unfolding spoils
  spoilt_by_nil e found = found ∙ first-same _ _ 0 doc.size (λ v i j. rw e)
