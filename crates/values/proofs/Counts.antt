-- Where a window counts values it counts those that are no nils, each at the lowest version that has it.
use mathlib.Core.Path.{◌≡◌, sym, ◌∙◌, ap, ap₂}
use mathlib.Core.Logic.{⊎_elim}
use mathlib.Core.Bool.{Bool, true, false, ◌&&◌, not, and-true, and-false}
use Prim.Native.Nat.{ℕ}
use lib.Dec.{eqb}
use Rattle.meaning.specs.declared.Rule.{Rule}
use Rattle.meaning.specs.Walk.{any}
use Rattle.meaning.specs.Document.{Doc}
use Rattle.meaning.specs.Select.{is_nil, same_value}
use Rattle.meaning.specs.Window.{under, counts}
use Rattle.meaning.proofs.Basics.{went, and_same}
use Rattle.meaning.proofs.Walks.{any_same}
use Rattle.values.proofs.Equals.{nil_alike}

module _ (doc : Doc) (p : ℕ → Bool) (r : Rule) (n : ℕ) where
  -- f is under item number n, and is no nil where values are counted
  abbrev pub taken : Bool → ℕ → Bool
  taken distinct f = under doc p r n f && not (distinct && is_nil doc f)

  -- a value that is no nil equals none that is
  equals_taken : (f g : ℕ) → is_nil doc f ≡ false → same_value doc f g && under doc p r n g ≡ (same_value doc f g && taken true g)
  equals_taken f g z = and_same (same_value doc f g) _ _ (λ e. rw (sym (nil_alike doc f g e) ∙ z) (sym (and-true (under doc p r n g))))

  pub counts-taken : eqb r.distinct 1 ≡ true → (f : ℕ) → counts doc p r n f ≡ (taken true f && not (any (λ g. same_value doc f g && taken true g) 0 f))
  unfolding counts
  counts-taken distinct f =
      rw distinct
      (⊎_elim
      (λ y. rw y (and-false (under doc p r n f) ∙ sym (ap (λ b. b && not (any (λ g. same_value doc f g && taken true g) 0 f)) (and-false (under doc p r n f)))))
      (λ z. rw z (ap₂ (λ a b. a && not b) (sym (and-true (under doc p r n f))) (any_same _ _ 0 f (λ g a b. equals_taken f g z))))
      (went (is_nil doc f)))
