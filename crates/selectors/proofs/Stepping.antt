-- Parts between separators, one after the other: where the first ends, and what comes behind it; then the star.
use mathlib.Core.Path.{◌≡◌, refl, ap}
use mathlib.Core.Logic.{⊎_elim}
use mathlib.Core.Bool.{false}
use mathlib.Core.List.{List, [], ◌∷◌}
use Prim.Native.Nat.{ℕ, suc, ◌+◌, ◌≤◌, ◌<◌}
use native.Mathlib.Numerals.{add-one}
use native.Mathlib.Omega.{arith}
use borrow.Author.Tests.{eq-eqb, ne_eqb}
use lib.Dec.{eqb}
use lib.ListN.{length, take, drop, get_or, drop_of_length-le}
use lib.Seq.{drop-cons}
use Rattle.meaning.proofs.Basics.{went}
use Rattle.selectors.specs.Parts.{up_to, later, parts, same}
use Rattle.selectors.specs.Profile.{is_star}

module _ (sep : ℕ) (s : List ℕ) (i : ℕ) where
  -- a part that begins at a separator is empty
  pub stop_here : i < length s → get_or s i 0 ≡ sep → length (up_to sep (drop i s)) ≡ 0
  unfolding up_to
  stop_here here e = rw (drop-cons s i 0, eq-eqb (get_or s i 0) sep e) refl

  -- a part that begins past the last byte is empty
  pub stop_past : length s ≤ i → length (up_to sep (drop i s)) ≡ 0
  unfolding up_to
  stop_past past = rw (drop_of_length-le s past) refl

  -- from any other byte on a part is one longer than from the next on
  pub stop_on : i < length s → (get_or s i 0 ≡ sep → ⊥) → i + 1 + length (up_to sep (drop (i + 1) s)) ≡ i + length (up_to sep (drop i s))
  unfolding up_to
  stop_on here e = rw (add-one, drop-cons s i 0, ne_eqb (get_or s i 0) sep e) (omega arith)

module _ (sep : ℕ) where
  -- the first part is what stands in the text up to its end
  pub part_taken : (s : List ℕ) → take (length (up_to sep s)) s ≡ up_to sep s
  unfolding up_to
  part_taken [] = refl
  part_taken (x ∷ s) = ⊎_elim (λ t. rw t refl) (λ t. rw t (ap (λ l. x ∷ l) (part_taken s))) (went (eqb x sep))

  -- where it is all of the text there is no other part
  pub part_last : (s : List ℕ) → length s ≤ length (up_to sep s) → later sep s ≡ []
  unfolding up_to later
  part_last [] = λ past. refl
  part_last (x ∷ s) = ⊎_elim (λ t. rw t (λ past. absurd (omega arith))) (λ t. rw t (λ past. part_last s (omega arith))) (went (eqb x sep))

  -- the parts of what stands behind the separator that ends it are the others
  pub part_next : (s : List ℕ) → length (up_to sep s) < length s → parts sep (drop (suc (length (up_to sep s))) s) ≡ later sep s
  unfolding up_to later
  part_next [] = λ here. absurd (omega arith)
  part_next (x ∷ s) = ⊎_elim (λ t. rw t (λ here. refl)) (λ t. rw t (λ here. part_next s (omega arith))) (went (eqb x sep))

-- one byte is the star where it is the star's
pub star_one : (s : List ℕ) → length s ≡ 1 → eqb (get_or s 0 0) 42 ≡ is_star s
unfolding is_star same
star_one [] e = absurd (omega arith)
star_one (x ∷ []) e = ⊎_elim (λ t. rw t refl) (λ t. rw t refl) (went (eqb x 42))
star_one (x ∷ y ∷ s) e = absurd (omega arith)

-- no byte, or more than one, is not the star
pub star_other : (s : List ℕ) → (length s ≡ 1 → ⊥) → false ≡ is_star s
unfolding is_star same
star_other [] e = refl
star_other (x ∷ []) e = absurd (e refl)
star_other (x ∷ y ∷ s) e = ⊎_elim (λ t. rw t refl) (λ t. rw t refl) (went (eqb x 42))
