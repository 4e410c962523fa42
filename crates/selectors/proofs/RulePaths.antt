-- A path of known steps is one that a rule record may have: the path test of 25 passes.
use mathlib.Core.Path.{◌≡◌, refl, sym, ap, ◌∙◌}
use mathlib.Core.Logic.{⊎_elim}
use mathlib.Core.Bool.{Bool, true, ◌&&◌, not, cond}
use mathlib.Core.List.{List, [], ◌∷◌, ◌++◌, map}
use Prim.Native.Nat.{ℕ, zero, suc, ◌+◌, ◌-◌, ◌≤◌, ◌<◌}
use native.Mathlib.Omega.{arith}
use borrow.Author.Tests.{lt-ltb, le-ltb, le-leb, ltb-true}
use lib.Dec.{leb, ltb, eqb}
use lib.ListN.{length, get_or, replicate, length-map, get_or-replicate, get_or-append}
use lib.Seq.{get_or-append-add}
use Rattle.meaning.specs.declared.Rule.{Rule}
use Rattle.meaning.specs.Rules.{path_fits}
use Rattle.meaning.proofs.Basics.{and_l, and_r, both, le_or_lt}
use Rattle.meaning.proofs.Walks.{any_none}
use Rattle.selectors.specs.Parts.{each}
use Rattle.selectors.specs.Dictionary.{is_entry}
use Rattle.selectors.specs.Selecting.{is_known, step_number, path_of}
use Rattle.selectors.proofs.Filling.{known}

-- each number of known steps is 1 or more
numbers-some : (ls : List (List ℕ)) → each is_entry ls ≡ true → (ss : List (List ℕ)) → each (is_known ls) ss ≡ true → (k : ℕ) → k < length ss → 1 ≤ get_or (map (step_number ls) ss) k 0
unfolding each
numbers-some ls e [] a k h = absurd (omega arith)
numbers-some ls e (s ∷ ss) a zero h = ltb-true 0 (step_number ls s) (sym (known ls s e) ∙ and_l (is_known ls s) (each (is_known ls) ss) a)
numbers-some ls e (s ∷ ss) a (suc k) h = numbers-some ls e ss (and_r (is_known ls s) (each (is_known ls) ss) a) k (omega arith)

-- what a rule record asks of place k of a path of n steps
abbrev place_fits : ℕ → List ℕ → ℕ → Bool
place_fits n numbers k = cond (ltb k n) (leb 1 (get_or numbers k 0)) (eqb (get_or numbers k 0) 0)

-- a path's used places are 1 or more, and the others 0
places-fit : (ls : List (List ℕ)) → each is_entry ls ≡ true → (ss : List (List ℕ)) → each (is_known ls) ss ≡ true → length ss ≤ 8 → (k : ℕ) → k < 8
    → place_fits (length ss) (path_of ls ss) k ≡ true
unfolding path_of
places-fit ls e ss a few k h = ⊎_elim past used (le_or_lt (length ss) k)
  where
    numbers : List ℕ
    numbers = map (step_number ls) ss

    many : length numbers ≡ length ss
    many = length-map ss (step_number ls)

    used : k < length ss → place_fits (length ss) (numbers ++ replicate (8 - length ss) 0) k ≡ true
    used l = rw (lt-ltb k (length ss) l, get_or-append numbers (replicate (8 - length ss) 0) 0 k (omega (arith, many))) (le-leb 1 (get_or numbers k 0) (numbers-some ls e ss a k l))

    past : length ss ≤ k → place_fits (length ss) (numbers ++ replicate (8 - length ss) 0) k ≡ true
    past l =
        let place : k ≡ length numbers + (k - length ss) = omega (arith, many) in
        let zero : get_or (numbers ++ replicate (8 - length ss) 0) k 0 ≡ 0 =
        ap (λ i. get_or (numbers ++ replicate (8 - length ss) 0) i 0) place ∙ get_or-append-add numbers (replicate (8 - length ss) 0) (k - length ss) 0
        ∙ get_or-replicate (8 - length ss) (k - length ss) 0 0 (omega arith) in
        rw (le-ltb k (length ss) l, zero)

-- a rule record with such a path passes the path test of 25
pub path-fits_lem : (ls : List (List ℕ)) → each is_entry ls ≡ true → (ss : List (List ℕ)) → each (is_known ls) ss ≡ true → 1 ≤ length ss → length ss ≤ 8
    → (rule : Rule) → rule.path ≡ path_of ls ss → rule.steps ≡ length ss → path_fits rule ≡ true
unfolding path_fits
path-fits_lem ls e ss a some few rule f g =
    let none = any_none (λ k. not (place_fits rule.steps rule.path k)) 0 8 (λ k l h. rw (f, g) (ap not (places-fit ls e ss a few k h))) in
    rw none (rw g (both (leb 1 (length ss) && leb (length ss) 8) true (both (leb 1 (length ss)) (leb (length ss) 8) (le-leb 1 (length ss) some) (le-leb (length ss) 8 few)) refl))
