-- Names among lines: the line that has a name, and the number that it gives it.
use mathlib.Core.Path.{◌≡◌, refl, sym}
use mathlib.Core.Logic.{⊎_elim}
use mathlib.Core.Bool.{Bool, true}
use mathlib.Core.List.{List, [], ◌∷◌}
use Prim.Native.Nat.{ℕ, suc, ◌<◌}
use borrow.Author.Tests.{lt-ltb}
use lib.Dec.{ltb}
use lib.ListN.{length, take, get_or}
use lib.Seq.{take-suc}
use Rattle.meaning.proofs.Basics.{went, and_l, and_r, both}
use Rattle.selectors.specs.Parts.{each, same}
use Rattle.selectors.specs.Dictionary.{is_entry, name_of, number_of, has, number_in}
use Rattle.selectors.proofs.Separating.{each-joined}
use Rattle.selectors.proofs.Lines.{number-range}

-- of lines that are entries one has a name exactly where the number that they give it is not 0
pub known_number : (ls : List (List ℕ)) (name : List ℕ) → each is_entry ls ≡ true → has ls name ≡ ltb 0 (number_in ls name)
unfolding each has number_in
known_number [] name e = refl
known_number (l ∷ ls) name e =
    ⊎_elim
    (λ t. rw t (sym (lt-ltb 0 (number_of l) (number-range l (and_l (is_entry l) (each is_entry ls) e)).0)))
    (λ t. rw t (known_number ls name (and_r (is_entry l) (each is_entry ls) e)))
    (went (same (name_of l) name))

-- what the first k pass, and the next, the first k + 1 pass
pub each_more : {A : Type 0} (f : A → Bool) (xs : List A) (k : ℕ) (z : A) → k < length xs → each f (take k xs) ≡ true → f (get_or xs k z) ≡ true → each f (take (suc k) xs) ≡ true
unfolding each
each_more f xs k z h e p = rw (take-suc xs k z h) (each-joined f (take k xs) (get_or xs k z ∷ []) e (both (f (get_or xs k z)) true p refl))
