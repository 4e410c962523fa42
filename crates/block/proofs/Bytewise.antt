-- The check is a fold over the bytes.
use Rattle.std.proofs.Common.{◌≡◌, ℕ, List, [], ◌∷◌, refl, fold}
use Rattle.meaning.specs.Block.{check_step, check_from}

pub check_is_fold : (c : ℕ) (s : List ℕ) → check_from c s ≡ fold check_step c s
unfolding check_from
check_is_fold c [] = refl
check_is_fold c (x ∷ s) = check_is_fold (check_step c x) s
