-- How a text is scanned for its profile, byte by byte: in which phase of a step a byte leaves it, and the place of the first that may not follow.
use Rattle.std.specs.Prelude.{cond, List, [], ◌∷◌, ℕ, suc, ◌-◌, eqb, ltb, Some, None}
use Rattle.meaning.specs.Walk.{Found}
use Rattle.selectors.specs.Profile.{is_first, is_inner}

-- the phase after byte x in a text that may have `left` steps from this one on; phases are 0 ahead of a step, 1 in a name, 2 behind a star, 3 where x may not follow
unfoldable pub after : ℕ → ℕ → ℕ → ℕ
after phase left x =
    cond (eqb phase 0)
    (cond (is_first x) 1 (cond (eqb x 42) 2 3))
    (cond (eqb x 47) (cond (ltb 1 left) 0 3) (cond (eqb phase 1) (cond (is_inner x) 1 3) 3))

-- how many steps may come from the next phase on
unfoldable pub left_after : ℕ → ℕ → ℕ
left_after phase left = cond (eqb phase 0) (left - 1) left

-- the first of these bytes that may not follow, of which the first stands at place i, or the place behind the last where a step is missing
unfoldable pub scan : ℕ → ℕ → ℕ → List ℕ → Found
scan phase left i [] = cond (eqb phase 0) (Some i) None
scan phase left i (x ∷ xs) =
    let next = after phase left x in
    let rest = scan next (left_after next left) (suc i) xs in
    cond (eqb next 3) (Some i) rest
