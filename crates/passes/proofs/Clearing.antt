-- A scratch array whose first entries were filled with 0, or that is all 0.
use mathlib.Core.Path.{◌≡◌, ◌∙◌}
use mathlib.Core.List.{List, ◌++◌}
use Prim.Native.Nat.{ℕ, ◌≤◌}
use native.Mathlib.Omega.{arith}
use lib.ListN.{length, replicate, get_or-append}
use Rattle.std.proofs.lemmas.List.{length-replicate, get_or-replicate}
use Rattle.passes.specs.Given.{Cleared}

-- whatever comes after them
pub cleared : (n : ℕ) (filled rest : List ℕ) → filled ≡ replicate n 0 → Cleared (filled ++ rest) n
cleared n filled rest e =
    record {
      zeros = λ c h.
          let zeros : List ℕ = replicate n 0 in
          let l : length zeros ≡ n = length-replicate n 0 in
          rw e (get_or-append zeros rest 0 c (omega arith) ∙ get_or-replicate n c 0 0 h);
    }

-- an array of zeros
pub blank : (m n : ℕ) → n ≤ m → Cleared (replicate m 0) n
blank m n h = record { zeros = λ c l. get_or-replicate m c 0 0 (omega arith) }
