-- A walk down a chain finds what the walk over all records finds among those of the chain.
use mathlib.Core.Path.{◌≡◌, sym, ◌∙◌}
use mathlib.Core.Bool.{Bool, true, false, ◌&&◌}
use mathlib.Core.List.{List}
use Prim.Native.Nat.{ℕ, ◌-◌, ◌≤◌, ◌<◌}
use native.Mathlib.Omega.{arith}
use lib.ListN.{get_or}
use Rattle.meaning.specs.Walk.{any}
use Rattle.meaning.proofs.Basics.{and_l}
use Rattle.columns.specs.Chains.{past_last, keyed, Chained}
use Rattle.columns.proofs.Along.{Along, past-low, along_start, along_hit, along_next, along_end}

-- the walk over the records of kind `want` with the key k has come to the one below `at`; it looks for one that passes g
abbrev pub Down : List ℕ → List ℕ → ℕ → ℕ → ℕ → (ℕ → Bool) → ℕ → Type 0
Down kinds keys want t k g at = Along (keyed kinds keys want k) (λ r. keyed kinds keys want k r && g r) t at

module _ (room : ℕ) (kinds keys : List ℕ) (want t : ℕ) (last lower : List ℕ) (c : Chained room kinds keys want t last lower) (k : ℕ) (h : k < room) (g : ℕ → Bool) where
  abbrev m : ℕ → Bool
  m = keyed kinds keys want k

  abbrev f : ℕ → Bool
  f r = m r && g r

  chosen : (r : ℕ) → f r ≡ true → m r ≡ true
  chosen r e = and_l (m r) (g r) e

  pub down_start : (at : ℕ) → at ≡ get_or last k 0 → Down kinds keys want t k g at
  down_start at e = rw (e ∙ c.ends k h) (along_start m f chosen t)

  module _ (at : ℕ) (s : Down kinds keys want t k g at) where
    pub down_end : at ≤ 0 → false ≡ any (λ r. keyed kinds keys want k r && g r) 0 t
    down_end z = along_end m f chosen t at s z

    -- at the record below `at` the code found b
    module _ (i : 0 < at) where
      now_at : f (at - 1) ≡ g (at - 1)
      now_at = rw (s.member i)

      pub down_hit : (b : Bool) → b ≡ g (at - 1) → b ≡ true → true ≡ any (λ r. keyed kinds keys want k r && g r) 0 t
      down_hit b e y = along_hit m f chosen t at s i (now_at ∙ sym e ∙ y)

      module _ (next : ℕ) (e : next ≡ get_or lower (at - 1) 0) where
        step : next ≡ past_last m (at - 1)
        step = e ∙ c.steps k (at - 1) h (omega (arith, s.low)) (s.member i)

        pub down_less : next < at
        down_less = omega (arith, step, past-low m (at - 1))

        pub down_next : (b : Bool) → b ≡ g (at - 1) → b ≡ false → Down kinds keys want t k g next
        down_next b q n = along_next m f chosen t at s i (now_at ∙ sym q ∙ n) next step
