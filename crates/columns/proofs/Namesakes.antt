-- A walk down the chain of an item's key comes to a lower item of its number, if there is one.
use mathlib.Core.Path.{◌≡◌, refl, sym, ◌∙◌}
use mathlib.Core.Bool.{Bool, true, ◌&&◌}
use mathlib.Core.List.{List}
use Prim.Native.Nat.{ℕ, ◌-◌, ◌≤◌, ◌<◌}
use native.Mathlib.Omega.{arith}
use lib.Dec.{eqb}
use lib.ListN.{get_or}
use borrow.Author.Tests.{eq-eqb}
use Rattle.meaning.specs.Document.{Doc, is_item}
use Rattle.meaning.proofs.Basics.{clear}
use Rattle.meaning.proofs.Walks.{any_false}
use Rattle.meaning.proofs.Places.{counted}
use Rattle.meaning.proofs.Says.{says}
use Rattle.columns.specs.Chains.{past_last, Twins, Namesake}
use Rattle.columns.proofs.Along.{Along, past-low, along_start, along_next, along_end}
use Rattle.columns.proofs.Twins.{has_key}

-- j is an item with the number of i
abbrev has_number : Doc → ℕ → ℕ → Bool
has_number doc i j = is_item doc j && eqb (doc.item j) (doc.item i)

-- the walk has come to the item below `at`; it looks for one with the number of i
abbrev pub Falling : Doc → (ℕ → ℕ) → ℕ → ℕ → Type 0
Falling doc key i at = Along (has_key doc key (key i)) (has_number doc i) i at

module _ (doc : Doc) (twin : List ℕ) (tw : Twins doc twin) (i : ℕ) (h : i < doc.size) (k : doc.kind i ≡ 1) where
  abbrev m : ℕ → Bool
  m = has_key doc tw.key (tw.key i)

  abbrev f : ℕ → Bool
  f = has_number doc i

  -- items of one number have one key
  shared : (j : ℕ) → f j ≡ true → m j ≡ true
  shared j e = let w = simp says at e in simp says (w.0, tw.same i j h (counted doc j (omega arith)) w.1)

  pub falling_start : (at : ℕ) → at ≡ get_or twin i 0 → Falling doc tw.key i at
  falling_start at e = rw (e ∙ tw.steps i h (eq-eqb (doc.kind i) 1 k)) (along_start m f shared i)

  module _ (at : ℕ) (s : Falling doc tw.key i at) where
    -- there is none
    pub falling_end : at ≤ 0 → Namesake doc i i
    falling_end z =
        let none = any_false f 0 i (sym (along_end m f shared i at s z)) in
        record {
          low = omega arith;
          item = k;
          number = refl;
          none = λ _ j l e q. clear (simp says (e, q)) (none j (omega arith) (omega arith));
        }

    module _ (b : 0 < at) where
      member : (doc.kind (at - 1) ≡ 1) × (tw.key (at - 1) ≡ tw.key i)
      member = simp says at (s.member b)

      -- the one below `at` has the number of i
      pub falling_hit : doc.item (at - 1) ≡ doc.item i → Namesake doc i (at - 1)
      falling_hit e = record { low = omega (arith, s.low); item = member.0; number = e; none = λ z. absurd (omega (arith, s.low)) }

      module _ (next : ℕ) (e : next ≡ get_or twin (at - 1) 0) where
        step : next ≡ past_last m (at - 1)
        step = e ∙ rw member.1 at (tw.steps (at - 1) (omega (arith, s.low)) (eq-eqb (doc.kind (at - 1)) 1 member.0))

        pub falling_less : next < at
        falling_less = omega (arith, step, past-low m (at - 1))

        pub falling_next : (doc.item (at - 1) ≡ doc.item i → ⊥) → Falling doc tw.key i next
        falling_next n = along_next m f shared i at s b (simp says (λ _. n)) next step
