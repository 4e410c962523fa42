-- A walk down the chain of an item's key finds what the walk over all lower records finds: the items that it clashes with.
use mathlib.Core.Path.{◌≡◌, sym, ◌∙◌}
use mathlib.Core.Bool.{Bool, true, false}
use mathlib.Core.List.{List}
use Prim.Native.Nat.{ℕ, ◌-◌, ◌≤◌, ◌<◌}
use native.Mathlib.Omega.{arith}
use lib.ListN.{get_or}
use borrow.Author.Tests.{eq-eqb, ne_eqb}
use Rattle.meaning.specs.Walk.{any}
use Rattle.meaning.specs.Document.{Doc}
use Rattle.meaning.specs.Nodes.{clash, clashes}
use Rattle.meaning.proofs.Says.{says}
use Rattle.meaning.proofs.Places.{counted}
use Rattle.columns.specs.Chains.{past_last, Twins}
use Rattle.columns.proofs.Twins.{has_key}
use Rattle.columns.proofs.Along.{Along, past-low, along_start, along_hit, along_next, along_end}

-- the walk has come to the item below `at`; it looks for one that item i clashes with
abbrev pub Lowered : Doc → (ℕ → ℕ) → ℕ → ℕ → Type 0
Lowered doc key i at = Along (has_key doc key (key i)) (clash doc i) i at

pub no_item : (doc : Doc) (i : ℕ) → (doc.kind i ≡ 1 → ⊥) → false ≡ clashes doc i
unfolding clashes
no_item doc i n = rw (ne_eqb (doc.kind i) 1 n)

module _ (doc : Doc) (twin : List ℕ) (tw : Twins doc twin) (i : ℕ) (h : i < doc.size) (k : doc.kind i ≡ 1) where
  abbrev m : ℕ → Bool
  m = has_key doc tw.key (tw.key i)

  -- items that clash have one number, so one key
  shared : (j : ℕ) → clash doc i j ≡ true → m j ≡ true
  unfolding clash
  shared j e =
      let w = simp says at e in
      simp says (w.0.0, tw.same i j h (counted doc j (omega arith)) w.0.1)

  item-test : clashes doc i ≡ any (clash doc i) 0 i
  unfolding clashes
  item-test = rw (eq-eqb (doc.kind i) 1 k)

  pub lowered_start : (at : ℕ) → at ≡ get_or twin i 0 → Lowered doc tw.key i at
  lowered_start at e = rw (e ∙ tw.steps i h (eq-eqb (doc.kind i) 1 k)) (along_start m (clash doc i) shared i)

  module _ (at : ℕ) (s : Lowered doc tw.key i at) where
    pub lowered_end : at ≤ 0 → false ≡ clashes doc i
    lowered_end z = along_end m (clash doc i) shared i at s z ∙ sym item-test

    module _ (b : 0 < at) where
      -- the record below `at` is an item of the key
      pub lowered_item : doc.kind (at - 1) ≡ 1
      lowered_item = (simp says at (s.member b)).0

      pub lowered_hit : (r : Bool) → r ≡ clash doc i (at - 1) → r ≡ true → true ≡ clashes doc i
      lowered_hit r found y = along_hit m (clash doc i) shared i at s b (sym found ∙ y) ∙ sym item-test

      module _ (next : ℕ) (e : next ≡ get_or twin (at - 1) 0) where
        step : next ≡ past_last m (at - 1)
        step =
            let w = simp says at (s.member b) in
            e ∙ rw w.1 at (tw.steps (at - 1) (omega (arith, s.low)) (eq-eqb (doc.kind (at - 1)) 1 w.0))

        pub lowered_less : next < at
        lowered_less = omega (arith, step, past-low m (at - 1))

        pub lowered_next : (r : Bool) → r ≡ clash doc i (at - 1) → r ≡ false → Lowered doc tw.key i next
        lowered_next r found n = along_next m (clash doc i) shared i at s b (sym found ∙ n) next step
