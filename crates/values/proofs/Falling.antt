-- A walk down the chain of a version's key comes to a lower version of an equal value, if there is one.
use mathlib.Core.Path.{◌≡◌, refl, sym, ap, ◌∙◌}
use mathlib.Core.Logic.{⊎_elim}
use mathlib.Core.Bool.{Bool, true, false, ◌&&◌, ◌||◌}
use mathlib.Core.List.{List}
use Prim.Native.Nat.{ℕ, ◌-◌, ◌≤◌, ◌<◌}
use native.Mathlib.Omega.{arith}
use borrow.Author.Tests.{eqb-true, eq-eqb}
use lib.Dec.{eqb}
use lib.ListN.{get_or}
use Rattle.meaning.specs.Document.{Doc, is_version}
use Rattle.meaning.specs.Select.{same_value}
use Rattle.meaning.proofs.Basics.{and_l, and_r, both, or_cases, or_r}
use Rattle.meaning.proofs.Walks.{any_false, first-at}
use Rattle.meaning.proofs.Places.{counted}
use Rattle.meaning.proofs.Says.{says}
use Rattle.columns.specs.Chains.{past_last}
use Rattle.columns.proofs.Along.{Along, past-low, along_start, along_next, along_end}
use Rattle.values.specs.Chosen.{alike, Chosen, ChosenBelow, ByValue}
use Rattle.values.proofs.Equals.{alone, lowest-same}

-- g is a version with this key
abbrev pub has_key : (doc : Doc) → (ℕ → ℕ) → ℕ → ℕ → Bool
has_key doc key k g = is_version doc g && eqb (key g) k

-- the walk has come to the version below `at`; it looks for one with the value of f
abbrev pub Falling : Doc → (ℕ → ℕ) → ℕ → ℕ → Type 0
Falling doc key f at = Along (has_key doc key (key f)) (alike doc f) f at

-- a nil stands for itself
pub nil_alone : (doc : Doc) (f : ℕ) → f < doc.size → doc.vkind f ≡ 3 → Chosen doc f f
nil_alone doc f h e = record { low = omega arith; least = λ v. alone doc f h v e }

module _ (doc : Doc) (lower : List ℕ) (b : ByValue doc lower) (f : ℕ) (h : f < doc.size) (k : doc.kind f ≡ 2) where
  abbrev m : ℕ → Bool
  m = has_key doc b.key (b.key f)

  shared : (g : ℕ) → alike doc f g ≡ true → m g ≡ true
  shared g e =
      let v = and_l (is_version doc g) (same_value doc f g || eqb f g) e in
      let k = eqb-true (doc.kind g) 2 v in
      let same : same_value doc f g ≡ true → b.key g ≡ b.key f = b.same f g h (counted doc g (omega arith)) in
      both (is_version doc g) (eqb (b.key g) (b.key f)) v
      (eq-eqb (b.key g) (b.key f)
      (⊎_elim same (λ t. ap b.key (sym (eqb-true f g t))) (or_cases (same_value doc f g) (eqb f g) (and_r (is_version doc g) (same_value doc f g || eqb f g) e))))

  pub falling_start : (at : ℕ) → at ≡ get_or lower f 0 → Falling doc b.key f at
  falling_start at e = rw (e ∙ b.steps f h (eq-eqb (doc.kind f) 2 k)) (along_start m (alike doc f) shared f)

  module _ (at : ℕ) (s : Falling doc b.key f at) where
    -- there is none: f is the lowest itself
    pub falling_end : at ≤ 0 → Chosen doc f f
    falling_end z =
        let none = any_false (alike doc f) 0 f (sym (along_end m (alike doc f) shared f at s z)) in
        record {
          low = omega arith;
          least = λ e. first-at (alike doc f) f 0 doc.size (omega arith) (omega arith) (both (is_version doc f) (same_value doc f f || eqb f f) e (or_r (same_value doc f f) (eqb f f) (eq-eqb f f refl)))
              (λ j a l. none j a (omega arith));
        }

    module _ (i : 0 < at) where
      -- the one below `at` has the value of f: what stands for it stands for f
      pub falling_hit : (reps : List ℕ) → ChosenBelow doc f reps → (r : Bool) → r ≡ same_value doc f (at - 1) → r ≡ true → Chosen doc f (get_or reps (at - 1) 0)
      falling_hit reps known r q y =
          let c = known.each (at - 1) (omega (arith, s.low)) in
          let v = simp says at (s.member i) in
          record {
            low = omega (arith, c.low, s.low);
            least = λ e. lowest-same doc f (at - 1) (sym q ∙ y) ∙ c.least (eq-eqb (doc.kind (at - 1)) 2 v.0);
          }

      module _ (next : ℕ) (e : next ≡ get_or lower (at - 1) 0) where
        step : next ≡ past_last m (at - 1)
        step =
            let w = simp says at (s.member i) in
            e ∙ rw w.1 at (b.steps (at - 1) (omega (arith, s.low)) (eq-eqb (doc.kind (at - 1)) 2 w.0))

        pub falling_less : next < at
        falling_less = omega (arith, step, past-low m (at - 1))

        pub falling_next : (r : Bool) → r ≡ same_value doc f (at - 1) → r ≡ false → Falling doc b.key f next
        falling_next r q n = along_next m (alike doc f) shared f at s i (missed r q n) next step
          where
            missed : (r : Bool) → r ≡ same_value doc f (at - 1) → r ≡ false → alike doc f (at - 1) ≡ false
            missed r q n = simp says (λ v. (sym q ∙ n, λ z. omega (arith, s.low)))
