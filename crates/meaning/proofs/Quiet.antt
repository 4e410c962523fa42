-- Between change days nothing changes: where no version that the rule reads begins or ends, the same records offend, whatever the kind.
use mathlib.Core.Path.{◌≡◌, ap, ap₂, sym, ◌∙◌}
use mathlib.Core.Logic.{⊎_elim}
use mathlib.Core.Bool.{true, false, ◌&&◌}
use Prim.Native.Nat.{ℕ, suc, ◌≤◌, ◌<◌}
use native.Mathlib.Omega.{arith}
use lib.Dec.{leb, ltb, eqb}
use borrow.Author.Tests.{leb-true, ltb-true, le-leb, lt-ltb, eq-eqb}
use Rattle.meaning.specs.declared.Rule.{Rule}
use Rattle.meaning.specs.Walk.{first}
use Rattle.meaning.specs.Document.{Doc, is_version}
use Rattle.meaning.specs.Select.{reads}
use Rattle.meaning.specs.Day.{alive, present_on, offends, offender, turns, is_change}
use Rattle.meaning.proofs.Basics.{tests_same, le_or_lt, or_l, or_r, both, clear}
use Rattle.meaning.proofs.Slices.{PresentAlive}
use Rattle.meaning.proofs.Walks.{any_some}
use Rattle.meaning.proofs.Selects.{reads-own_lem, reads-referred, reads-version, version-here}
use Rattle.meaning.proofs.Agree.{Agree, offends-agree}

-- no version that the rule reads begins or ends after c and up to d
pub record Quiet (doc : Doc) (q r : Rule) (c d : ℕ) : Type 0 where
  pub begins : (i : ℕ) → reads doc q r i ≡ true → c < doc.begin i → doc.begin i ≤ d → ⊥
  pub ends : (i : ℕ) → reads doc q r i ≡ true → c < doc.end i → doc.end i ≤ d → ⊥

module _ (doc : Doc) (c d i : ℕ) (h : c ≤ d) (b : c < doc.begin i → doc.begin i ≤ d → ⊥) (e : c < doc.end i → doc.end i ≤ d → ⊥) where
  pub alive-same : alive doc c i ≡ alive doc d i
  unfolding alive
  alive-same =
      ap₂ (λ x y. is_version doc i && x && y)
      (tests_same (leb (doc.begin i) c) (leb (doc.begin i) d)
      (λ t. le-leb (doc.begin i) d (omega (arith, leb-true (doc.begin i) c t)))
      (λ t. le-leb (doc.begin i) c (⊎_elim (λ k. k) (λ k. absurd (b k (leb-true (doc.begin i) d t))) (le_or_lt (doc.begin i) c))))
      (tests_same (ltb c (doc.end i)) (ltb d (doc.end i))
      (λ t. lt-ltb d (doc.end i) (⊎_elim (λ k. absurd (e (ltb-true c (doc.end i) t) k)) (λ k. k) (le_or_lt (doc.end i) d)))
      (λ t. lt-ltb c (doc.end i) (omega (arith, ltb-true d (doc.end i) t))))

module _ (doc : Doc) (p : PresentAlive doc) (q r : Rule) where
  module _ (c d : ℕ) (h : c ≤ d) (w : Quiet doc q r c d) where
    -- what the rule reads is present on c as on d
    read_same : (i : ℕ) → reads doc q r i ≡ true → present_on doc c i ≡ present_on doc d i
    read_same i e = p c i ∙ alive-same doc c d i h (w.begins i e) (w.ends i e) ∙ sym (p d i)

    -- so the same records offend
    pub offends-same : offends doc (present_on doc c) q r ≡ offends doc (present_on doc d) q r
    unfolding Agree
    offends-same =
        offends-agree doc (present_on doc c) (present_on doc d) q r
        (λ i e. read_same i (reads-own_lem doc q r i e))
        (λ k i e. read_same i (reads-referred doc q r i k e))

    pub offender-same : offender doc q r c ≡ offender doc q r d
    unfolding offender
    offender-same = ap (λ f. first f 0 doc.size) offends-same

  -- a day past the period's first that is no change day has the offenders of the day before
  module _ (d : ℕ) (later : r.begin < suc d) (no_change : is_change doc q r (suc d) ≡ false) where
    still : (i : ℕ) → reads doc q r i ≡ true → turns doc (suc d) i ≡ true → ⊥
    unfolding is_change
    still i e t =
        clear
        (or_r (eqb r.begin (suc d)) _
        (any_some (λ j. reads doc q r j && turns doc (suc d) j) 0 doc.size i
        (record { from = omega arith; below = omega (arith, version-here doc i (reads-version doc q r i e)); passes = both (reads doc q r i) (turns doc (suc d) i) e t })))
        no_change

    quiet : Quiet doc q r d (suc d)
    quiet =
        record {
          begins = λ i e a b. still i e (or_l (eqb (doc.begin i) (suc d)) _ (eq-eqb (doc.begin i) (suc d) (omega arith)));
          ends = λ i e a b. still i e (or_r (eqb (doc.begin i) (suc d)) _ (eq-eqb (doc.end i) (suc d) (omega arith)));
        }

    pub same-as_before : offender doc q r d ≡ offender doc q r (suc d)
    same-as_before = offender-same d (suc d) (omega arith) quiet
