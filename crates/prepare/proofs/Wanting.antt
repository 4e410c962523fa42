-- Which field versions matter to a rule, by its window and its kind.
use mathlib.Core.Path.{◌≡◌, sym, ◌∙◌, ap}
use mathlib.Core.Bool.{Bool, true, false, ◌&&◌, ◌||◌, not, and-true, and-false}
use mathlib.Core.Logic.{⊎_elim}
use Prim.Native.Nat.{ℕ, zero, suc, ◌≤◌}
use native.Mathlib.Omega.{arith}
use lib.IntN.{ℤ}
use lib.Dec.{eqb, ltb, leb}
use lib.Signed.{le_z}
use borrow.Author.Tests.{eq-eqb, ne_eqb}
use Rattle.meaning.specs.declared.Rule.{Rule}
use Rattle.meaning.specs.Document.{Doc}
use Rattle.meaning.specs.Select.{valued, is_nil, is_number, within}
use Rattle.meaning.proofs.Basics.{went}
use Rattle.meaning.proofs.Says.{says}
use Rattle.prepare.specs.Rows.{wants_by, over_nils, wants}
use Rattle.prepare.proofs.Valued.{none_over, low-wants}

module _ (doc : Doc) (r : Rule) (f vkind : ℕ) (w : doc.vkind f ≡ vkind) where
  high-kind : (k : ℕ) → 5 ≤ k → wants_by doc r f k ≡ (ltb 0 vkind && not (eqb vkind 3 || (eqb vkind 1 && within r (doc.value f))))
  unfolding wants_by valued is_nil is_number
  high-kind (suc (suc (suc (suc (suc k))))) h = rw w
  high-kind zero h = absurd (omega arith)
  high-kind (suc zero) h = absurd (omega arith)
  high-kind (suc (suc zero)) h = absurd (omega arith)
  high-kind (suc (suc (suc zero))) h = absurd (omega arith)
  high-kind (suc (suc (suc (suc zero)))) h = absurd (omega arith)

  module _ (t : not (eqb r.windowed 0) || leb r.kind 3 ≡ true) where
    -- in windows, and for the first three kinds anyway, the valued ones matter, but for nils that are passed over
    by_value : wants doc r f ≡ (ltb 0 vkind && not (over_nils r && eqb vkind 3))
    unfolding wants valued is_nil
    by_value =
        let low = simp says at t in
        ⊎_elim (λ y. let h = low (simp says at y) in rw (low-wants doc r f h, none_over r h) (ap (ltb 0) w ∙ sym (and-true (ltb 0 vkind)))) (λ z. rw z (ap (λ k. ltb 0 k && not (over_nils r && eqb k 3)) w)) (went (eqb r.windowed 0))

    pub wants-nil : vkind ≡ 3 → not (over_nils r) ≡ wants doc r f
    wants-nil e = sym (by_value ∙ rw e (ap not (and-true (over_nils r))))

    pub wants-valued : (vkind ≡ 3 → ⊥) → ltb 0 vkind ≡ wants doc r f
    wants-valued n = sym (by_value ∙ rw (ne_eqb vkind 3 n, and-false (over_nils r)) (and-true (ltb 0 vkind)))

  module _ (n : not (eqb r.windowed 0) || leb r.kind 3 ≡ false) where
    pub wants-any : r.kind ≡ 4 → true ≡ wants doc r f
    unfolding wants wants_by
    wants-any e = let q = simp says at n in rw (eq-eqb r.windowed 0 q.0, e)

    pub wants-wrong : (r.kind ≡ 4 → ⊥) → (fits : Bool) (value : ℤ) → fits ≡ (le_z r.low value && le_z value r.high)
        → doc.value f ≡ value → (ltb 0 vkind && not (eqb vkind 3 || (eqb vkind 1 && fits))) ≡ wants doc r f
    unfolding wants within
    wants-wrong z fits value e q =
        let s = simp says at n in
        sym (rw (eq-eqb r.windowed 0 s.0) (high-kind r.kind (omega (arith, s.1)) ∙ rw (q, e)))
