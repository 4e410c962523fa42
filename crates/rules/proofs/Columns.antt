-- The two columns kept of a table: one rule more, and that 26 by the columns of a whole table is 26 by the table.
use mathlib.Core.Path.{◌≡◌, ap, ◌∙◌}
use mathlib.Core.Logic.{⊎_elim}
use mathlib.Core.List.{List}
use Prim.Native.Nat.{ℕ, ◌+◌, ◌≤◌, ◌<◌}
use native.Mathlib.Omega.{arith}
use borrow.Author.Count.{below_more}
use borrow.Author.Tests.{le-ltb}
use lib.ListN.{length, set}
use lib.Seq.{get_or-set_same, get_or-set_other}
use Rattle.meaning.specs.declared.Rule.{Rule}
use Rattle.meaning.specs.Reading.{Reading}
use Rattle.meaning.specs.Order.{need, earliest}
use Rattle.meaning.specs.Rules.{rule_at, refers_well}
use Rattle.meaning.proofs.Basics.{le_or_lt}
use Rattle.rules.specs.Table.{Begins, Kept, refers_in}
use Rattle.rules.proofs.Walked.{earliest-same}

-- one entry more
begins-on : (f : ℕ → ℕ) (k : ℕ) (column : List ℕ) {v : ℕ} → Begins f k column → k < length column → v ≡ f k → Begins f (k + 1) (set column k v)
begins-on f k column {v} h room e =
    below_more _ k (λ j l. get_or-set_other column k j v 0 (λ p. omega arith) ∙ h j l) (get_or-set_same column k v 0 room ∙ e)

module _ (rs : List Rule) where
  -- of no rule nothing is kept
  pub kept-none : (kind referred : List ℕ) → Kept rs 0 kind referred
  kept-none kind referred = record { kinds = λ k l. absurd (omega arith); targets = λ k l. absurd (omega arith) }

  -- and of one more what it says
  pub kept_on : (k : ℕ) {kind referred : List ℕ} {a b : ℕ} → Kept rs k kind referred → k < length kind → k < length referred → a ≡ (rule_at rs k).kind → b ≡ (rule_at rs k).referred
      → Kept rs (k + 1) (set kind k a) (set referred k b)
  kept_on k {kind} {referred} kept room-kind room-referred ea eb =
      record { kinds = begins-on _ k kind kept.kinds room-kind ea; targets = begins-on _ k referred kept.targets room-referred eb }

  -- past the last rule all is kept
  pub kept-all : (n : ℕ) {k : ℕ} {kind referred : List ℕ} → k ≤ n → n ≤ k → Kept rs k kind referred → Kept rs n kind referred
  kept-all n u v kept = record { kinds = λ j l. kept.kinds j (omega arith); targets = λ j l. kept.targets j (omega arith) }

  module _ {n : ℕ} (en : n ≡ length rs) {kind referred : List ℕ} (kept : Kept rs n kind referred) where
    refers-same : (k : ℕ) → k < n → refers_in kind referred n k ≡ refers_well rs k
    unfolding refers_in refers_well
    refers-same k h =
        let t = (rule_at rs k).referred in
        rw (kept.kinds k h, kept.targets k h, ← en)
        (⊎_elim (λ g. rw (le-ltb t n g)) (λ l. rw (kept.kinds t l)) (le_or_lt n t))

    -- 26 at its lowest record
    pub refers-by : {x : Reading} → x ≡ earliest (λ k. need (refers_in kind referred n k) 26 k) 0 n → x ≡ earliest (λ k. need (refers_well rs k) 26 k) 0 n
    refers-by e = e ∙ earliest-same _ _ 0 n (λ k l. ap (λ t. need t 26 k) (refers-same k (omega arith)))
