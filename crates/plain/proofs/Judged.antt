-- The ways out of the plain `verdict` on a rule of an accepted table: one in windows, and what was found over every day.
use mathlib.Core.Path.{◌≡◌, sym, ap, ◌∙◌}
use mathlib.Core.Logic.{⊎_elim}
use mathlib.Core.Bool.{true, false}
use mathlib.Core.List.{List}
use Prim.Native.Nat.{ℕ, ◌<◌}
use lib.ListN.{length}
use Rattle.std.specs.Prelude.{Ok}
use Rattle.meaning.specs.declared.Rule.{Rule}
use Rattle.meaning.specs.declared.Verdict.{Verdict}
use Rattle.meaning.specs.Reading.{Refused, Accepted}
use Rattle.meaning.specs.Nodes.{doc_of, read_nodes}
use Rattle.meaning.specs.Rules.{is_reference, rule_fields, rule_at, rules_of, read_rules}
use Rattle.meaning.specs.Day.{on_days}
use Rattle.meaning.specs.Answer.{referred_by, tell_verdict}
use Rattle.meaning.proofs.Basics.{went}
use Rattle.meaning.proofs.Sequenced.{sequenced-days}
use Rattle.rules.specs.Table.{referred_or}
use Rattle.rules.proofs.Tables.{refers_to, fields_of, fields_referred}
use Rattle.opening.specs.Promises.{SequencedPromise}
use Rattle.opening.proofs.Sequenced.{changes_read, changes_read_windowed}
use Rattle.plain.proofs.Received.{by-reading}

-- rule k of the table is r, and `other` the rule that it refers to if it is a reference, else r again
module _ (rules : List ℕ) (table : read_rules rules ≡ Accepted) (k : ℕ) (h : k < length (rules_of rules)) {r : Rule} (er : r ≡ rule_at (rules_of rules) k) {other : Rule} (eo : other ≡ referred_or (rules_of rules) k) where
  pub other-referred : is_reference r ≡ true → other ≡ referred_by (rules_of rules) k
  other-referred t = refers_to (rules_of rules) k eo (ap is_reference (sym er) ∙ t)

  pub other-itself : is_reference r ≡ false → other ≡ r
  other-itself f = let n : is_reference (rule_at (rules_of rules) k) ≡ false = ap is_reference (sym er) ∙ f in (rw n at eo) ∙ sym er

  -- both fit the table
  pub rule_fields_lem : rule_fields r ≡ true
  rule_fields_lem = fields_of rules table k h er

  pub other-fields : rule_fields other ≡ true
  other-fields =
      ⊎_elim
      (λ t. (fields_referred rules table k h er eo t).0)
      (λ f. ap rule_fields (other-itself f) ∙ rule_fields_lem)
      (went (is_reference r))

module _ (nodes rules : List ℕ) (k : ℕ) (accepted : read_nodes nodes ≡ Accepted) (table : read_rules rules ≡ Accepted) (h : k < length (rules_of rules)) {r : Rule} (er : r ≡ rule_at (rules_of rules) k) where
  windowed : r.windowed ≡ (rule_at (rules_of rules) k).windowed
  windowed = ap (λ (x : Rule). x.windowed) er

  pub in_windows : (r.windowed ≡ 0 → ⊥) → SequencedPromise nodes rules k (Refused 11 0)
  in_windows w = by-reading nodes rules k (changes_read_windowed nodes rules k accepted table h (λ e. w (windowed ∙ e)))

  pub on-every_day : r.windowed ≡ 0 → {x : Verdict} → x ≡ on_days (doc_of nodes) (referred_by (rules_of rules) k) r → SequencedPromise nodes rules k (Ok x)
  on-every_day s e =
      ap tell_verdict
      (ap Ok (e ∙ ap (on_days (doc_of nodes) (referred_by (rules_of rules) k)) er)
      ∙ sym (sequenced-days nodes rules k ((changes_read nodes rules k).1 (accepted, (table, (h, sym windowed ∙ s))))))
