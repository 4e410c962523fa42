-- The ways out of `verdict`: a refusal of either image, no such rule, and the verdict on the rule.
use Rattle.meaning.specs.declared.Refusal.{Refusal}
use Rattle.std.specs.Prelude.{Ok, Result}
use mathlib.Core.Path.{◌≡◌, sym, ap, ◌∙◌}
use mathlib.Core.Bool.{true}
use mathlib.Core.List.{List}
use Prim.Native.Nat.{ℕ, ◌≤◌, ◌<◌}
use native.Mathlib.Omega.{arith}
use lib.ListN.{length}
use borrow.Author.Tests.{lt-ltb, le-ltb}
use Rattle.meaning.specs.declared.Rule.{Rule}
use Rattle.meaning.specs.declared.Verdict.{Verdict}
use Rattle.meaning.specs.Reading.{Refused, Accepted}
use Rattle.meaning.specs.Nodes.{doc_of, read_nodes}
use Rattle.meaning.specs.Rules.{is_reference, rule_at, rules_of, read_rules}
use Rattle.meaning.specs.Answer.{referred_by, judged, read_verdict, verdict, tell_verdict}
use Rattle.columns.specs.declared.Columns.{Columns}
use Rattle.rules.specs.Table.{Table, referred_or}
use Rattle.rules.proofs.Tables.{refers_to}
use Rattle.opening.specs.Promises.{VerdictPromise}
use Rattle.opening.specs.Opening.{Opens}
use Rattle.opening.proofs.Opens.{still, refused_both}

module _ (nodes rules : List ℕ) (k : ℕ) where
  abbrev Right : Result Verdict Refusal → Type 0
  Right = VerdictPromise nodes rules k

  pub verdict-refused : {c : Columns} → Opens nodes rules c → {a b : ℕ} → c.loaded ≡ Refused a b → Right (Refused a b)
  unfolding verdict read_verdict
  verdict-refused o r = rw (still (read_nodes nodes) (read_rules rules) _ (refused_both rules o r))

  module _ {m : ℕ} (t : Table rules m) where
    pub no_rule_lem : read_nodes nodes ≡ Accepted → read_rules rules ≡ Accepted → m ≤ k → Right (Refused 11 0)
    unfolding verdict read_verdict
    no_rule_lem n a h = rw (n, a, le-ltb k (length (rules_of rules)) (omega (arith, t.count)))

    pub rule_here : k < m → k < length (rules_of rules)
    rule_here h = omega (arith, t.count)

  -- what is judged of a rule and of the rule that it refers to is the verdict on the table's
  pub rule_judged : read_nodes nodes ≡ Accepted → read_rules rules ≡ Accepted → k < length (rules_of rules)
      → {r : Rule} → r ≡ rule_at (rules_of rules) k → {q : Rule} → q ≡ referred_or (rules_of rules) k
      → {x : Verdict} → ((p : Rule) → (is_reference r ≡ true → p ≡ q) → x ≡ judged (doc_of nodes) p r) → Right (Ok x)
  unfolding verdict read_verdict
  rule_judged n a h er eq f =
      rw (n, a, lt-ltb k (length (rules_of rules)) h)
      (ap (λ v. tell_verdict (Ok v)) (f (referred_by (rules_of rules) k) (λ e. sym (refers_to (rules_of rules) k eq (ap is_reference (sym er) ∙ e)))
      ∙ ap (judged (doc_of nodes) (referred_by (rules_of rules) k)) er))
