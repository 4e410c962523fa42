-- The text of a report as it grows: line by line, and for every way that reading goes.
use mathlib.Core.Path.{◌≡◌, refl, sym, ap, ◌∙◌}
use mathlib.Core.List.{List, ◌++◌, append_assoc, append-nil}
use Prim.Native.Nat.{ℕ, zero, suc, ◌+◌, ◌≤◌}
use native.Mathlib.Numerals.{add-one}
use native.Mathlib.Omega.{arith}
use lib.ListN.{length}
use borrow.Author.Tests.{eq-eqb}
use Rattle.meaning.specs.declared.Rule.{Rule}
use Rattle.meaning.specs.declared.Refusal.{Refusal}
use Rattle.meaning.specs.declared.Verdict.{Verdict}
use Rattle.meaning.specs.Reading.{Refused}
use Rattle.std.specs.Prelude.{Ok, Result}
use Rattle.meaning.specs.Order.{and_then}
use Rattle.meaning.specs.Nodes.{read_nodes}
use Rattle.meaning.specs.Rules.{rule_at, rules_of, read_rules}
use Rattle.meaning.specs.Answer.{verdict, tell_verdict}
use Rattle.meaning.proofs.Sequenced.{sequenced-same}
use Rattle.columns.specs.declared.Columns.{Columns}
use Rattle.opening.specs.Opening.{Opens}
use Rattle.opening.specs.Promises.{VerdictPromise, SequencedPromise}
use Rattle.opening.proofs.Opens.{accepted-both}
use Rattle.bank.proofs.Theorems.{verdict-unique}
use Rattle.spelling.specs.Puts.{Puts}
use Rattle.spelling.proofs.Pieces.{puts_none, puts_as, puts_then}
use Rattle.spelling.specs.Lines.{rule_line, header, refused_line}
use Rattle.report.specs.Text.{rule_lines, line_or, report_of}

module _ (found : ℕ → Result Verdict Refusal) where
  lines_more : (i n : ℕ) → rule_lines found i (suc n) ≡ rule_lines found i n ++ rule_line (i + n) (found (i + n))
  unfolding rule_lines
  lines_more i zero = let e : i + 0 ≡ i = omega arith in rw e (append-nil (rule_line i (found i)))
  lines_more i (suc n) =
      let e : i + suc n ≡ suc i + n = omega arith in
      rw e (ap (λ l. rule_line i (found i) ++ l) (lines_more (suc i) n) ∙ sym (append_assoc (rule_line i (found i)) (rule_lines found (suc i) n) (rule_line (suc i + n) (found (suc i + n)))))

  pub rules_none : (text : List ℕ) (at : ℕ) → Puts text at (rule_lines found 0 0) text at
  unfolding rule_lines
  rules_none text at = puts_none text at

  pub rules_more : {old now next : List ℕ} {at to end : ℕ} (k : ℕ) {x : Result Verdict Refusal} → Puts old at (rule_lines found 0 k) now to → Puts now to (rule_line k x) next end → x ≡ found k
      → Puts old at (rule_lines found 0 (k + 1)) next end
  rules_more k p q e =
      let z : 0 + k ≡ k = omega arith in
      puts_as (puts_then p (puts_as q (ap (rule_line k) e))) (rw (add-one, lines_more 0 k, z) refl)

  pub rules_all : {old now : List ℕ} {at to : ℕ} {k n : ℕ} → Puts old at (rule_lines found 0 k) now to → k ≤ n → n ≤ k → Puts old at (rule_lines found 0 n) now to
  rules_all {k = k} {n} p a b = let e : k ≡ n = omega arith in puts_as p (ap (rule_lines found 0) e)

-- what the calls promise of each rule is what the report says of it
pub promised : (nodes rules : List ℕ) (k : ℕ) {x : Result Verdict Refusal} → VerdictPromise nodes rules k x → x ≡ verdict nodes rules k
promised nodes rules k {x} p = verdict-unique nodes rules k x (verdict nodes rules k) p refl

-- what the plain engine promises of a sequenced rule is what the quick one does
pub plainly_promised : (nodes rules : List ℕ) (k : ℕ) {r : Rule} → r ≡ rule_at (rules_of rules) k → r.windowed ≡ 0 → (x : Result Verdict Refusal) → SequencedPromise nodes rules k x → VerdictPromise nodes rules k x
plainly_promised nodes rules k er s x p =
    p ∙ ap tell_verdict (sequenced-same nodes rules k (eq-eqb (rule_at (rules_of rules) k).windowed 0 (sym (ap (λ (x : Rule). x.windowed) er) ∙ s)))

module _ (nodes rules : List ℕ) where
  pub refused_images : {a b : ℕ} → and_then (read_nodes nodes) (read_rules rules) ≡ Refused a b → refused_line a b ≡ report_of nodes rules
  unfolding report_of line_or
  refused_images e = rw e refl

  pub accepted-images : {c : Columns} → Opens nodes rules c → {n : ℕ} → c.loaded ≡ Ok n → header ++ rule_lines (verdict nodes rules) 0 (length (rules_of rules)) ≡ report_of nodes rules
  unfolding report_of line_or
  accepted-images o e = let ok = accepted-both rules o e in rw (ok.0, ok.1) refl
