-- What a report's text is: whole in a buffer of 9,031 bytes, one for each pair of images, refused where every rule is; and that of the example bank.
use Rattle.std.specs.Prelude.{Err, Result}
use mathlib.Core.Path.{◌≡◌, refl, sym, ap, ◌∙◌, fun_ext}
use mathlib.Core.List.{List, ◌++◌}
use Prim.Native.Nat.{ℕ, zero, suc, ◌*◌, ◌≤◌}
use native.Mathlib.Omega.{arith}
use lib.Dec.{ltb}
use lib.ListN.{length, take, length-append}
use Rattle.meaning.specs.Reading.{Reading, Accepted, Refused}
use Rattle.meaning.specs.declared.Refusal.{Refusal}
use Rattle.meaning.specs.declared.Verdict.{Verdict}
use Rattle.meaning.specs.Order.{need, and_then}
use Rattle.meaning.specs.Nodes.{read_nodes}
use Rattle.meaning.specs.Rules.{rules_of, read_rules}
use Rattle.meaning.specs.Answer.{read_verdict, verdict}
use Rattle.meaning.proofs.Asking.{verdict-quick}
use Rattle.meaning.proofs.ImageBytes.{bank_nodes, bank_rules}
use Rattle.meaning.proofs.Opened.{opened}
use Rattle.rules.proofs.Tables.{accepted-few}
use Rattle.opening.proofs.Opens.{still}
use Rattle.spelling.specs.Spelled.{word, digits_of, decimal}
use Rattle.spelling.specs.Puts.{Puts}
use Rattle.spelling.proofs.Pieces.{puts_whole, puts_unique}
use Rattle.spelling.proofs.Rooms.{line-room, refused_room}
use Rattle.spelling.specs.Lines.{told, rule_line, header}
use Rattle.report.specs.Text.{rule_lines, line_or, report_of}

lines-room : (found : ℕ → Result Verdict Refusal) (k n : ℕ) → length (rule_lines found k n) ≤ 90 * n
unfolding rule_lines
lines-room found k zero = omega arith
lines-room found k (suc n) = omega (arith, length-append (rule_line k (found k)) (rule_lines found (suc k) n), line-room k (found k), lines-room found (suc k) n)

module _ (nodes rules : List ℕ) where
  -- No report is longer than 9,031 bytes: the header's 31, and 90 for each of a hundred rules.
  pub report_room : length (report_of nodes rules) ≤ 9031
  unfolding report_of line_or header word
  report_room = go (read_nodes nodes) (read_rules rules) refl
    where
      go : (x y : Reading) → y ≡ read_rules rules → length (line_or (and_then x y) (header ++ rule_lines (verdict nodes rules) 0 (length (rules_of rules)))) ≤ 9031
      go (Err why) y e = omega (arith, refused_room why.number why.place)
      go Accepted (Err why) e = omega (arith, refused_room why.number why.place)
      go Accepted Accepted e = omega (arith, length-append header (rule_lines (verdict nodes rules) 0 (length (rules_of rules))), lines-room (verdict nodes rules) 0 (length (rules_of rules)), accepted-few rules (sym e))

  -- So a buffer of that size holds the whole report, and its front is the report.
  pub report_whole : {text after : List ℕ} {end : ℕ} → Puts text 0 (report_of nodes rules) after end → 9031 ≤ length text → take end after ≡ report_of nodes rules
  report_whole p h = puts_whole p (omega (arith, report_room))

  -- Two results that the promise allows are equal.
  pub report_unique : {text one two : List ℕ} {a b : ℕ} → Puts text 0 (report_of nodes rules) one a → Puts text 0 (report_of nodes rules) two b → (one ≡ two) × (a ≡ b)
  report_unique p q = puts_unique p q

  -- Where the report is one line of refusal, every rule number's verdict is that refusal.
  pub refused_for_all : {a b : ℕ} → and_then (read_nodes nodes) (read_rules rules) ≡ Refused a b → (k : ℕ) → verdict nodes rules k ≡ Refused a b
  unfolding verdict read_verdict
  refused_for_all e k = rw (still (read_nodes nodes) (read_rules rules) (need (ltb k (length (rules_of rules))) 11 0) e) refl

-- The report on the example bank, as 01 prints it.
pub example_report : report_of bank_nodes bank_rules ≡ word "rule verdict day record looked\n0 holds - - 4\n1 fails 0 10 1\n2 fails 200 3 3\n3 fails 400 10 5\n4 fails 0 8 1\n5 fails 400 10 4\n6 holds - - 4\n"
unfolding opened report_of line_or header rule_lines rule_line told decimal digits_of word bank_nodes bank_rules
example_report = ap (λ found. line_or (and_then (read_nodes bank_nodes) (read_rules bank_rules)) (header ++ rule_lines found 0 (length (rules_of bank_rules)))) (fun_ext (verdict-quick bank_nodes bank_rules)) ∙ refl
