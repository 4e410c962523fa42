-- Answers worked out from decoded images: the reading is done once for a bank, and each question goes by the document and the rules.
use mathlib.Core.Path.{◌≡◌, ap, ◌∙◌, fun_ext}
use mathlib.Core.Bool.{◌&&◌}
use mathlib.Core.List.{List, map}
use Prim.Native.Nat.{ℕ}
use lib.ListN.{length, replicate}
use lib.Dec.{ltb, leb}
use Rattle.meaning.specs.declared.Rule.{Rule}
use Rattle.meaning.specs.Reading.{Reading, Accepted}
use Rattle.meaning.specs.Order.{need, and_then}
use Rattle.meaning.specs.Document.{Doc}
use Rattle.meaning.specs.Nodes.{doc_of, read_nodes}
use Rattle.meaning.specs.Rules.{is_sequenced, rule_at, rules_of, read_rules}
use Rattle.meaning.specs.Day.{slice}
use Rattle.meaning.specs.Answer.{referred_by, verdict_after, read_verdict, storing, lent_after, read_slice, slice_answer, slice_lent, read_changes}
use Rattle.meaning.proofs.Asking.{Asked, on_rule, on_slice, on_changes, Answered, told, stored, answer, quick_days, quick_judged, quick_verdict, quick_changes, quick_answer, answer-quick, Example, answers, expecteds}

-- a list stored after this reading, with what the lent one then holds
abbrev putting : Reading → List ℕ → ℕ → Answered
putting x list room = stored (storing x list (replicate room 0)) (lent_after (storing x list (replicate room 0)) list (replicate room 0))

-- the answer of an accepted bank: only 11 and 12 are left to be refused with
unfoldable pub decoded_answer : Doc → List Rule → Asked → Answered
decoded_answer doc rs (on_rule k) = told (verdict_after (need (ltb k (length rs)) 11 0) (quick_judged doc (referred_by rs k) (rule_at rs k)))
decoded_answer doc rs (on_slice d room) = putting (need (leb d 36524) 11 0) (slice doc d) room
decoded_answer doc rs (on_changes k room) =
    putting (need (ltb k (length rs) && is_sequenced (rule_at rs k)) 11 0) (quick_days doc (referred_by rs k) (rule_at rs k)) room

-- two accepted images and what they hold
pub record Bank (nodes rules : List ℕ) (doc : Doc) (rs : List Rule) : Type 0 where
  pub nodes_read : read_nodes nodes ≡ Accepted
  pub rules_read : read_rules rules ≡ Accepted
  pub document : doc_of nodes ≡ doc
  pub table : rules_of rules ≡ rs

module _ (nodes rules : List ℕ) (doc : Doc) (rs : List Rule) (b : Bank nodes rules doc rs) where
  -- readings of an accepted bank
  two-read : (last : Reading) → and_then (read_nodes nodes) (and_then (read_rules rules) last) ≡ last
  two-read last = rw (b.nodes_read, b.rules_read)

  decoded : (a : Asked) → quick_answer nodes rules a ≡ decoded_answer doc rs a
  unfolding quick_answer decoded_answer answer quick_verdict quick_changes slice_answer slice_lent read_verdict read_changes read_slice
  decoded (on_rule k) = rw (two-read, b.document, b.table)
  decoded (on_slice d room) = rw (b.nodes_read, b.document)
  decoded (on_changes k room) = rw (two-read, b.document, b.table)

  pub by-decoding : (es : List Example) → map (λ (e : Example). decoded_answer doc rs e.asked) es ≡ expecteds es → answers nodes rules es ≡ expecteds es
  by-decoding es h = ap (λ (f : Example → Answered). map f es) (fun_ext (λ e. answer-quick nodes rules e.asked ∙ decoded e.asked)) ∙ h
