-- The verdict as 01 alone has it, before request 2 of 02: a window is held to a cardinality's minimum, shortened or not. Nothing is judged by it; it is
-- what `Sparing` compares the meaning with.
use Rattle.meaning.specs.declared.Refusal.{Refusal}
use Rattle.std.specs.Prelude.{Result}
use mathlib.Core.Bool.{Bool, ◌&&◌, not, cond}
use mathlib.Core.List.{List}
use Prim.Native.Nat.{ℕ}
use lib.IntN.{pos}
use Rattle.meaning.specs.declared.Rule.{Rule}
use Rattle.meaning.specs.declared.Verdict.{Verdict}
use Rattle.meaning.specs.Walk.{any, count, first, Found}
use Rattle.meaning.specs.Document.{Doc, number_of}
use Rattle.meaning.specs.Nodes.{doc_of}
use Rattle.meaning.specs.Rules.{by_kind, is_sequenced, rule_at, rules_of}
use Rattle.meaning.specs.Select.{within, present}
use Rattle.meaning.specs.Day.{on_days}
use Rattle.meaning.specs.Window.{Window, meets, shared_in, key_in, reference_in, counts, datatype_in, windows, judge}
use Rattle.meaning.specs.Answer.{referred_by, verdict_after, read_verdict}

-- too few or too many, in any window
unfoldable pub cardinality_before : Doc → (ℕ → Bool) → Rule → ℕ → Bool
cardinality_before doc p r v = not (within r (pos (count (counts doc p r (number_of doc v)) 0 doc.size)))

-- by the rule's kind, as `breaks_in` has it
unfoldable pub breaks_before : Doc → (ℕ → Bool) → Rule → Rule → ℕ → ℕ → Bool
breaks_before doc p q r v k =
    by_kind
    (λ u. present doc p r u && key_in doc p r u)
    (λ u. present doc p r u && shared_in doc p r u)
    (λ u. present doc p r u && reference_in doc p q r u)
    (λ u. present doc p r u && cardinality_before doc p r u)
    (λ u. any (datatype_in doc p r u) 0 doc.size)
    k v

-- the lowest offender of a window
unfoldable pub offender_before : Doc → Rule → Rule → Window → Found
offender_before doc q r w = first (λ v. breaks_before doc (meets doc w) q r v r.kind) 0 doc.size

-- the verdict on a rule r, which refers to q
unfoldable pub judged_before : Doc → Rule → Rule → Verdict
judged_before doc q r = cond (is_sequenced r) (on_days doc q r) (judge (offender_before doc q r) (windows r) 0)

-- the call `verdict`
unfoldable pub verdict_before : List ℕ → List ℕ → ℕ → Result Verdict Refusal
verdict_before nodes rules k =
    verdict_after (read_verdict nodes rules k) (judged_before (doc_of nodes) (referred_by (rules_of rules) k) (rule_at (rules_of rules) k))
