-- Questions to the three calls and their answers, and a quick way to work the answers out, proved to give the same.
use mathlib.Core.Path.{◌≡◌, refl, ap, ◌∙◌, fun_ext}
use mathlib.Core.Bool.{cond}
use mathlib.Core.List.{List, map}
use Prim.Native.Nat.{ℕ}
use lib.ListN.{replicate}
use Rattle.meaning.specs.declared.Rule.{Rule}
use Rattle.meaning.specs.Reading.{Reading, Accepted}
use Rattle.std.specs.Prelude.{Result, Err, Ok}
use Rattle.meaning.specs.declared.Refusal.{Refusal}
use Rattle.meaning.specs.declared.Verdict.{Verdict}
use Rattle.meaning.specs.Order.{in_order}
use Rattle.meaning.specs.Block.{node_form, image_tests}
use Rattle.meaning.specs.Document.{Doc}
use Rattle.meaning.specs.Nodes.{doc_of, accept, read_nodes}
use Rattle.meaning.specs.Rules.{is_sequenced, rule_at, rules_of}
use Rattle.meaning.specs.Day.{offender, change_days}
use Rattle.meaning.specs.Window.{in_windows}
use Rattle.meaning.specs.Answer.{referred_by, judged, verdict_after, read_verdict, verdict, storing, lent_after, slice_answer, slice_lent, read_changes, changes_of, changes_answer, changes_lent}
use Rattle.meaning.proofs.Orders.{then_accepted}
use Rattle.meaning.proofs.Says.{says}
use Rattle.meaning.proofs.Sound.{Sound}
use Rattle.meaning.proofs.Accepted.{accepted-sound}
use Rattle.meaning.proofs.Slices.{present-alive}
use Rattle.meaning.proofs.Over.{over}
use Rattle.meaning.proofs.Changes.{verdict-changes}
use Rattle.meaning.proofs.Hops.{marks, hop_days, days_by_hops}

-- the verdict on a rule; the slice of a day, or the change days of a rule, into a list of zeros of this room
pub data Asked : Type 0 where
  on_rule : ℕ → Asked
  on_slice : ℕ → ℕ → Asked
  on_changes : ℕ → ℕ → Asked

pub data Answered : Type 0 where
  told : Result Verdict Refusal → Answered
  stored : Result ℕ Refusal → List ℕ → Answered

-- what comes back, by the definitions
unfoldable pub answer : List ℕ → List ℕ → Asked → Answered
answer nodes rules (on_rule k) = told (verdict nodes rules k)
answer nodes rules (on_slice d room) = stored (slice_answer nodes d (replicate room 0)) (slice_lent nodes d (replicate room 0))
answer nodes rules (on_changes k room) = stored (changes_answer nodes rules k (replicate room 0)) (changes_lent nodes rules k (replicate room 0))

-- the change days by hops, and the verdict over them
unfoldable pub quick_days : Doc → Rule → Rule → List ℕ
quick_days doc q r = hop_days doc q r (marks doc q r 0 doc.size)

unfoldable pub quick_judged : Doc → Rule → Rule → Verdict
quick_judged doc q r = cond (is_sequenced r) (over (offender doc q r) (quick_days doc q r) 0) (in_windows doc q r)

pub days_quick : (doc : Doc) (q r : Rule) → change_days doc q r ≡ quick_days doc q r
unfolding quick_days
days_quick doc q r = days_by_hops doc q r

pub judged-quick : (doc : Doc) → Sound doc → (q r : Rule) → judged doc q r ≡ quick_judged doc q r
unfolding judged quick_judged
judged-quick doc s q r =
    ap (λ v. cond (is_sequenced r) v (in_windows doc q r))
    (verdict-changes doc q r (present-alive doc s) ∙ ap (λ ds. over (offender doc q r) ds 0) (days_quick doc q r))

-- what is found matters only where the reading accepts
after_same : (x : Reading) (a b : Verdict) → (x ≡ Accepted → a ≡ b) → verdict_after x a ≡ verdict_after x b
after_same Accepted a b h = ap Ok (h refl)
after_same (Err why) a b h = refl

unfoldable pub quick_verdict : List ℕ → List ℕ → ℕ → Result Verdict Refusal
quick_verdict nodes rules k =
    verdict_after (read_verdict nodes rules k) (quick_judged (doc_of nodes) (referred_by (rules_of rules) k) (rule_at (rules_of rules) k))

-- an accepted image holds a sound document
pub nodes_document : (nodes : List ℕ) → read_nodes nodes ≡ Accepted → Sound (doc_of nodes)
unfolding read_nodes
nodes_document nodes e = accepted-sound (doc_of nodes) (then_accepted (in_order (image_tests node_form nodes)) (accept (doc_of nodes)) e).1

nodes_read : (nodes rules : List ℕ) (k : ℕ) → read_verdict nodes rules k ≡ Accepted → read_nodes nodes ≡ Accepted
unfolding read_verdict
nodes_read nodes rules k e = (simp says at e).0

pub verdict-quick : (nodes rules : List ℕ) (k : ℕ) → verdict nodes rules k ≡ quick_verdict nodes rules k
unfolding verdict quick_verdict
verdict-quick nodes rules k =
    after_same (read_verdict nodes rules k) _ _
    (λ e. judged-quick (doc_of nodes) (nodes_document nodes (nodes_read nodes rules k e)) (referred_by (rules_of rules) k) (rule_at (rules_of rules) k))

unfoldable pub quick_changes : List ℕ → List ℕ → ℕ → List ℕ
quick_changes nodes rules k = quick_days (doc_of nodes) (referred_by (rules_of rules) k) (rule_at (rules_of rules) k)

changes_quick : (nodes rules : List ℕ) (k : ℕ) → changes_of nodes rules k ≡ quick_changes nodes rules k
unfolding changes_of quick_changes
changes_quick nodes rules k = days_quick (doc_of nodes) (referred_by (rules_of rules) k) (rule_at (rules_of rules) k)

unfoldable pub quick_answer : List ℕ → List ℕ → Asked → Answered
quick_answer nodes rules (on_rule k) = told (quick_verdict nodes rules k)
quick_answer nodes rules (on_slice d room) = answer nodes rules (on_slice d room)
quick_answer nodes rules (on_changes k room) =
    let list = quick_changes nodes rules k in
    let put = storing (read_changes nodes rules k) list (replicate room 0) in
    stored put (lent_after put list (replicate room 0))

-- each answer by the definitions is the quick one
pub answer-quick : (nodes rules : List ℕ) (a : Asked) → answer nodes rules a ≡ quick_answer nodes rules a
unfolding answer quick_answer changes_answer changes_lent
answer-quick nodes rules (on_rule k) = ap told (verdict-quick nodes rules k)
answer-quick nodes rules (on_slice d room) = refl
answer-quick nodes rules (on_changes k room) =
    ap (λ list. stored (storing (read_changes nodes rules k) list (replicate room 0)) (lent_after (storing (read_changes nodes rules k) list (replicate room 0)) list (replicate room 0)))
    (changes_quick nodes rules k)

-- a question and the answer it is to have
pub record Example : Type 0 where
  pub asked : Asked
  pub expected : Answered

-- the answers to a list of examples, by the definitions, and those expected
abbrev pub answers : List ℕ → List ℕ → List Example → List Answered
answers nodes rules es = map (λ (e : Example). answer nodes rules e.asked) es

abbrev pub expecteds : List Example → List Answered
expecteds es = map (λ (e : Example). e.expected) es

-- so a list of examples may be worked out quickly
pub by-computing : (nodes rules : List ℕ) (es : List Example) → map (λ (e : Example). quick_answer nodes rules e.asked) es ≡ expecteds es → answers nodes rules es ≡ expecteds es
by-computing nodes rules es h = ap (λ (f : Example → Answered). map f es) (fun_ext (λ e. answer-quick nodes rules e.asked)) ∙ h
