-- The three calls refuse exactly as the lines of 01's table are due: the images' own, then 11, then 12.
use Rattle.std.specs.Prelude.{Err}
use mathlib.Core.Path.{◌≡◌, refl}
use mathlib.Core.Bool.{Bool, true, false, ◌&&◌}
use mathlib.Core.List.{List, [], ◌∷◌}
use Prim.Native.Nat.{ℕ, ◌<◌}
use borrow.Author.Tests.{leb-true, leb-false, ltb-true, ltb-false, eqb-false}
use native.Mathlib.Omega.{arith}
use lib.Dec.{leb, ltb}
use lib.ListN.{length}
use Rattle.meaning.specs.declared.Rule.{Rule}
use Rattle.meaning.specs.Reading.{Reading, Accepted}
use Rattle.meaning.specs.Order.{need, and_then}
use Rattle.meaning.specs.Nodes.{doc_of, read_nodes}
use Rattle.meaning.specs.Rules.{is_sequenced, rule_at, rules_of, read_rules}
use Rattle.meaning.specs.Day.{slice}
use Rattle.meaning.specs.Answer.{read_verdict, read_slice, read_changes, changes_of}
use Rattle.meaning.proofs.Basics.{and_else}
use Rattle.meaning.proofs.Says.{says}
use Rattle.meaning.proofs.Lines.{line, Says, need-says, then_says}
use Rattle.meaning.proofs.Due.{Unlistable, no_such_rule, not_sequenced, verdict_lines, slice_lines, changes_lines}
use Rattle.meaning.proofs.DueDocument.{nodes_say}
use Rattle.meaning.proofs.DueRules.{rules_say}

-- 12: a list goes to a lent one with enough room
abbrev pub roomy : List ℕ → List ℕ → Reading
roomy list lent = need (leb (length list) (length lent)) 12 0

-- readings one after the other, grouped in either way
pub then_assoc : (a b c : Reading) → and_then a (and_then b c) ≡ and_then (and_then a b) c
then_assoc Accepted b c = refl
then_assoc (Err why) b c = refl

room_says : (list lent : List ℕ) → Says (roomy list lent) (line 12 0 (length lent < length list) ∷ [])
room_says list lent =
    let t = leb (length list) (length lent) in
    need-says t (λ y h. omega (arith, leb-true (length list) (length lent) y)) (leb-false (length list) (length lent))

-- a verdict
pub verdict-says : (nodes rules : List ℕ) (k : ℕ) → Says (read_verdict nodes rules k) (verdict_lines nodes rules k)
unfolding read_verdict
verdict-says nodes rules k =
    let m = length (rules_of rules) in
    then_says (read_nodes nodes) _ (nodes_say nodes)
    (λ a. then_says (read_rules rules) _ (rules_say rules)
    (λ b. need-says (ltb k m) (λ y h. omega (arith, ltb-true k m y)) (ltb-false k m)))

-- a slice
pub slice-says : (nodes : List ℕ) (d : ℕ) (lent : List ℕ) → Says (and_then (read_slice nodes d) (roomy (slice (doc_of nodes) d) lent)) (slice_lines nodes d lent)
unfolding read_slice
slice-says nodes d lent =
    rw (← then_assoc (read_nodes nodes) (need (leb d 36524) 11 0) (roomy (slice (doc_of nodes) d) lent))
    (then_says (read_nodes nodes) _ (nodes_say nodes)
    (λ a. then_says (need (leb d 36524) 11 0) _ (need-says (leb d 36524) (λ y h. omega (arith, leb-true d 36524 y)) (leb-false d 36524))
    (λ b. room_says (slice (doc_of nodes) d) lent)))

-- 11 for change days
module _ (rs : List Rule) (k : ℕ) where
  abbrev listable : Bool
  listable = ltb k (length rs) && is_sequenced (rule_at rs k)

  listed : listable ≡ true → Unlistable rs k → ⊥
  listed e (no_such_rule h) = let w = simp says at e in omega arith
  listed e (not_sequenced f) = f (simp says at e).1

  unlisted : listable ≡ false → Unlistable rs k
  unlisted =
      and_else (ltb k (length rs)) (is_sequenced (rule_at rs k)) (λ z. no_such_rule (ltb-false k (length rs) z)) (λ z. not_sequenced (eqb-false (rule_at rs k).windowed 0 z))

-- change days
pub changes_says : (nodes rules : List ℕ) (k : ℕ) (lent : List ℕ)
    → Says (and_then (read_changes nodes rules k) (roomy (changes_of nodes rules k) lent)) (changes_lines nodes rules k lent)
unfolding read_changes
changes_says nodes rules k lent =
    let rs = rules_of rules in
    let eleven = need (listable rs k) 11 0 in
    let twelve = roomy (changes_of nodes rules k) lent in
    rw (← then_assoc (read_nodes nodes) (and_then (read_rules rules) eleven) twelve, ← then_assoc (read_rules rules) eleven twelve)
    (then_says (read_nodes nodes) _ (nodes_say nodes)
    (λ a. then_says (read_rules rules) _ (rules_say rules)
    (λ b. then_says eleven _ (need-says (listable rs k) (listed rs k) (unlisted rs k)) (λ c. room_says (changes_of nodes rules k) lent))))
