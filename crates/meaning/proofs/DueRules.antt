-- The tests of a rule image refuse exactly as the lines of 01's table are due: 21 to 26.
use mathlib.Core.Path.{◌≡◌}
use mathlib.Core.Bool.{true, false, ◌||◌, not}
use mathlib.Core.List.{List}
use Prim.Native.Nat.{ℕ}
use native.Mathlib.Omega.{arith}
use borrow.Author.Tests.{eqb-false, ltb-false, not-false}
use lib.Dec.{eqb, ltb}
use lib.ListN.{length}
use Rattle.meaning.specs.declared.Rule.{Rule}
use Rattle.meaning.specs.Bytes.{byte}
use Rattle.meaning.specs.Walk.{any}
use Rattle.meaning.specs.Order.{need, in_order}
use Rattle.meaning.specs.Block.{rule_form, image_tests, record_of}
use Rattle.meaning.specs.Rules.{is_key, is_unique, is_reference, rule_at, rules_of, spare_in, rule_fields, read_rule, refers_well, table_tests, read_rules}
use Rattle.meaning.proofs.Basics.{and_else, neither_l, neither_r}
use Rattle.meaning.proofs.Walks.{any-true}
use Rattle.meaning.proofs.Says.{says}
use Rattle.meaning.proofs.Tables.{rule_row}
use Rattle.meaning.proofs.Lines.{joined, Says, accepts, need-says, need-broken, then_says, each-says}
use Rattle.meaning.proofs.Due.{SpareSet, at_39, from_42, RefersBadly, missing, other_kind, rule_lines}
use Rattle.meaning.proofs.DueBlocks.{blocks-say}

-- 24
module _ (image : List ℕ) (k : ℕ) where
  abbrev bytes : List ℕ
  bytes = record_of rule_form image k

  spare-set : spare_in bytes ≡ false → SpareSet image k
  unfolding spare_in
  spare-set =
      and_else (eqb (byte bytes 39) 0) (not (any (λ at. ltb 0 (byte bytes at)) 42 8))
      (λ z. at_39 (eqb-false (byte bytes 39) 0 z))
      (λ z. let w = any-true (λ at. ltb 0 (byte bytes at)) 42 8 (not-false _ z) in
      let s = simp says at w.1.passes in
      from_42 w.0 w.1.from w.1.below (λ e. omega arith))

  spare-zero : spare_in bytes ≡ true → SpareSet image k → ⊥
  unfolding spare_in
  spare-zero e (at_39 f) = f (simp says at e).0
  spare-zero e (from_42 at a b f) = let z = (simp says at e).1 at a b in f (omega arith)

-- 26
module _ (rs : List Rule) (k : ℕ) where
  refers-badly : refers_well rs k ≡ false → RefersBadly rs k
  unfolding refers_well
  refers-badly e =
      let q = (rule_at rs k).referred in
      let r = simp says at (neither_l (not (is_reference (rule_at rs k))) _ e) in
      and_else (ltb q (length rs)) (is_key (rule_at rs q) || is_unique (rule_at rs q))
      (λ z. missing r (ltb-false q (length rs) z))
      (λ z. let w = simp says at z in other_kind r w.0 w.1)
      (neither_r (not (is_reference (rule_at rs k))) _ e)

  refers-well_lem : refers_well rs k ≡ true → RefersBadly rs k → ⊥
  unfolding refers_well
  refers-well_lem e (missing r h) = let w = (simp says at e) r in omega arith
  refers-well_lem e (other_kind r f g) = let w = (simp says at e) r in g (w.1 f)

-- 21 to 26
pub rules_say : (image : List ℕ) → Says (read_rules image) (rule_lines image)
unfolding read_rules table_tests read_rule in_order joined
rules_say image =
    let rs = rules_of image in
    then_says (in_order (image_tests rule_form image)) _ (blocks-say rule_form image (omega arith))
    (λ e. then_says _ _
    (each-says (read_rule image rs) _ 0 (length rs) (λ k a b p.
    then_says (need (spare_in (record_of rule_form image k)) 24 k) _ (need-says (spare_in (record_of rule_form image k)) (spare-zero image k) (spare-set image k))
    (λ d. need-broken (rule_fields (rule_at rs k)) (rule_row (rule_at rs k)))))
    (λ c. then_says _ _
    (each-says (λ k. need (refers_well rs k) 26 k) _ 0 (length rs) (λ k a b p. need-says (refers_well rs k) (refers-well_lem rs k) (refers-badly rs k)))
    (λ d. accepts tt)))
