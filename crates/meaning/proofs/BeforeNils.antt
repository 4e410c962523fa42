-- The meaning before request 5 of 02, when there was no nil: value kind 3 was refused with 5, and values were equal if kind and number were. What differs from
-- the meaning, or rests on what does, under its name with `Was` at the end. Nothing is judged by it; it is what `Nilless` compares the meaning with.
use mathlib.Core.Bool.{Bool, ◌&&◌, ◌||◌, not, cond}
use mathlib.Core.List.{List, [], ◌∷◌}
use Prim.Native.Nat.{ℕ, ◌-◌}
use lib.IntN.{pos, ◌-ℤ◌}
use lib.Signed.{le_z}
use lib.Dec.{leb, ltb, eqb}
use lib.ListN.{length}
use Rattle.meaning.specs.declared.Node.{Node}
use Rattle.meaning.specs.declared.Rule.{Rule}
use Rattle.meaning.specs.Reading.{Reading}
use Rattle.meaning.specs.declared.Verdict.TheVariants.{Holds, Fails}
use Rattle.std.specs.Prelude.{Result}
use Rattle.meaning.specs.declared.Refusal.{Refusal}
use Rattle.meaning.specs.declared.Verdict.{Verdict}
use Rattle.meaning.specs.Walk.{any, count, first, on_found, found, place, Found}
use Rattle.meaning.specs.Bytes.{eq_z}
use Rattle.meaning.specs.Order.{need, and_then, Test, in_order}
use Rattle.meaning.specs.Block.{node_form, limit, image_tests}
use Rattle.meaning.specs.Document.{Doc, of_nodes, node, number_of}
use Rattle.meaning.specs.Nodes.{doc_of, image_of, is_period, item_fields, parent_fits, depth, deepest, misplaced, clashes, whole}
use Rattle.meaning.specs.Lent.{Lent, nodes_lent, long_enough}
use Rattle.meaning.specs.Rules.{by_kind, is_sequenced, rule_at, rules_of, read_rules}
use Rattle.meaning.specs.Select.{is_number, within, present, gives}
use Rattle.meaning.specs.Day.{present_on, slice, values, cardinality, change_days}
use Rattle.meaning.specs.Window.{Window, shortened, meets, valueless, under, windows, judge}
use Rattle.meaning.specs.Answer.{referred_by, verdict_after, storing, lent_after, changes_of, output_after, image_after}

-- READING: the table's column for a version, and the tests that rest on it
unfoldable pub version_fields_was : Node → Bool
version_fields_was n =
    eqb n.kind 2 && leb n.vkind 2 && eqb n.name 0 && is_period n.begin n.end
    && (leb 1 n.vkind || eq_z n.value (pos 0)) && (leb n.vkind 1 || le_z (pos 0) n.value) && eqb n.item 0

unfoldable pub node_fields_was : Node → Bool
node_fields_was n = item_fields n || version_fields_was n

unfoldable pub read_record_was : Doc → ℕ → Reading
read_record_was doc i =
    and_then (need (eqb (doc.spare i) 0) 4 i)
    (and_then (need (node_fields_was (node doc i)) 5 i) (and_then (need (parent_fits doc i) 6 i) (need (leb (depth doc i) deepest) 8 i)))

unfoldable pub document_tests_was : Doc → List Test
document_tests_was doc =
    record { places = doc.size; at = read_record_was doc }
    ∷ record { places = doc.size; at = λ i. need (not (misplaced doc i)) 7 i }
    ∷ record { places = doc.size; at = λ i. need (not (clashes doc i)) 9 i }
    ∷ record { places = 1; at = need (whole doc) 10 }
    ∷ []

unfoldable pub accept_was : Doc → Reading
accept_was doc = in_order (document_tests_was doc)

unfoldable pub read_nodes_was : List ℕ → Reading
read_nodes_was image = and_then (in_order (image_tests node_form image)) (accept_was (doc_of image))

-- VALUES
unfoldable pub same_value_was : Doc → ℕ → ℕ → Bool
same_value_was doc f g = eqb (doc.vkind f) (doc.vkind g) && eq_z (doc.value f) (doc.value g)

module _ (doc : Doc) (p : ℕ → Bool) where
  unfoldable pub has_was : Rule → ℕ → ℕ → Bool
  has_was r v f = any (λ g. gives doc p r v g && same_value_was doc f g) 0 doc.size

  -- ON A DAY
  unfoldable pub shares_only_was : Rule → ℕ → Rule → ℕ → Bool
  shares_only_was r v q u = present doc p q u && eqb (values doc p q u) 1 && any (λ f. gives doc p r v f && has_was q u f) 0 doc.size

  unfoldable pub taken_was : Rule → ℕ → Bool
  taken_was r v = eqb (values doc p r v) 1 && any (shares_only_was r v r) 0 v

  unfoldable pub key_was : Rule → ℕ → Bool
  key_was r v = not (eqb (values doc p r v) 1) || taken_was r v

  unfoldable pub unique_was : Rule → ℕ → Bool
  unique_was r v = ltb 1 (values doc p r v) || taken_was r v

  unfoldable pub reference_was : Rule → Rule → ℕ → Bool
  reference_was q r v = ltb 1 (values doc p r v) || (eqb (values doc p r v) 1 && not (any (shares_only_was r v q) 0 doc.size))

  unfoldable pub datatype_was : Rule → ℕ → Bool
  datatype_was r v = any (λ f. gives doc p r v f && not (is_number doc f && within r (doc.value f))) 0 doc.size

  unfoldable pub breaks_was : Rule → Rule → ℕ → ℕ → Bool
  breaks_was q r v k = by_kind (key_was r) (unique_was r) (reference_was q r) (cardinality doc p r) (datatype_was r) k v

  unfoldable pub offends_was : Rule → Rule → ℕ → Bool
  offends_was q r v = present doc p r v && breaks_was q r v r.kind

  -- IN A WINDOW
  unfoldable pub shares_was : Rule → ℕ → Rule → ℕ → Bool
  shares_was r v q u = present doc p q u && any (λ f. gives doc p r v f && has_was q u f) 0 doc.size

  unfoldable pub shared_in_was : Rule → ℕ → Bool
  shared_in_was r v = any (λ u. not (eqb (number_of doc u) (number_of doc v)) && shares_was r v r u) 0 v

  unfoldable pub key_in_was : Rule → ℕ → Bool
  key_in_was r v = valueless doc p r v || shared_in_was r v

  unfoldable pub reference_in_was : Rule → Rule → ℕ → Bool
  reference_in_was q r v = any (λ f. gives doc p r v f && not (any (λ u. present doc p q u && has_was q u f) 0 doc.size)) 0 doc.size

  unfoldable pub counts_was : Rule → ℕ → ℕ → Bool
  counts_was r n f = under doc p r n f && not (eqb r.distinct 1 && any (λ g. same_value_was doc f g && under doc p r n g) 0 f)

  unfoldable pub cardinality_in_was : Window → Rule → ℕ → Bool
  cardinality_in_was w r v =
      let n = pos (count (counts_was r (number_of doc v)) 0 doc.size) in
      not ((shortened w || le_z r.low n) && le_z n r.high)

  unfoldable pub follows_was : Rule → ℕ → ℕ → ℕ → Bool
  follows_was r n g f =
      is_number doc g && leb (doc.end g) (doc.begin f) && under doc p r n g
      && not (any (λ h. leb (doc.end g) (doc.begin h) && leb (doc.end h) (doc.begin f) && under doc p r n h) 0 doc.size)

  unfoldable pub jumps_was : Rule → ℕ → ℕ → ℕ → Bool
  jumps_was r n f g = not (within r (doc.value f -ℤ doc.value g)) && follows_was r n g f

  unfoldable pub datatype_in_was : Rule → ℕ → ℕ → Bool
  datatype_in_was r f v = present doc p r v && gives doc p r v f && (not (is_number doc f) || any (jumps_was r (number_of doc v) f) 0 doc.size)

  unfoldable pub breaks_in_was : Window → Rule → Rule → ℕ → ℕ → Bool
  breaks_in_was w q r v k =
      by_kind
      (λ u. present doc p r u && key_in_was r u)
      (λ u. present doc p r u && shared_in_was r u)
      (λ u. present doc p r u && reference_in_was q r u)
      (λ u. present doc p r u && cardinality_in_was w r u)
      (λ u. any (datatype_in_was r u) 0 doc.size)
      k v

  unfoldable pub offends_in_was : Window → Rule → Rule → ℕ → Bool
  offends_in_was w q r v = breaks_in_was w q r v r.kind

-- THE VERDICT
unfoldable pub offender_was : Doc → Rule → Rule → ℕ → Found
offender_was doc q r d = first (offends_was doc (present_on doc d) q r) 0 doc.size

unfoldable pub first_failing_was : Doc → Rule → Rule → Found
first_failing_was doc q r = first (λ d. found (offender_was doc q r d)) r.begin (r.end - r.begin)

unfoldable pub on_days_was : Doc → Rule → Rule → Verdict
on_days_was doc q r =
    let all = Holds (length (change_days doc q r)) in
    on_found (first_failing_was doc q r)
    (λ d. on_found (offender_was doc q r d) (λ v. Fails d v (place d (change_days doc q r))) all)
    all

unfoldable pub offender_in_was : Doc → Rule → Rule → Window → Found
offender_in_was doc q r w = first (offends_in_was doc (meets doc w) w q r) 0 doc.size

unfoldable pub in_windows_was : Doc → Rule → Rule → Verdict
in_windows_was doc q r = judge (offender_in_was doc q r) (windows r) 0

unfoldable pub judged_was : Doc → Rule → Rule → Verdict
judged_was doc q r = cond (is_sequenced r) (on_days_was doc q r) (in_windows_was doc q r)

-- THE CALLS
unfoldable pub read_verdict_was : List ℕ → List ℕ → ℕ → Reading
read_verdict_was nodes rules k = and_then (read_nodes_was nodes) (and_then (read_rules rules) (need (ltb k (length (rules_of rules))) 11 0))

unfoldable pub verdict_was : List ℕ → List ℕ → ℕ → Result Verdict Refusal
verdict_was nodes rules k =
    verdict_after (read_verdict_was nodes rules k) (judged_was (doc_of nodes) (referred_by (rules_of rules) k) (rule_at (rules_of rules) k))

unfoldable pub read_slice_was : List ℕ → ℕ → Reading
read_slice_was nodes d = and_then (read_nodes_was nodes) (need (leb d 36524) 11 0)

unfoldable pub slice_answer_was : List ℕ → ℕ → List ℕ → Result ℕ Refusal
slice_answer_was nodes d lent = storing (read_slice_was nodes d) (slice (doc_of nodes) d) lent

unfoldable pub slice_lent_was : List ℕ → ℕ → List ℕ → List ℕ
slice_lent_was nodes d lent = lent_after (slice_answer_was nodes d lent) (slice (doc_of nodes) d) lent

unfoldable pub read_changes_was : List ℕ → List ℕ → ℕ → Reading
read_changes_was nodes rules k =
    and_then (read_nodes_was nodes) (and_then (read_rules rules) (need (ltb k (length (rules_of rules)) && is_sequenced (rule_at (rules_of rules) k)) 11 0))

unfoldable pub changes_answer_was : List ℕ → List ℕ → ℕ → List ℕ → Result ℕ Refusal
changes_answer_was nodes rules k lent = storing (read_changes_was nodes rules k) (changes_of nodes rules k) lent

unfoldable pub changes_lent_was : List ℕ → List ℕ → ℕ → List ℕ → List ℕ
changes_lent_was nodes rules k lent = lent_after (changes_answer_was nodes rules k lent) (changes_of nodes rules k) lent

unfoldable pub sequenced_verdict_was : List ℕ → List ℕ → ℕ → Result Verdict Refusal
sequenced_verdict_was nodes rules k =
    verdict_after (read_changes_was nodes rules k) (on_days_was (doc_of nodes) (referred_by (rules_of rules) k) (rule_at (rules_of rules) k))

unfoldable pub read_lent_was : ℕ → Lent → Reading
read_lent_was n c =
    and_then (need (leb 1 n && leb n limit) 1 0) (and_then (need (long_enough n c) 12 0) (accept_was (of_nodes (nodes_lent n c))))

unfoldable pub read_write_was : ℕ → Lent → List ℕ → Reading
read_write_was n c image = and_then (read_lent_was n c) (need (leb (length (image_of (nodes_lent n c))) (length image)) 12 0)

unfoldable pub write_answer_was : ℕ → Lent → List ℕ → Result ℕ Refusal
write_answer_was n c image = output_after (read_write_was n c image) (length (image_of (nodes_lent n c)))

unfoldable pub write_image_was : ℕ → Lent → List ℕ → List ℕ
write_image_was n c image = image_after (write_answer_was n c image) (image_of (nodes_lent n c)) image
