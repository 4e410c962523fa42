-- What request 5 of 02 left as it was: an image without nils is read, judged, listed and written as before, and one that was accepted has none.
use mathlib.Core.Path.{◌≡◌, refl, sym, ap, ap₂, fun_ext, ◌∙◌}
use mathlib.Core.Logic.{⊎_elim}
use mathlib.Core.Bool.{Bool, true, false, ◌&&◌, ◌||◌, not, false≢true}
use mathlib.Core.List.{List, map}
use Prim.Native.Nat.{ℕ, zero, suc, ◌≤◌, ◌<◌}
use native.Mathlib.Omega.{arith}
use lib.IntN.{pos}
use lib.Signed.{le_z}
use lib.Dec.{leb, eqb}
use lib.ListN.{length, get_or, length-map, get_or-eq_default}
use borrow.Author.Tests.{lt-leb, ne_eqb}
use Rattle.meaning.specs.declared.Node.{Node}
use Rattle.meaning.specs.declared.Rule.{Rule}
use Rattle.meaning.specs.Reading.{Accepted}
use Rattle.meaning.specs.declared.Verdict.{Verdict}
use Rattle.meaning.specs.Bytes.{eq_z}
use Rattle.meaning.specs.Order.{in_order}
use Rattle.meaning.specs.Block.{node_form, image_tests}
use Rattle.meaning.specs.Document.{Doc, node, of_nodes}
use Rattle.meaning.specs.Nodes.{nodes_of, doc_of, is_period, item_fields, version_fields, node_fields, read_record, document_tests, accept, read_nodes}
use Rattle.meaning.specs.Select.{is_nil, same_value, gives, has_nil, has}
use Rattle.meaning.specs.Day.{present_on, values, shares_only, taken, key, unique, reference, datatype, breaks, offends, offender, first_failing, on_days}
use Rattle.meaning.specs.Window.{meets, valueless, shares, shared_in, key_in, reference_in, counts, cardinality_in, follows, jumps, datatype_in, breaks_in, offends_in, offender_in, in_windows}
use Rattle.meaning.specs.Answer.{referred_by, verdict_after, judged, read_verdict, verdict, read_slice, slice_answer, slice_lent, read_changes, changes_answer, changes_lent, sequenced_verdict, read_write, write_answer, write_image}
use Rattle.meaning.specs.Lent.{Lent, nodes_lent, read_lent}
use Rattle.meaning.specs.Rules.{rule_at, rules_of}
use Rattle.meaning.proofs.Basics.{le_or_lt, or_cases}
use Rattle.meaning.proofs.Walks.{any_none}
use Rattle.meaning.proofs.Orders.{order-passed, then_accepted}
use Rattle.meaning.proofs.Says.{says}
use Rattle.meaning.proofs.BeforeNils.{version_fields_was, node_fields_was, read_record_was, document_tests_was, accept_was, read_nodes_was, same_value_was, has_was, shares_only_was, taken_was, key_was, unique_was, reference_was, datatype_was, breaks_was, offends_was, shares_was, shared_in_was, key_in_was, reference_in_was, counts_was, cardinality_in_was, follows_was, jumps_was, datatype_in_was, breaks_in_was, offends_in_was, offender_was, first_failing_was, on_days_was, offender_in_was, in_windows_was, judged_was, read_verdict_was, verdict_was, read_slice_was, slice_answer_was, slice_lent_was, read_changes_was, changes_answer_was, changes_lent_was, sequenced_verdict_was, read_lent_was, read_write_was, write_answer_was, write_image_was}

-- no record holds a nil
abbrev pub NoNils : Doc → Type 0
NoNils doc = (f : ℕ) → f < doc.size → is_nil doc f ≡ false

-- small laws on tests; a test between two others that fails makes no difference
and-true : (a : Bool) → a && true ≡ a
and-true true = refl
and-true false = refl

and-false : (a : Bool) → a && false ≡ false
and-false true = refl
and-false false = refl

between_fails : (a b c d : Bool) → b ≡ false → c ≡ d → a || b || c ≡ (a || d)
between_fails true b c d e h = refl
between_fails false b c d e h = rw e h

module _ (doc : Doc) (none : (f : ℕ) → is_nil doc f ≡ false) where
  -- the test fails no-nil-anywhere
  nothing_nil : is_nil doc ≡ (λ f. false)
  nothing_nil = fun_ext none

  same-values : same_value doc ≡ same_value_was doc
  unfolding same_value same_value_was
  same-values = fun_ext (λ f. fun_ext (λ g. rw (none f) (and-true _)))

  module _ (p : ℕ → Bool) where
    has_same : has doc p ≡ has_was doc p
    unfolding has has_was
    has_same = fun_ext (λ r. fun_ext (λ v. fun_ext (λ f. rw same-values)))

    no_nil : (r : Rule) (v : ℕ) → has_nil doc p r v ≡ false
    unfolding has_nil
    no_nil r v = any_none _ 0 doc.size (λ f a b. rw (none f) (and-false (gives doc p r v f)))

    -- on a day
    only_same : shares_only doc p ≡ shares_only_was doc p
    unfolding shares_only shares_only_was
    only_same = fun_ext (λ r. fun_ext (λ v. fun_ext (λ q. fun_ext (λ u. rw has_same))))

    taken-same : taken doc p ≡ taken_was doc p
    unfolding taken taken_was
    taken-same = fun_ext (λ r. fun_ext (λ v. rw only_same))

    key-same : key doc p ≡ key_was doc p
    unfolding key key_was
    key-same = fun_ext (λ r. fun_ext (λ v. between_fails (not (eqb (values doc p r v) 1)) (has_nil doc p r v) (taken doc p r v) _ (no_nil r v) (rw taken-same)))

    unique-same : unique doc p ≡ unique_was doc p
    unfolding unique unique_was
    unique-same = fun_ext (λ r. fun_ext (λ v. rw taken-same))

    reference-same : reference doc p ≡ reference_was doc p
    unfolding reference reference_was
    reference-same = fun_ext (λ q. fun_ext (λ r. fun_ext (λ v. rw only_same)))

    datatype-same : datatype doc p ≡ datatype_was doc p
    unfolding datatype datatype_was
    datatype-same = fun_ext (λ r. fun_ext (λ v. rw nothing_nil))

    pub offends-same : offends doc p ≡ offends_was doc p
    unfolding offends offends_was breaks breaks_was
    offends-same = fun_ext (λ q. fun_ext (λ r. fun_ext (λ v. rw (key-same, unique-same, reference-same, datatype-same))))

    -- in a window
    shared_same : shared_in doc p ≡ shared_in_was doc p
    unfolding shared_in shared_in_was shares shares_was
    shared_same = fun_ext (λ r. fun_ext (λ v. rw has_same))

    key_in-same : key_in doc p ≡ key_in_was doc p
    unfolding key_in key_in_was
    key_in-same = fun_ext (λ r. fun_ext (λ v. between_fails (valueless doc p r v) (has_nil doc p r v) (shared_in doc p r v) _ (no_nil r v) (rw shared_same)))

    reference_in-same : reference_in doc p ≡ reference_in_was doc p
    unfolding reference_in reference_in_was
    reference_in-same = fun_ext (λ q. fun_ext (λ r. fun_ext (λ v. rw has_same)))

    counts_same : counts doc p ≡ counts_was doc p
    unfolding counts counts_was
    counts_same = fun_ext (λ r. fun_ext (λ n. fun_ext (λ f. rw (none f, same-values))))

    cardinality_in-same : cardinality_in doc p ≡ cardinality_in_was doc p
    unfolding cardinality_in cardinality_in_was
    cardinality_in-same = fun_ext (λ w. fun_ext (λ r. fun_ext (λ v. rw counts_same)))

    jumps-same : jumps doc p ≡ jumps_was doc p
    unfolding jumps jumps_was follows follows_was
    jumps-same = fun_ext (λ r. fun_ext (λ n. fun_ext (λ f. fun_ext (λ g. rw nothing_nil (simp and-true)))))

    datatype_in-same : datatype_in doc p ≡ datatype_in_was doc p
    unfolding datatype_in datatype_in_was
    datatype_in-same = fun_ext (λ r. fun_ext (λ f. fun_ext (λ v. rw (none f, and-true, jumps-same))))

    pub offends_in-same : offends_in doc p ≡ offends_in_was doc p
    unfolding offends_in offends_in_was breaks_in breaks_in_was
    offends_in-same =
        fun_ext (λ w. fun_ext (λ q. fun_ext (λ r. fun_ext (λ v. rw (key_in-same, shared_same, reference_in-same, cardinality_in-same, datatype_in-same)))))

  -- the verdict
  offender-same : offender doc ≡ offender_was doc
  unfolding offender offender_was
  offender-same = fun_ext (λ q. fun_ext (λ r. fun_ext (λ d. rw (offends-same (present_on doc d)))))

  on_days-same : on_days doc ≡ on_days_was doc
  unfolding on_days on_days_was first_failing first_failing_was
  on_days-same = fun_ext (λ q. fun_ext (λ r. rw offender-same))

  offender_in-same : offender_in doc ≡ offender_in_was doc
  unfolding offender_in offender_in_was
  offender_in-same = fun_ext (λ q. fun_ext (λ r. fun_ext (λ w. rw (offends_in-same (meets doc w)))))

  in_windows-same : in_windows doc ≡ in_windows_was doc
  unfolding in_windows in_windows_was
  in_windows-same = fun_ext (λ q. fun_ext (λ r. rw offender_in-same))

  pub judged-same : judged doc ≡ judged_was doc
  unfolding judged judged_was
  judged-same = fun_ext (λ q. fun_ext (λ r. rw (on_days-same, in_windows-same)))

-- a value kind other than 3 passes the tests of value kind and value as it did, the other fields being what they may
kinds-same : (k : ℕ) (kind name period item zero' text : Bool) → eqb k 3 ≡ false
    → kind && leb k 3 && name && period && (eqb k 1 || eqb k 2 || zero') && (not (eqb k 2) || text) && item
    ≡ (kind && leb k 2 && name && period && (leb 1 k || zero') && (leb k 1 || text) && item)
kinds-same zero kind name period item z t e = refl
kinds-same (suc zero) kind name period item z t e = refl
kinds-same (suc (suc zero)) kind name period item z t e = refl
kinds-same (suc (suc (suc zero))) kind name period item z t e = absurd (false≢true (sym e))
kinds-same (suc (suc (suc (suc k)))) kind name period item z t e =
    let n = suc (suc (suc (suc k))) in
    rw (lt-leb n 3 (omega arith), lt-leb n 2 (omega arith), and-false kind)

version-same : (n : Node) → eqb n.vkind 3 ≡ false → version_fields n ≡ version_fields_was n
unfolding version_fields version_fields_was
version-same n e =
    kinds-same n.vkind (eqb n.kind 2) (eqb n.name 0) (is_period n.begin n.end) (eqb n.item 0) (eq_z n.value (pos 0)) (le_z (pos 0) n.value) e

module _ (doc : Doc) (none : (f : ℕ) → is_nil doc f ≡ false) where
  record_same : read_record doc ≡ read_record_was doc
  unfolding read_record read_record_was node_fields node_fields_was is_nil
  record_same = fun_ext (λ i. rw (version-same (node doc i) (none i)))

  pub accept-same : accept doc ≡ accept_was doc
  unfolding accept accept_was document_tests document_tests_was
  accept-same = rw record_same

-- a record that passed its table has no nil, ..
fields_nilless : (n : Node) → node_fields_was n ≡ true → eqb n.vkind 3 ≡ false
unfolding node_fields_was item_fields version_fields_was
fields_nilless n e =
    ⊎_elim
    (λ a. let w = simp says at a in ne_eqb n.vkind 3 (λ q. omega arith))
    (λ b. let w = simp says at b in ne_eqb n.vkind 3 (λ q. omega arith))
    (or_cases (item_fields n) (version_fields_was n) e)

-- .. so a document that was accepted has none
pub accepted-nilless : (doc : Doc) → accept_was doc ≡ Accepted → NoNils doc
unfolding accept_was document_tests_was read_record_was is_nil
accepted-nilless doc e f h = fields_nilless (node doc f) (simp says at ((order-passed (document_tests_was doc) e).0 f h)).1.0

-- past the records of a list there is no nil
no_nil_anywhere : (ns : List Node) → NoNils (of_nodes ns) → (f : ℕ) → is_nil (of_nodes ns) f ≡ false
unfolding is_nil of_nodes
no_nil_anywhere ns none f = ⊎_elim past (none f) (le_or_lt (length (map (λ (n : Node). n.kind) ns)) f)
  where
    past : length (map (λ (n : Node). n.kind) ns) ≤ f → eqb (get_or (map (λ (n : Node). n.vkind) ns) f 0) 3 ≡ false
    past h =
        let a = length-map ns (λ (n : Node). n.kind) in
        let b = length-map ns (λ (n : Node). n.vkind) in
        let l : length (map (λ (n : Node). n.vkind) ns) ≤ f = omega arith in
        rw (get_or-eq_default (map (λ (n : Node). n.vkind) ns) 0 l)

-- AN IMAGE WITHOUT NILS gets the answers that it got, refusals included
module _ (nodes : List ℕ) (none : NoNils (doc_of nodes)) where
  no_nil_here : (f : ℕ) → is_nil (doc_of nodes) f ≡ false
  unfolding doc_of
  no_nil_here = no_nil_anywhere (nodes_of nodes) none

  pub nodes_as_was : read_nodes nodes ≡ read_nodes_was nodes
  unfolding read_nodes read_nodes_was
  nodes_as_was = rw (accept-same (doc_of nodes) no_nil_here)

  pub verdict-as_was : (rules : List ℕ) (k : ℕ) → verdict nodes rules k ≡ verdict_was nodes rules k
  unfolding verdict verdict_was read_verdict read_verdict_was
  verdict-as_was rules k = rw (nodes_as_was, judged-same (doc_of nodes) no_nil_here)

  pub slice-as_was : (d : ℕ) (lent : List ℕ) → slice_answer nodes d lent ≡ slice_answer_was nodes d lent
  unfolding slice_answer slice_answer_was read_slice read_slice_was
  slice-as_was d lent = rw nodes_as_was

  pub slice-left_as_was : (d : ℕ) (lent : List ℕ) → slice_lent nodes d lent ≡ slice_lent_was nodes d lent
  unfolding slice_lent slice_lent_was
  slice-left_as_was d lent = rw (slice-as_was d lent)

  changes_read_as_was : (rules : List ℕ) (k : ℕ) → read_changes nodes rules k ≡ read_changes_was nodes rules k
  unfolding read_changes read_changes_was
  changes_read_as_was rules k = rw nodes_as_was

  pub sequenced-as_was : (rules : List ℕ) (k : ℕ) → sequenced_verdict nodes rules k ≡ sequenced_verdict_was nodes rules k
  unfolding sequenced_verdict sequenced_verdict_was
  sequenced-as_was rules k =
      let q = referred_by (rules_of rules) k in
      let r = rule_at (rules_of rules) k in
      ap₂ verdict_after (changes_read_as_was rules k) (ap (λ (f : Rule → Rule → Verdict). f q r) (on_days-same (doc_of nodes) no_nil_here))

  pub changes_as_was : (rules : List ℕ) (k : ℕ) (lent : List ℕ) → changes_answer nodes rules k lent ≡ changes_answer_was nodes rules k lent
  unfolding changes_answer changes_answer_was
  changes_as_was rules k lent = rw (changes_read_as_was rules k)

  pub changes_left_as_was : (rules : List ℕ) (k : ℕ) (lent : List ℕ) → changes_lent nodes rules k lent ≡ changes_lent_was nodes rules k lent
  unfolding changes_lent changes_lent_was
  changes_left_as_was rules k lent = rw (changes_as_was rules k lent)

-- Columns without nils are written as they were
module _ (n : ℕ) (c : Lent) (none : NoNils (of_nodes (nodes_lent n c))) (image : List ℕ) where
  pub write_as_was : write_answer n c image ≡ write_answer_was n c image
  unfolding write_answer write_answer_was read_write read_write_was read_lent read_lent_was
  write_as_was = rw (accept-same (of_nodes (nodes_lent n c)) (no_nil_anywhere (nodes_lent n c) none))

  pub written_as_was : write_image n c image ≡ write_image_was n c image
  unfolding write_image write_image_was
  written_as_was = rw write_as_was

-- AN IMAGE THAT WAS ACCEPTED has no nils, and is accepted
module _ (nodes : List ℕ) (e : read_nodes_was nodes ≡ Accepted) where
  pub was_nilless : NoNils (doc_of nodes)
  unfolding read_nodes_was
  was_nilless = accepted-nilless (doc_of nodes) (then_accepted (in_order (image_tests node_form nodes)) (accept_was (doc_of nodes)) e).1

  pub still_accepted : read_nodes nodes ≡ Accepted
  still_accepted = nodes_as_was nodes was_nilless ∙ e
