-- How pinned examples are worked out, a list at a time: only where the theorems and the marked examples hold.
use mathlib.Core.Path.{◌≡◌, ap, sym, ◌∙◌, fun_ext}
use mathlib.Core.List.{List, map, map-map}
use Prim.Native.Nat.{ℕ}
use Rattle.meaning.specs.Document.{Doc}
use Rattle.meaning.specs.Answer.{read_verdict, read_slice, slice_answer, slice_lent, read_changes}
use Rattle.meaning.proofs.Asking.{Asked, on_rule, on_slice, on_changes, Answered, answer, quick_verdict, quick_changes, quick_answer, answer-quick}
use Rattle.meaning.proofs.Pinning.{Pin, wanted, Right, read_answer, Posed, pin_to, Held}
use Rattle.meaning.proofs.Examples.{bank_examples, edge_examples, slip_examples, bank_listed, rules_listed, told-examples}
use Rattle.meaning.proofs.PinnedWrites.{record_bytes, bank_image, one_block, two_blocks, two-tables, columns-held, lent-examples, answer-examples, image-examples, told-outputs}
use Rattle.meaning.proofs.Theorems.{nodes_refused, rules_refused, verdict-refused, slice-refused, changes_refused, nothing_changes, enough-days, holds-on_days, fails_on_days, holds-in_windows, fails_in_windows, which_windows}
use Rattle.meaning.proofs.Agree.{offends-agree, offends_in-agree}
use Rattle.meaning.proofs.Sequenced.{sequenced-same, sequenced-refused, sequenced-days}
use Rattle.meaning.proofs.Sparing.{shortened-where, verdict-same, verdict-holds}
use Rattle.meaning.proofs.Nils.{nil_equals_none, none-equals_nil, nil_offends, nil_offends_in, nil_unique, nil_datatype, nil_datatype_in}
use Rattle.meaning.proofs.Nilless.{verdict-as_was, slice-left_as_was, changes_left_as_was, sequenced-as_was, written_as_was, still_accepted}

-- To work the examples out takes most of a check's time, so a definition that already breaks one of these is refused before it.
laws_first : Unit {0}
laws_first =
    let law = nodes_refused in
    let law = rules_refused in
    let law = verdict-refused in
    let law = slice-refused in
    let law = changes_refused in
    let law = nothing_changes in
    let law = enough-days in
    let law = holds-on_days in
    let law = fails_on_days in
    let law = holds-in_windows in
    let law = fails_in_windows in
    let law = which_windows in
    let law = offends-agree in
    let law = offends_in-agree in
    let law = sequenced-same in
    let law = sequenced-refused in
    let law = sequenced-days in
    let law = shortened-where in
    let law = verdict-same in
    let law = verdict-holds in
    let law = nil_equals_none in
    let law = none-equals_nil in
    let law = nil_offends in
    let law = nil_offends_in in
    let law = nil_unique in
    let law = nil_datatype in
    let law = nil_datatype_in in
    let law = verdict-as_was in
    let law = slice-left_as_was in
    let law = changes_left_as_was in
    let law = sequenced-as_was in
    let law = written_as_was in
    let law = still_accepted in
    let law = bank_examples in
    let law = edge_examples in
    let law = slip_examples in
    let law = bank_listed in
    let law = rules_listed in
    let law = told-examples in
    let law = record_bytes in
    let law = bank_image in
    let law = one_block in
    let law = two_blocks in
    let law = two-tables in
    let law = columns-held in
    let law = lent-examples in
    let law = answer-examples in
    let law = image-examples in
    let law = told-outputs in
    tt

-- what is worked out only then
pub after-laws : {A : Type 0} → A → A
after-laws x = let laws = laws_first in x

-- a list of examples may be worked out quickly
pub by-pinning : (ps : List Pin) → map (λ (p : Pin). quick_answer p.nodes p.rules p.asked) ps ≡ wanted ps → Right ps
by-pinning ps h = let laws = laws_first in record { each = ap (λ (f : Pin → Answered). map f ps) (fun_ext (λ p. answer-quick p.nodes p.rules p.asked)) ∙ h }

module _ (nodes : List ℕ) (doc : Doc) (held : Held nodes doc) where
  answer-read : (rules : List ℕ) (a : Asked) → quick_answer nodes rules a ≡ read_answer doc rules a
  unfolding quick_answer read_answer answer quick_verdict quick_changes slice_answer slice_lent read_verdict read_changes read_slice
  answer-read rules (on_rule k) = rw (held.nodes_read, held.document)
  answer-read rules (on_slice d room) = rw (held.nodes_read, held.document)
  answer-read rules (on_changes k room) = rw (held.nodes_read, held.document)

  -- so a list of examples on one bank may be worked out from its document
  pub by-reading : (ps : List Posed) → map (λ (p : Posed). read_answer doc p.rules p.asked) ps ≡ map (λ (p : Posed). p.expected) ps → Right (map (pin_to nodes) ps)
  by-reading ps h =
      let laws = laws_first in
      record {
        each =
            map-map (λ (p : Pin). answer p.nodes p.rules p.asked) (pin_to nodes) ps
            ∙ ap (λ (f : Posed → Answered). map f ps) (fun_ext (λ p. answer-quick nodes p.rules p.asked ∙ answer-read p.rules p.asked))
            ∙ h
            ∙ sym (map-map (λ (p : Pin). p.expected) (pin_to nodes) ps);
      }
