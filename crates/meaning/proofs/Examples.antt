-- The 13 marked examples of document 01 in one statement, from the bytes of the two images; examples for the slips and the edges beside them.
use mathlib.Core.Path.{◌≡◌, refl}
use mathlib.Core.List.{List, [], ◌∷◌}
use Prim.Native.Nat.{ℕ}
use lib.IntN.{ℤ, pos, negsuc}
use Rattle.meaning.specs.declared.Node.{Node}
use Rattle.meaning.specs.declared.Rule.{Rule}
use Rattle.meaning.specs.Reading.{Accepted, Refused}
use Rattle.meaning.specs.declared.Verdict.TheVariants.{Holds, Fails}
use Rattle.std.specs.Prelude.{Ok}
use Rattle.meaning.specs.Document.{of_nodes}
use Rattle.meaning.specs.Nodes.{doc_of}
use Rattle.meaning.specs.Rules.{rules_of}
use Rattle.meaning.specs.Answer.{Told, tell_verdict, tell_listed, tell_reading}
use Rattle.meaning.proofs.Asking.{Asked, on_rule, on_slice, on_changes, Answered, told, stored, Example, answers, expecteds, by-computing}
use Rattle.meaning.proofs.ImageBytes.{bank_nodes, bank_rules, slip_nodes, slip_rules}
use Rattle.meaning.proofs.Opened.{opened}
use Rattle.meaning.proofs.Writing.{item, bare, number, text, rule, distinct, to, between, during, days, nodes, table, written}

abbrev ex : Asked → Answered → Example
ex q a = record { asked = q; expected = a }

-- the seven verdicts, four slices and two lists of change days, each list lent with exactly the room that it needs
unfoldable pub marked : List Example
marked =
    ex (on_rule 0) (told (Ok (Holds 4)))
    ∷ ex (on_rule 1) (told (Ok (Fails 0 10 1)))
    ∷ ex (on_rule 2) (told (Ok (Fails 200 3 3)))
    ∷ ex (on_rule 3) (told (Ok (Fails 400 10 5)))
    ∷ ex (on_rule 4) (told (Ok (Fails 0 8 1)))
    ∷ ex (on_rule 5) (told (Ok (Fails 400 10 4)))
    ∷ ex (on_rule 6) (told (Ok (Holds 4)))
    ∷ ex (on_slice 99 0) (stored (Ok 0) [])
    ∷ ex (on_slice 200 4) (stored (Ok 4) (1 ∷ 3 ∷ 5 ∷ 8 ∷ []))
    ∷ ex (on_slice 300 4) (stored (Ok 4) (1 ∷ 10 ∷ 12 ∷ 14 ∷ []))
    ∷ ex (on_slice 450 3) (stored (Ok 3) (1 ∷ 10 ∷ 12 ∷ []))
    ∷ ex (on_changes 0 4) (stored (Ok 4) (0 ∷ 100 ∷ 300 ∷ 500 ∷ []))
    ∷ ex (on_changes 2 6) (stored (Ok 6) (0 ∷ 100 ∷ 200 ∷ 300 ∷ 400 ∷ 500 ∷ []))
    ∷ []

pub bank_examples : answers bank_nodes bank_rules marked ≡ expecteds marked
unfolding opened marked bank_nodes bank_rules
bank_examples = by-computing bank_nodes bank_rules marked refl

-- refusals 11 and 12, and a list with more room than it needs
unfoldable pub edges : List Example
edges =
    ex (on_rule 7) (told (Refused 11 0))
    ∷ ex (on_slice 36525 9) (stored (Refused 11 0) (0 ∷ 0 ∷ 0 ∷ 0 ∷ 0 ∷ 0 ∷ 0 ∷ 0 ∷ 0 ∷ []))
    ∷ ex (on_slice 200 3) (stored (Refused 12 0) (0 ∷ 0 ∷ 0 ∷ []))
    ∷ ex (on_slice 200 6) (stored (Ok 4) (1 ∷ 3 ∷ 5 ∷ 8 ∷ 0 ∷ 0 ∷ []))
    ∷ ex (on_changes 1 2) (stored (Refused 11 0) (0 ∷ 0 ∷ []))
    ∷ ex (on_changes 7 2) (stored (Refused 11 0) (0 ∷ 0 ∷ []))
    ∷ ex (on_changes 0 3) (stored (Refused 12 0) (0 ∷ 0 ∷ 0 ∷ []))
    ∷ []

pub edge_examples : answers bank_nodes bank_rules edges ≡ expecteds edges
unfolding opened edges bank_nodes bank_rules
edge_examples = by-computing bank_nodes bank_rules edges refl

-- text 70 is not the number 70; two versions of one item are one holder; 2,147,483,647 to −2,147,483,648 is no step of 1
unfoldable pub slips : List Example
slips =
    ex (on_rule 0) (told (Ok (Holds 2)))
    ∷ ex (on_rule 1) (told (Ok (Holds 1)))
    ∷ ex (on_rule 2) (told (Ok (Fails 0 15 1)))
    ∷ ex (on_rule 3) (told (Ok (Fails 50 10 2)))
    ∷ []

pub slip_examples : answers slip_nodes slip_rules slips ≡ expecteds slips
unfolding opened slips slip_nodes slip_rules
slip_examples = by-computing slip_nodes slip_rules slips refl

-- the bank as 01 lists it: names, parents and item numbers; parents, periods and values
unfoldable pub bank : List Node
bank =
    item 1 65535 1
    ∷ bare 0 100 500
    ∷ item 2 1 2
    ∷ bare 2 100 300
    ∷ item 3 3 3
    ∷ text 4 100 300 70
    ∷ item 4 3 4
    ∷ number 6 100 200 (pos 2150)
    ∷ number 6 200 300 (negsuc 2149)
    ∷ item 2 1 5
    ∷ bare 9 300 500
    ∷ item 3 10 6
    ∷ text 11 300 500 70
    ∷ item 4 10 7
    ∷ number 13 300 400 (pos 2300)
    ∷ []

-- the bytes are those of this bank, and are what is written of it
pub bank_listed : doc_of bank_nodes ≡ of_nodes bank
unfolding opened bank_nodes bank
bank_listed = refl

pub bank_written : nodes bank ≡ bank_nodes
unfolding opened written bank_nodes bank
bank_written = refl

-- a rule with the path 1/2: kind, mode, byte 19; field, referred rule; min, max; period; window's length, unit and slide
abbrev on_mixers : ℕ → ℕ → ℕ → ℕ → ℕ → ℤ → ℤ → ℕ → ℕ → ℕ → ℕ → ℕ → Rule
on_mixers kind windowed distinct field referred low high begin end span unit slide =
    record {
      kind = kind;
      windowed = windowed;
      path = 1 ∷ 2 ∷ 0 ∷ 0 ∷ 0 ∷ 0 ∷ 0 ∷ 0 ∷ [];
      steps = 2;
      distinct = distinct;
      field = field;
      referred = referred;
      low = low;
      high = high;
      begin = begin;
      end = end;
      span = span;
      unit = unit;
      slide = slide;
    }

-- the rule bytes are those of the seven rules as 01 lists them: key, the same non-sequenced, datatype, cardinality, datatype and distinct
-- cardinality non-sequenced, reference to rule 0
pub rules_listed : rules_of bank_rules ≡ (
    on_mixers 1 0 0 3 65535 (pos 0) (pos 0) 0 36525 0 0 0
    ∷ on_mixers 1 1 0 3 65535 (pos 0) (pos 0) 0 36525 0 0 0
    ∷ on_mixers 5 0 0 4 65535 (pos 0) (pos 9999) 0 36525 0 0 0
    ∷ on_mixers 4 0 0 4 65535 (pos 1) (pos 1) 0 36525 0 0 0
    ∷ on_mixers 5 1 0 4 65535 (negsuc 499) (pos 500) 0 36525 0 0 0
    ∷ on_mixers 4 1 1 4 65535 (pos 1) (pos 1) 100 500 100 1 100
    ∷ on_mixers 3 0 0 3 0 (pos 0) (pos 0) 0 36525 0 0 0
    ∷ []
    )
unfolding opened bank_rules
rules_listed = refl

-- and are what is written of them
pub rules_written : table (
    rule 1 0 (1 ∷ 2 ∷ []) 3
    ∷ rule 1 1 (1 ∷ 2 ∷ []) 3
    ∷ between (pos 0) (pos 9999) (rule 5 0 (1 ∷ 2 ∷ []) 4)
    ∷ between (pos 1) (pos 1) (rule 4 0 (1 ∷ 2 ∷ []) 4)
    ∷ between (negsuc 499) (pos 500) (rule 5 1 (1 ∷ 2 ∷ []) 4)
    ∷ distinct (days 100 100 (during 100 500 (between (pos 1) (pos 1) (rule 4 1 (1 ∷ 2 ∷ []) 4))))
    ∷ to 0 (rule 3 0 (1 ∷ 2 ∷ []) 3)
    ∷ []
    ) ≡ bank_rules
unfolding opened written bank_rules
rules_written = refl

-- outcome, number, place, day, offender, count
abbrev pub tells : ℕ → ℕ → ℕ → ℕ → ℕ → ℕ → Told
tells outcome number place day offender count =
    record { outcome = outcome; number = number; place = place; day = day; offender = offender; count = count }

-- each kind of answer in 01's numbers
pub told-examples :
    (tell_verdict (Ok (Holds 4))
    ∷ tell_verdict (Ok (Fails 200 3 5))
    ∷ tell_verdict (Refused 26 6)
    ∷ tell_listed (Ok 4)
    ∷ tell_listed (Refused 9 8)
    ∷ tell_reading Accepted
    ∷ tell_reading (Refused 7 5)
    ∷ [])
    ≡ (tells 0 0 0 0 0 4
    ∷ tells 1 0 0 200 3 5
    ∷ tells 2 26 6 0 0 0
    ∷ tells 0 0 0 0 0 4
    ∷ tells 2 9 8 0 0 0
    ∷ tells 0 0 0 0 0 0
    ∷ tells 2 7 5 0 0 0
    ∷ [])
unfolding opened
told-examples = refl
