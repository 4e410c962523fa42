-- Examples that each carry their own images; a node image that many share is read once.
use mathlib.Core.Path.{◌≡◌, ap, sym, ◌∙◌}
use mathlib.Core.Bool.{◌&&◌}
use mathlib.Core.List.{List, map, ◌++◌, map-append}
use Prim.Native.Nat.{ℕ}
use lib.ListN.{length, replicate}
use lib.Dec.{ltb, leb}
use Rattle.meaning.specs.Reading.{Reading, Accepted}
use Rattle.meaning.specs.Order.{need, and_then}
use Rattle.meaning.specs.Document.{Doc}
use Rattle.meaning.specs.Nodes.{doc_of, read_nodes}
use Rattle.meaning.specs.Rules.{is_sequenced, rule_at, rules_of, read_rules}
use Rattle.meaning.specs.Day.{slice}
use Rattle.meaning.specs.Answer.{referred_by, verdict_after, storing, lent_after}
use Rattle.meaning.proofs.Asking.{Asked, on_rule, on_slice, on_changes, Answered, told, stored, answer, quick_days, quick_judged}

-- a node image and a rule image, a question and the answer it is to have
pub record Pin : Type 0 where
  pub nodes : List ℕ
  pub rules : List ℕ
  pub asked : Asked
  pub expected : Answered

abbrev pub pin : List ℕ → List ℕ → Asked → Answered → Pin
pin nodes rules asked expected = record { nodes = nodes; rules = rules; asked = asked; expected = expected }

-- the answers to a list of examples, by the definitions, and those expected
abbrev pub given : List Pin → List Answered
given ps = map (λ (p : Pin). answer p.nodes p.rules p.asked) ps

abbrev pub wanted : List Pin → List Answered
wanted ps = map (λ (p : Pin). p.expected) ps

-- every example of a list has the answer expected
pub record Right (ps : List Pin) : Type 0 where
  pub each : given ps ≡ wanted ps

-- two lists one after the other
infixl 5 ◌also◌
pub ◌also◌ : {ps qs : List Pin} → Right ps → Right qs → Right (ps ++ qs)
◌also◌ {ps} {qs} g h =
    record {
      each =
          map-append (λ (p : Pin). answer p.nodes p.rules p.asked) ps qs
          ∙ ap (λ (s : List Answered). s ++ given qs) g.each
          ∙ ap (λ (s : List Answered). wanted ps ++ s) h.each
          ∙ sym (map-append (λ (p : Pin). p.expected) ps qs);
    }

-- a list stored after this reading, with what the lent one then holds
abbrev putting : Reading → List ℕ → ℕ → Answered
putting x list room = stored (storing x list (replicate room 0)) (lent_after (storing x list (replicate room 0)) list (replicate room 0))

-- the answer where the node image is accepted and holds this document
unfoldable pub read_answer : Doc → List ℕ → Asked → Answered
read_answer doc rules (on_rule k) =
    told (verdict_after (and_then (read_rules rules) (need (ltb k (length (rules_of rules))) 11 0))
    (quick_judged doc (referred_by (rules_of rules) k) (rule_at (rules_of rules) k)))
read_answer doc rules (on_slice d room) = putting (need (leb d 36524) 11 0) (slice doc d) room
read_answer doc rules (on_changes k room) =
    putting (and_then (read_rules rules) (need (ltb k (length (rules_of rules)) && is_sequenced (rule_at (rules_of rules) k)) 11 0))
    (quick_days doc (referred_by (rules_of rules) k) (rule_at (rules_of rules) k)) room

-- an example but for its node image
pub record Posed : Type 0 where
  pub rules : List ℕ
  pub asked : Asked
  pub expected : Answered

abbrev pub pose : List ℕ → Asked → Answered → Posed
pose rules asked expected = record { rules = rules; asked = asked; expected = expected }

abbrev pub pin_to : List ℕ → Posed → Pin
pin_to nodes p = pin nodes p.rules p.asked p.expected

-- an accepted node image and the document it holds
pub record Held (nodes : List ℕ) (doc : Doc) : Type 0 where
  pub nodes_read : read_nodes nodes ≡ Accepted
  pub document : doc_of nodes ≡ doc
