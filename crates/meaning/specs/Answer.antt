-- What the calls answer and what a lent list or image then holds (MEANING 13, 14, 17), refusals in their order.
use Rattle.std.specs.Prelude.{ℕ, ◌&&◌, cond, List, ◌++◌, leb, ltb, length, drop, Result, Ok, Err}
use Rattle.meaning.specs.declared.Rule.{Rule}
use Rattle.meaning.specs.Reading.{Reading, Accepted, Refused}
use Rattle.meaning.specs.declared.Refusal.{Refusal}
use Rattle.meaning.specs.declared.Verdict.{Verdict}
use Rattle.meaning.specs.declared.Verdict.TheVariants.{Holds, Fails}
use Rattle.meaning.specs.Order.{need, and_then}
use Rattle.meaning.specs.Document.{Doc}
use Rattle.meaning.specs.Nodes.{doc_of, read_nodes, image_of}
use Rattle.meaning.specs.Lent.{Lent, nodes_lent, read_lent}
use Rattle.meaning.specs.Rules.{rule_at, rules_of, read_rules, is_sequenced}
use Rattle.meaning.specs.Day.{slice, change_days, on_days}
use Rattle.meaning.specs.Window.{in_windows}

-- rule k of the table, and the rule that it refers to
abbrev pub referred_by : List Rule → ℕ → Rule
referred_by rs k = rule_at rs (rule_at rs k).referred

-- the verdict on a rule r, which refers to q
unfoldable pub judged : Doc → Rule → Rule → Verdict
judged doc q r = cond (is_sequenced r) (on_days doc q r) (in_windows doc q r)

-- a refusal of the reading, else what was found
abbrev pub verdict_after : Reading → Verdict → Result Verdict Refusal
verdict_after Accepted found = Ok found
verdict_after (Err why) found = Err why

-- the call `verdict`: nodes, rules, then 11 where there is no such rule
unfoldable pub read_verdict : List ℕ → List ℕ → ℕ → Reading
read_verdict nodes rules k = and_then (read_nodes nodes) (and_then (read_rules rules) (need (ltb k (length (rules_of rules))) 11 0))

unfoldable pub verdict : List ℕ → List ℕ → ℕ → Result Verdict Refusal
verdict nodes rules k =
    verdict_after (read_verdict nodes rules k) (judged (doc_of nodes) (referred_by (rules_of rules) k) (rule_at (rules_of rules) k))

-- a list goes to a lent one with enough room, else 12
unfoldable pub storing : Reading → List ℕ → List ℕ → Result ℕ Refusal
storing Accepted list lent = cond (leb (length list) (length lent)) (Ok (length list)) (Refused 12 0)
storing (Err why) list lent = Err why

-- what the lent list holds afterwards: the numbers stored and the rest as it was, or all as it was
abbrev pub lent_after : Result ℕ Refusal → List ℕ → List ℕ → List ℕ
lent_after (Ok n) list lent = list ++ drop n lent
lent_after (Err why) list lent = lent

-- the call `slice`: nodes, then 11 for a day past the last, then 12
unfoldable pub read_slice : List ℕ → ℕ → Reading
read_slice nodes d = and_then (read_nodes nodes) (need (leb d 36524) 11 0)

unfoldable pub slice_answer : List ℕ → ℕ → List ℕ → Result ℕ Refusal
slice_answer nodes d lent = storing (read_slice nodes d) (slice (doc_of nodes) d) lent

unfoldable pub slice_lent : List ℕ → ℕ → List ℕ → List ℕ
slice_lent nodes d lent = lent_after (slice_answer nodes d lent) (slice (doc_of nodes) d) lent

-- the call `change_days`: nodes, rules, then 11 for no such rule or one that is not sequenced, then 12
unfoldable pub read_changes : List ℕ → List ℕ → ℕ → Reading
read_changes nodes rules k =
    and_then (read_nodes nodes) (and_then (read_rules rules) (need (ltb k (length (rules_of rules)) && is_sequenced (rule_at (rules_of rules) k)) 11 0))

unfoldable pub changes_of : List ℕ → List ℕ → ℕ → List ℕ
changes_of nodes rules k = change_days (doc_of nodes) (referred_by (rules_of rules) k) (rule_at (rules_of rules) k)

unfoldable pub changes_answer : List ℕ → List ℕ → ℕ → List ℕ → Result ℕ Refusal
changes_answer nodes rules k lent = storing (read_changes nodes rules k) (changes_of nodes rules k) lent

unfoldable pub changes_lent : List ℕ → List ℕ → ℕ → List ℕ → List ℕ
changes_lent nodes rules k lent = lent_after (changes_answer nodes rules k lent) (changes_of nodes rules k) lent

-- the call `plain::verdict`: refused as the reading for change days is, else the verdict over every day
unfoldable pub sequenced_verdict : List ℕ → List ℕ → ℕ → Result Verdict Refusal
sequenced_verdict nodes rules k =
    verdict_after (read_changes nodes rules k) (on_days (doc_of nodes) (referred_by (rules_of rules) k) (rule_at (rules_of rules) k))

-- the call `write_nodes`: the records' own refusal, then 12 for an image that is too short
unfoldable pub read_write : ℕ → Lent → List ℕ → Reading
read_write n c image = and_then (read_lent n c) (need (leb (length (image_of (nodes_lent n c))) (length image)) 12 0)

-- a refusal of the reading, else how many bytes were written
abbrev pub output_after : Reading → ℕ → Result ℕ Refusal
output_after Accepted bytes = Ok bytes
output_after (Err why) bytes = Err why

unfoldable pub write_answer : ℕ → Lent → List ℕ → Result ℕ Refusal
write_answer n c image = output_after (read_write n c image) (length (image_of (nodes_lent n c)))

-- what the lent image holds afterwards: the image of the records and the rest as it was, or all as it was
abbrev pub image_after : Result ℕ Refusal → List ℕ → List ℕ → List ℕ
image_after (Ok bytes) written image = written ++ drop bytes image
image_after (Err why) written image = image

unfoldable pub write_image : ℕ → Lent → List ℕ → List ℕ
write_image n c image = image_after (write_answer n c image) (image_of (nodes_lent n c)) image

-- an answer in numbers (MEANING 12): 0 holds, 1 fails, 2 refused; what an answer does not carry is 0
pub record Told : Type 0 where
  pub outcome : ℕ
  pub number : ℕ
  pub place : ℕ
  pub day : ℕ
  pub offender : ℕ
  pub count : ℕ

unfoldable pub tell_verdict : Result Verdict Refusal → Told
tell_verdict (Ok (Holds n)) = record { outcome = 0; number = 0; place = 0; day = 0; offender = 0; count = n }
tell_verdict (Ok (Fails d v n)) = record { outcome = 1; number = 0; place = 0; day = d; offender = v; count = n }
tell_verdict (Err why) = record { outcome = 2; number = why.number; place = why.place; day = 0; offender = 0; count = 0 }

unfoldable pub tell_listed : Result ℕ Refusal → Told
tell_listed (Ok n) = record { outcome = 0; number = 0; place = 0; day = 0; offender = 0; count = n }
tell_listed (Err why) = record { outcome = 2; number = why.number; place = why.place; day = 0; offender = 0; count = 0 }

unfoldable pub tell_reading : Reading → Told
tell_reading Accepted = record { outcome = 0; number = 0; place = 0; day = 0; offender = 0; count = 0 }
tell_reading (Err why) = record { outcome = 2; number = why.number; place = why.place; day = 0; offender = 0; count = 0 }

unfoldable pub tell_output : Result ℕ Refusal → Told
tell_output (Ok n) = record { outcome = 0; number = 0; place = 0; day = 0; offender = 0; count = n }
tell_output (Err why) = record { outcome = 2; number = why.number; place = why.place; day = 0; offender = 0; count = 0 }
