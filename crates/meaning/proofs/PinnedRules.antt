-- Pinned examples of rule images: each refusal from 21 to 26 with its place, which of two comes first, and 11 and 12 of the calls on rules.
use mathlib.Core.Path.{refl}
use mathlib.Core.List.{List, [], ◌∷◌, ◌++◌, map}
use Prim.Native.Nat.{ℕ}
use lib.IntN.{pos, negsuc}
use lib.ListN.{drop, replicate}
use Rattle.meaning.specs.declared.Verdict.{Verdict}
use Rattle.meaning.specs.declared.Verdict.TheVariants.{Holds, Fails}
use Rattle.meaning.specs.Reading.{Refused}
use Rattle.std.specs.Prelude.{Ok}
use Rattle.meaning.specs.Document.{of_nodes}
use Rattle.meaning.proofs.Asking.{on_rule, on_changes, told, stored}
use Rattle.meaning.proofs.Opened.{opened}
use Rattle.meaning.specs.Bytes.{pair}
use Rattle.meaning.proofs.Writing.{put, in_node, rule, distinct, to, between, during, days, months, nodes, table, spoilt, written}
use Rattle.meaning.proofs.Pinning.{Pin, pin, Posed, pose, pin_to, Right}
use Rattle.meaning.proofs.Working.{by-pinning, by-reading}
use Rattle.meaning.proofs.PinnedImages.{lone, lone_held, little, plain, ten_rules, last_rule}

-- examples on the lone root
abbrev pub on_lone : List Posed → List Pin
on_lone ps = map (pin_to (nodes lone)) ps

-- this image is refused with this number and place, though rule 0 is asked for
abbrev refused : List ℕ → ℕ → ℕ → Posed
refused image number place = pose image (on_rule 0) (told (Refused number place))

-- a table of a plain rule and this one is refused at the latter
abbrev refused_rule : ℕ → List ℕ → Posed
refused_rule number r = refused (table (plain ∷ r ∷ [])) number 1

-- a table of this rule alone is read: the verdict
abbrev read : List ℕ → Verdict → Posed
read r found = pose (table (r ∷ [])) (on_rule 0) (told (Ok found))

-- a path of one name, and of eight
abbrev one : List ℕ
one = 1 ∷ []

abbrev eight : List ℕ
eight = 1 ∷ 2 ∷ 3 ∷ 4 ∷ 5 ∷ 6 ∷ 7 ∷ 65535 ∷ []

unfoldable pub rule_blocks : List Posed
rule_blocks =
    -- 21: no byte, one too few or too many for one block, one block too many; ten go on to the check
    refused [] 21 0
    ∷ refused (drop 1 (table (plain ∷ []))) 21 0
    ∷ refused (0 ∷ table (plain ∷ [])) 21 0
    ∷ refused (replicate 5632 0) 21 0
    ∷ refused (replicate 5120 0) 22 0
    -- 22: a byte of a rule, of the check; of the second block
    ∷ refused (put 9 (1 ∷ []) (table (plain ∷ []))) 22 0
    ∷ refused (put 511 (0 ∷ []) (table (plain ∷ []))) 22 0
    ∷ refused (ten_rules ++ put 9 (1 ∷ []) last_rule) 22 1
    -- 23: the block's number, no rule, 11 rules, 9 in a block that is not the last, the kind of a node image, form 1
    ∷ refused (spoilt 0 (1 ∷ []) (table (plain ∷ []))) 23 0
    ∷ refused (ten_rules ++ spoilt 0 (0 ∷ []) last_rule) 23 1
    ∷ refused (spoilt 4 (0 ∷ []) (table (plain ∷ []))) 23 0
    ∷ refused (spoilt 4 (11 ∷ []) ten_rules) 23 0
    ∷ refused (spoilt 4 (9 ∷ []) ten_rules ++ last_rule) 23 0
    ∷ refused (spoilt 6 (1 ∷ []) (table (plain ∷ []))) 23 0
    ∷ refused (spoilt 7 (1 ∷ []) (table (plain ∷ []))) 23 0
    -- 24 after the last rule: its first byte, the last one before the check, in the second block, a rule that is not counted
    ∷ refused (spoilt 58 (1 ∷ []) (table (plain ∷ []))) 24 1
    ∷ refused (spoilt 507 (1 ∷ []) (table (plain ∷ []))) 24 1
    ∷ refused (ten_rules ++ spoilt 507 (1 ∷ []) last_rule) 24 11
    ∷ refused (spoilt 4 (9 ∷ []) ten_rules) 24 9
    -- a bad rule in the first block and a wrong check in the second; a bad rule in the second
    ∷ refused (spoilt 8 (6 ∷ []) ten_rules ++ put 9 (1 ∷ []) last_rule) 22 1
    ∷ refused (ten_rules ++ spoilt 8 (6 ∷ []) last_rule) 25 10
    -- all is well: eleven rules in two blocks; rule 10 is another than rule 0, and there is no rule 11
    ∷ pose (ten_rules ++ last_rule) (on_rule 0) (told (Ok (Fails 0 1 1)))
    ∷ pose (ten_rules ++ last_rule) (on_rule 9) (told (Ok (Fails 0 1 1)))
    ∷ pose (ten_rules ++ last_rule) (on_rule 10) (told (Ok (Holds 1)))
    ∷ pose (ten_rules ++ last_rule) (on_rule 11) (told (Refused 11 0))
    ∷ []

pub rule-blocks : Right (on_lone rule_blocks)
unfolding opened written rule_blocks lone little plain ten_rules last_rule
rule-blocks = by-reading (nodes lone) (of_nodes lone) lone_held rule_blocks refl

-- fields of every kind of rule
unfoldable pub rule_shapes : List Posed
rule_shapes =
    -- 24 in a rule: bytes 39, 42 and 49
    refused_rule 24 (put 39 (1 ∷ []) plain)
    ∷ refused_rule 24 (put 42 (1 ∷ []) plain)
    ∷ refused_rule 24 (put 49 (1 ∷ []) plain)
    -- 25: kind 0 and 6, mode 2
    ∷ refused_rule 25 (rule 0 0 one 0)
    ∷ refused_rule 25 (rule 6 0 one 0)
    ∷ refused_rule 25 (rule 1 2 one 0)
    -- 25: no name in the path; length 9; eight names are read, and no name of them may be 0
    ∷ refused_rule 25 (rule 1 0 [] 0)
    ∷ refused_rule 25 (put 18 (9 ∷ []) (rule 1 0 eight 0))
    ∷ read (rule 1 0 eight 0) (Holds 1)
    ∷ refused_rule 25 (put 2 (pair 0) (rule 1 0 eight 0))
    ∷ refused_rule 25 (put 8 (pair 0) (rule 1 0 eight 0))
    ∷ refused_rule 25 (put 16 (pair 0) (rule 1 0 eight 0))
    -- 25: a name in an unused place, the second, the fifth, the eighth
    ∷ refused_rule 25 (put 4 (pair 1) plain)
    ∷ refused_rule 25 (put 10 (pair 256) plain)
    ∷ refused_rule 25 (put 16 (pair 1) plain)
    ∷ refused_rule 25 (put 18 (7 ∷ []) (rule 1 0 eight 0))
    -- 25: byte 19 is 1 for a sequenced cardinality, for another non-sequenced kind; is 2; is read for a non-sequenced cardinality
    ∷ refused_rule 25 (distinct (rule 4 0 one 2))
    ∷ refused_rule 25 (distinct (rule 1 1 one 2))
    ∷ refused_rule 25 (distinct (rule 5 1 one 2))
    ∷ refused_rule 25 (put 19 (2 ∷ []) (rule 4 1 one 2))
    ∷ read (distinct (rule 4 1 one 2)) (Holds 1)
    -- 25: field 65,535, field 0 of a cardinality; 65,534 and 1 are read
    ∷ refused_rule 25 (rule 1 0 one 65535)
    ∷ read (rule 1 0 one 65534) (Fails 0 1 1)
    ∷ refused_rule 25 (rule 4 0 one 0)
    ∷ read (rule 4 0 one 1) (Holds 1)
    ∷ read (rule 5 0 one 0) (Holds 1)
    -- 25: a referred rule that is no reference's
    ∷ refused_rule 25 (to 0 (rule 1 0 one 0))
    ∷ refused_rule 25 (to 0 (rule 2 0 one 0))
    ∷ refused_rule 25 (to 0 (rule 4 0 one 2))
    ∷ refused_rule 25 (to 65534 (rule 5 0 one 0))
    ∷ []

pub rule-shapes : Right (on_lone rule_shapes)
unfolding opened written rule_shapes lone plain
rule-shapes = by-reading (nodes lone) (of_nodes lone) lone_held rule_shapes refl

-- bounds, periods and windows
unfoldable pub rule_numbers : List Posed
rule_numbers =
    -- 25: min above max, as signed numbers; one number and a negative one are read for a datatype
    refused_rule 25 (between (pos 1) (pos 0) (rule 5 0 one 0))
    ∷ refused_rule 25 (between (pos 0) (negsuc 0) (rule 5 0 one 0))
    ∷ refused_rule 25 (between (negsuc 0) (negsuc 1) (rule 5 0 one 0))
    ∷ read (between (negsuc 1) (negsuc 1) (rule 5 0 one 0)) (Holds 1)
    ∷ read (between (negsuc 2147483647) (pos 2147483647) (rule 5 0 one 0)) (Holds 1)
    -- 25: bounds of a key, a unique, a reference
    ∷ refused_rule 25 (between (pos 0) (pos 1) (rule 1 0 one 0))
    ∷ refused_rule 25 (between (negsuc 0) (pos 0) (rule 1 0 one 0))
    ∷ refused_rule 25 (between (pos 0) (pos 1) (rule 2 0 one 0))
    ∷ refused_rule 25 (to 0 (between (pos 0) (pos 1) (rule 3 0 one 0)))
    -- 25: a cardinality below 0; from 0 on it is read
    ∷ refused_rule 25 (between (negsuc 0) (pos 1) (rule 4 0 one 2))
    ∷ read (between (pos 0) (pos 1) (rule 4 0 one 2)) (Holds 1)
    -- 25: begin = end, begin after end, end 36,526; the last day alone is read
    ∷ refused_rule 25 (during 5 5 (rule 1 0 one 0))
    ∷ refused_rule 25 (during 6 5 (rule 1 0 one 0))
    ∷ refused_rule 25 (during 0 36526 (rule 1 0 one 0))
    ∷ read (during 36524 36525 (rule 1 0 one 0)) (Fails 36524 1 1)
    -- 25: unit 0 with a length or a slide, of either mode
    ∷ refused_rule 25 (put 36 (pair 1) (rule 1 1 one 0))
    ∷ refused_rule 25 (put 40 (pair 1) (rule 1 1 one 0))
    ∷ refused_rule 25 (put 36 (pair 256) (rule 1 0 one 0))
    -- 25: unit 1 of a sequenced rule; a length or a slide of 0 and of 36,526; 1 and 36,525 are read
    ∷ refused_rule 25 (days 1 1 (rule 1 0 one 0))
    ∷ refused_rule 25 (days 0 1 (rule 1 1 one 0))
    ∷ refused_rule 25 (days 1 0 (rule 1 1 one 0))
    ∷ refused_rule 25 (days 36526 1 (rule 1 1 one 0))
    ∷ refused_rule 25 (days 1 36526 (rule 1 1 one 0))
    ∷ read (days 36525 36525 (rule 2 1 one 0)) (Holds 1)
    ∷ read (during 0 3 (days 1 1 (rule 2 1 one 0))) (Holds 3)
    -- 25: unit 2 of a sequenced rule; a length or a slide of 0 and of 1,201; 1 and 1,200 are read
    ∷ refused_rule 25 (months 1 1 (rule 1 0 one 0))
    ∷ refused_rule 25 (months 0 1 (rule 1 1 one 0))
    ∷ refused_rule 25 (months 1 0 (rule 1 1 one 0))
    ∷ refused_rule 25 (months 1201 1 (rule 1 1 one 0))
    ∷ refused_rule 25 (months 1 1201 (rule 1 1 one 0))
    ∷ read (months 1200 1200 (rule 2 1 one 0)) (Holds 1)
    -- months from the start of February are read (a day on which no month starts is 25 by `Rows.in_months`)
    ∷ read (during 31 91 (months 1 1 (rule 2 1 one 0))) (Holds 2)
    -- 25: unit 3
    ∷ refused_rule 25 (put 38 (3 ∷ []) (days 1 1 (rule 1 1 one 0)))
    ∷ []

pub rule-numbers : Right (on_lone rule_numbers)
unfolding opened written rule_numbers lone plain
rule-numbers = by-reading (nodes lone) (of_nodes lone) lone_held rule_numbers refl

-- a reference, and a rule that is neither a key nor a unique
abbrev refers : ℕ → List ℕ
refers k = to k (rule 3 0 one 0)

abbrev counting : List ℕ
counting = rule 4 0 one 2

unfoldable pub rule_orders : List Posed
rule_orders =
    -- 26: past the table, 65,535, the rule itself, another reference, a cardinality, a datatype; at the referring rule
    refused_rule 26 (refers 2)
    ∷ refused_rule 26 (refers 65535)
    ∷ refused_rule 26 (refers 1)
    ∷ refused (table (refers 1 ∷ refers 2 ∷ plain ∷ [])) 26 0
    ∷ refused (table (plain ∷ counting ∷ refers 1 ∷ [])) 26 2
    ∷ refused (table (plain ∷ rule 5 0 one 0 ∷ refers 1 ∷ [])) 26 2
    -- a key and a unique are referred to, forward too
    ∷ pose (table (refers 2 ∷ refers 1 ∷ [])) (on_rule 0) (told (Refused 26 0))
    ∷ pose (table (refers 1 ∷ plain ∷ [])) (on_rule 0) (told (Ok (Holds 1)))
    ∷ pose (table (rule 2 0 one 0 ∷ refers 0 ∷ [])) (on_rule 1) (told (Ok (Holds 1)))
    -- 24 ahead of 25 in a rule; 25 at a low rule ahead of 24 at a high one; 25 at a high rule ahead of 26 at a low one
    ∷ refused_rule 24 (put 49 (1 ∷ []) (rule 6 0 one 0))
    ∷ refused (table (rule 6 0 one 0 ∷ put 49 (1 ∷ []) plain ∷ [])) 25 0
    ∷ refused (table (refers 9 ∷ rule 6 0 one 0 ∷ [])) 25 1
    ∷ refused (table (plain ∷ refers 9 ∷ refers 8 ∷ [])) 26 1
    -- 11: no such rule, for both calls; change days of a non-sequenced rule; the whole table ahead of it
    ∷ pose (table (plain ∷ [])) (on_rule 1) (told (Refused 11 0))
    ∷ pose (table (plain ∷ [])) (on_changes 1 0) (stored (Refused 11 0) [])
    ∷ pose (table (rule 1 1 one 0 ∷ [])) (on_changes 0 1) (stored (Refused 11 0) (0 ∷ []))
    ∷ pose (table (plain ∷ refers 9 ∷ [])) (on_rule 7) (told (Refused 26 1))
    ∷ pose (table (plain ∷ rule 6 0 one 0 ∷ [])) (on_changes 7 0) (stored (Refused 25 1) [])
    -- 11 ahead of 12
    ∷ pose (table (rule 1 1 one 0 ∷ [])) (on_changes 0 0) (stored (Refused 11 0) [])
    ∷ []

pub rule-orders : Right (on_lone rule_orders)
unfolding opened written rule_orders lone little plain
rule-orders = by-reading (nodes lone) (of_nodes lone) lone_held rule_orders refl

unfoldable pub rule_calls : List Pin
rule_calls =
    -- the nodes come ahead of the rules: 10 there, 21 here; 1 there, 22 here
    pin (in_node 7 6 (pair 61) little) [] (on_changes 0 0) (stored (Refused 10 0) [])
    ∷ pin [] (put 9 (1 ∷ []) ten_rules) (on_rule 0) (told (Refused 1 0))
    -- 12: one place too few; exact room, and a place more, which is left as it was
    ∷ pin little (table (plain ∷ [])) (on_changes 0 2) (stored (Refused 12 0) (0 ∷ 0 ∷ []))
    ∷ pin little (table (plain ∷ [])) (on_changes 0 3) (stored (Ok 3) (0 ∷ 10 ∷ 60 ∷ []))
    ∷ pin little (table (plain ∷ [])) (on_changes 0 4) (stored (Ok 3) (0 ∷ 10 ∷ 60 ∷ 0 ∷ []))
    ∷ []

pub rule-calls : Right rule_calls
unfolding opened written rule_calls little plain ten_rules
rule-calls = by-pinning rule_calls refl
