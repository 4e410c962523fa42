-- Rule images (MEANING 5): the record's table, the tests 24 to 26, and what comes of reading an image.
use Rattle.std.specs.Prelude.{ℕ, zero, suc, ◌+◌, ◌*◌, Bool, true, false, ◌&&◌, ◌||◌, not, cond, List, [], ◌∷◌, pos, leb, ltb, eqb, length, get_or, Option, Some, None}
use Rattle.std.specs.Int.Signed.{le_z}
use Rattle.calendar.specs.Gregorian.{month_on}
use Rattle.meaning.specs.declared.Rule.{Rule}
use Rattle.meaning.specs.Reading.{Reading}
use Rattle.meaning.specs.Walk.{any, listed}
use Rattle.meaning.specs.Bytes.{byte, two, four, signed, eq_z}
use Rattle.meaning.specs.Order.{need, and_then, Test, in_order}
use Rattle.meaning.specs.Block.{rule_form, image_tests, records, record_of}
use Rattle.meaning.specs.Nodes.{is_period}

-- the kinds of rule
abbrev pub is_key : Rule → Bool
is_key r = eqb r.kind 1

abbrev pub is_unique : Rule → Bool
is_unique r = eqb r.kind 2

abbrev pub is_reference : Rule → Bool
is_reference r = eqb r.kind 3

abbrev pub is_cardinality : Rule → Bool
is_cardinality r = eqb r.kind 4

-- a test of versions by a rule's kind: that of a key, a unique, a reference, a cardinality or a datatype
unfoldable pub by_kind : (ℕ → Bool) → (ℕ → Bool) → (ℕ → Bool) → (ℕ → Bool) → (ℕ → Bool) → ℕ → ℕ → Bool
by_kind key unique reference cardinality datatype zero v = false
by_kind key unique reference cardinality datatype (suc zero) v = key v
by_kind key unique reference cardinality datatype (suc (suc zero)) v = unique v
by_kind key unique reference cardinality datatype (suc (suc (suc zero))) v = reference v
by_kind key unique reference cardinality datatype (suc (suc (suc (suc zero)))) v = cardinality v
by_kind key unique reference cardinality datatype (suc (suc (suc (suc (suc k))))) v = datatype v

abbrev pub is_sequenced : Rule → Bool
is_sequenced r = eqb r.windowed 0

-- the fields of a record's 50 bytes
unfoldable pub rule_in : List ℕ → Rule
rule_in s =
    record { kind = byte s 0; windowed = byte s 1; path = listed (λ k. two s (2 + 2 * k)) 0 8; steps = byte s 18; distinct = byte s 19; field = two s 20; referred = two s 22; low = signed (four s 24); high = signed (four s 28); begin = two s 32; end = two s 34; span = two s 36; unit = byte s 38; slide = two s 40 }

-- 24: byte 39 and bytes 42 to 49 are zeros
unfoldable pub spare_in : List ℕ → Bool
spare_in s = eqb (byte s 39) 0 && not (any (λ k. ltb 0 (byte s k)) 42 8)

-- 25: one name or more, in the first places and in no others
unfoldable pub path_fits : Rule → Bool
path_fits r =
    leb 1 r.steps && leb r.steps 8
    && not (any (λ k. not (cond (ltb k r.steps) (leb 1 (get_or r.path k 0)) (eqb (get_or r.path k 0) 0))) 0 8)

-- 25: byte 19 is 1 for a non-sequenced cardinality only
unfoldable pub distinct_fits : Rule → Bool
distinct_fits r = eqb r.distinct 0 || (eqb r.distinct 1 && eqb r.windowed 1 && is_cardinality r)

unfoldable pub field_fits : Rule → Bool
field_fits r = leb (cond (is_cardinality r) 1 0) r.field && leb r.field 65534

unfoldable pub referred_fits : Rule → Bool
referred_fits r = is_reference r || eqb r.referred 65535

-- 25: no bounds for kinds 1 to 3, none below 0 for a cardinality
unfoldable pub bounds_fit : Rule → Bool
bounds_fit r =
    le_z r.low r.high
    && cond (leb r.kind 3) (eq_z r.low (pos 0) && eq_z r.high (pos 0)) (not (is_cardinality r) || le_z (pos 0) r.low)

-- both numbers of a window lie in 1..most
abbrev pub lengths_fit : Rule → ℕ → Bool
lengths_fit r most = leb 1 r.span && leb r.span most && leb 1 r.slide && leb r.slide most

abbrev pub is_month : Option ℕ → Bool
is_month (Some k) = true
is_month None = false

-- 25: by the unit; a sequenced rule has unit 0
unfoldable pub window_fits : Rule → ℕ → Bool
window_fits r zero = eqb r.span 0 && eqb r.slide 0
window_fits r (suc zero) = eqb r.windowed 1 && lengths_fit r 36525
window_fits r (suc (suc zero)) = eqb r.windowed 1 && lengths_fit r 1200 && is_month (month_on r.begin)
window_fits r (suc (suc (suc k))) = false

-- 25: the whole table
unfoldable pub rule_fields : Rule → Bool
rule_fields r =
    leb 1 r.kind && leb r.kind 5 && leb r.windowed 1 && path_fits r && distinct_fits r && field_fits r
    && referred_fits r && bounds_fit r && is_period r.begin r.end && window_fits r r.unit

-- what stands past the last rule: of no kind
abbrev pub no_rule : Rule
no_rule = record { kind = 0; windowed = 0; path = []; steps = 0; distinct = 0; field = 0; referred = 65535; low = pos 0; high = pos 0; begin = 0; end = 0; span = 0; unit = 0; slide = 0 }

abbrev pub rule_at : List Rule → ℕ → Rule
rule_at rs k = get_or rs k no_rule

unfoldable pub rules_of : List ℕ → List Rule
rules_of image = listed (λ k. rule_in (record_of rule_form image k)) 0 (records rule_form image)

-- record by record 24, 25
unfoldable pub read_rule : List ℕ → List Rule → ℕ → Reading
read_rule image rs k = and_then (need (spare_in (record_of rule_form image k)) 24 k) (need (rule_fields (rule_at rs k)) 25 k)

-- 26: a reference refers to a rule of the table of kind 1 or 2
unfoldable pub refers_well : List Rule → ℕ → Bool
refers_well rs k =
    not (is_reference (rule_at rs k))
    || (ltb (rule_at rs k).referred (length rs) && (is_key (rule_at rs (rule_at rs k).referred) || is_unique (rule_at rs (rule_at rs k).referred)))

unfoldable pub table_tests : List ℕ → List Rule → List Test
table_tests image rs =
    record { places = length rs; at = read_rule image rs } ∷ record { places = length rs; at = λ k. need (refers_well rs k) 26 k } ∷ []

-- what comes of the bytes of a rule image
unfoldable pub read_rules : List ℕ → Reading
read_rules image = and_then (in_order (image_tests rule_form image)) (in_order (table_tests image (rules_of image)))
