-- Presence on a day, the slice, the offenders of a day, change days and the verdict of a sequenced rule (MEANING 7, 8, 9, 12).
use Rattle.std.specs.Prelude.{ℕ, zero, suc, ◌-◌, Bool, false, ◌&&◌, ◌||◌, not, List, pos, leb, ltb, eqb, length}
use Rattle.meaning.specs.Rules.{by_kind}
use Rattle.meaning.specs.declared.Verdict.TheVariants.{Holds, Fails}
use Rattle.meaning.specs.declared.Rule.{Rule}
use Rattle.meaning.specs.declared.Verdict.{Verdict}
use Rattle.meaning.specs.Walk.{any, count, pick, first, on_found, found, place, Found}
use Rattle.meaning.specs.Document.{Doc, is_version, above}
use Rattle.meaning.specs.Nodes.{deepest}
use Rattle.meaning.specs.Select.{field_of, reads, is_nil, is_number, within, present, gives, has_nil, has}

-- version v's own period has day d: begin ≤ d < end
unfoldable pub alive : Doc → ℕ → ℕ → Bool
alive doc d v = is_version doc v && leb (doc.begin v) d && ltb d (doc.end v)

-- Algorithm 2 comes from the root to version v in at most n items: v is alive, and its item is the root or stands in a version come to
unfoldable pub reached : Doc → ℕ → ℕ → ℕ → Bool
reached doc d zero v = false
reached doc d (suc n) v =
    let up = reached doc d n (above doc v) in
    alive doc d v && (eqb (doc.parent v) 0 || up)

-- version v is in the bank on day d
unfoldable pub present_on : Doc → ℕ → ℕ → Bool
present_on doc d v = reached doc d deepest v

unfoldable pub slice : Doc → ℕ → List ℕ
slice doc d = pick (present_on doc d) 0 doc.size

-- The offences, presence being p.
module _ (doc : Doc) (p : ℕ → Bool) where
  -- how many values v has
  unfoldable pub values : Rule → ℕ → ℕ
  values r v = count (gives doc p r v) 0 doc.size

  -- u, selected and present, has one value only, and v has it
  unfoldable pub shares_only : Rule → ℕ → Rule → ℕ → Bool
  shares_only r v q u = present doc p q u && eqb (values q u) 1 && any (λ f. gives doc p r v f && has doc p q u f) 0 doc.size

  -- one value, equal to the one value of a lower-numbered selected version
  unfoldable pub taken : Rule → ℕ → Bool
  taken r v = eqb (values r v) 1 && any (shares_only r v r) 0 v

  unfoldable pub key : Rule → ℕ → Bool
  key r v = not (eqb (values r v) 1) || has_nil doc p r v || taken r v

  unfoldable pub unique : Rule → ℕ → Bool
  unique r v = ltb 1 (values r v) || taken r v

  unfoldable pub reference : Rule → Rule → ℕ → Bool
  reference q r v = ltb 1 (values r v) || (eqb (values r v) 1 && not (any (shares_only r v q) 0 doc.size))

  -- field versions present, valued or not
  unfoldable pub cardinality : Rule → ℕ → Bool
  cardinality r v = not (within r (pos (count (λ f. field_of doc r v f && p f) 0 doc.size)))

  -- a value that is neither a nil nor a number within the bounds
  unfoldable pub datatype : Rule → ℕ → Bool
  datatype r v = any (λ f. gives doc p r v f && not (is_nil doc f || (is_number doc f && within r (doc.value f)))) 0 doc.size

  -- by the rule's kind
  unfoldable pub breaks : Rule → Rule → ℕ → ℕ → Bool
  breaks q r v k = by_kind (key r) (unique r) (reference q r) (cardinality r) (datatype r) k v

  -- version v offends rule r, which refers to q
  unfoldable pub offends : Rule → Rule → ℕ → Bool
  offends q r v = present doc p r v && breaks q r v r.kind

-- the lowest offender of day d
unfoldable pub offender : Doc → Rule → Rule → ℕ → Found
offender doc q r d = first (offends doc (present_on doc d) q r) 0 doc.size

-- version i begins or ends on day d
abbrev pub turns : Doc → ℕ → ℕ → Bool
turns doc d i = eqb (doc.begin i) d || eqb (doc.end i) d

-- the period's first day, and each later one on which a version that the rule reads begins or ends
unfoldable pub is_change : Doc → Rule → Rule → ℕ → Bool
is_change doc q r d = eqb r.begin d || any (λ i. reads doc q r i && turns doc d i) 0 doc.size

unfoldable pub change_days : Doc → Rule → Rule → List ℕ
change_days doc q r = pick (is_change doc q r) r.begin (r.end - r.begin)

-- the first day of the period, of all its days, that has an offender
unfoldable pub first_failing : Doc → Rule → Rule → Found
first_failing doc q r = first (λ d. found (offender doc q r d)) r.begin (r.end - r.begin)

-- the verdict over every day; the count is a place among the change days, or their number
unfoldable pub on_days : Doc → Rule → Rule → Verdict
on_days doc q r =
    let all = Holds (length (change_days doc q r)) in
    on_found (first_failing doc q r)
    (λ d. on_found (offender doc q r d) (λ v. Fails d v (place d (change_days doc q r))) all)
    all
