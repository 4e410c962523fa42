-- Windows, the offenders of a window, and the verdict of a non-sequenced rule (MEANING 10, 11, 12).
use Rattle.std.specs.Prelude.{ℕ, zero, suc, ◌+◌, ◌-◌, Bool, false, ◌&&◌, ◌||◌, not, cond, List, [], ◌∷◌, pos, ◌-ℤ◌, leb, ltb, eqb, Option, Some, None}
use Rattle.std.specs.Int.Signed.{le_z}
use Rattle.meaning.specs.Rules.{by_kind}
use Rattle.calendar.specs.Gregorian.{month_day, month_start, month_on}
use Rattle.meaning.specs.declared.Verdict.TheVariants.{Holds, Fails}
use Rattle.meaning.specs.declared.Rule.{Rule}
use Rattle.meaning.specs.declared.Verdict.{Verdict}
use Rattle.meaning.specs.Walk.{any, count, first, on_found, Found}
use Rattle.meaning.specs.Document.{Doc, is_version, number_of}
use Rattle.meaning.specs.Select.{same_value, is_nil, is_number, within, present, gives, has_nil, has}

-- the days from `from` up to, not including, `to`; `natural` is where it would end by its length alone
pub record Window : Type 0 where
  pub from : ℕ
  pub to : ℕ
  pub natural : ℕ

-- it ends before its natural end: the period's end, or the last entry of the month table, cuts it short
unfoldable pub shortened : Window → Bool
shortened w = ltb w.to w.natural

-- version v and the window share a day
unfoldable pub meets : Doc → Window → ℕ → Bool
meets doc w v = is_version doc v && ltb (doc.begin v) w.to && ltb w.from (doc.end v)

-- The offences, presence being p.
module _ (doc : Doc) (p : ℕ → Bool) where
  -- v has no value
  unfoldable pub valueless : Rule → ℕ → Bool
  valueless r v = not (any (gives doc p r v) 0 doc.size)

  -- v has a value in common with u, selected and present
  unfoldable pub shares : Rule → ℕ → Rule → ℕ → Bool
  shares r v q u = present doc p q u && any (λ f. gives doc p r v f && has doc p q u f) 0 doc.size

  -- a value shared with a lower-numbered selected version of another item number
  unfoldable pub shared_in : Rule → ℕ → Bool
  shared_in r v = any (λ u. not (eqb (number_of doc u) (number_of doc v)) && shares r v r u) 0 v

  unfoldable pub key_in : Rule → ℕ → Bool
  key_in r v = valueless r v || has_nil doc p r v || shared_in r v

  -- a value that no selected version of the referred rule has
  unfoldable pub reference_in : Rule → Rule → ℕ → Bool
  reference_in q r v = any (λ f. gives doc p r v f && not (any (λ u. present doc p q u && has doc p q u f) 0 doc.size)) 0 doc.size

  -- f is a valued field version of a selected version, both present, of item number n
  unfoldable pub under : Rule → ℕ → ℕ → Bool
  under r n f = any (λ v. present doc p r v && gives doc p r v f && eqb (number_of doc v) n) 0 doc.size

  -- what a window counts for item number n: valued field versions, or those with no nil and with a value that no lower one has
  unfoldable pub counts : Rule → ℕ → ℕ → Bool
  counts r n f = under r n f && not (eqb r.distinct 1 && (is_nil doc f || any (λ g. same_value doc f g && under r n g) 0 f))

  -- too few, where window w is not shortened, or too many
  unfoldable pub cardinality_in : Window → Rule → ℕ → Bool
  cardinality_in w r v =
      let n = pos (count (counts r (number_of doc v)) 0 doc.size) in
      not ((shortened w || le_z r.low n) && le_z n r.high)

  -- g ends by the begin of f, both numbers under item number n, and nothing valued under n, but nils, lies wholly between
  unfoldable pub follows : Rule → ℕ → ℕ → ℕ → Bool
  follows r n g f =
      is_number doc g && leb (doc.end g) (doc.begin f) && under r n g
      && not (any (λ h. leb (doc.end g) (doc.begin h) && leb (doc.end h) (doc.begin f) && under r n h && not (is_nil doc h)) 0 doc.size)

  -- the step from g to f is exact, and outside the bounds
  unfoldable pub jumps : Rule → ℕ → ℕ → ℕ → Bool
  jumps r n f g = not (within r (doc.value f -ℤ doc.value g)) && follows r n g f

  -- field version f, of a selected version v, both present, is no nil, and it is no number, or follows one from which it differs too much
  unfoldable pub datatype_in : Rule → ℕ → ℕ → Bool
  datatype_in r f v =
      present doc p r v && gives doc p r v f && not (is_nil doc f) && (not (is_number doc f) || any (jumps r (number_of doc v) f) 0 doc.size)

  -- by the rule's kind: a selected version offends, for a datatype a field version
  unfoldable pub breaks_in : Window → Rule → Rule → ℕ → ℕ → Bool
  breaks_in w q r v k =
      by_kind
      (λ u. present doc p r u && key_in r u)
      (λ u. present doc p r u && shared_in r u)
      (λ u. present doc p r u && reference_in q r u)
      (λ u. present doc p r u && cardinality_in w r u)
      (λ u. any (datatype_in r u) 0 doc.size)
      k v

  unfoldable pub offends_in : Window → Rule → Rule → ℕ → Bool
  offends_in w q r v = breaks_in w q r v r.kind

-- the lowest offender of a window
unfoldable pub offender_in : Doc → Rule → Rule → Window → Found
offender_in doc q r w = first (offends_in doc (meets doc w) w q r) 0 doc.size

abbrev pub least : ℕ → ℕ → ℕ
least a b = cond (leb a b) a b

-- a window of days from day k on
abbrev pub day_window : Rule → ℕ → Window
day_window r k = record { from = k; to = least (k + r.span) r.end; natural = k + r.span }

-- a window of months from month k on
abbrev pub month_window : Rule → ℕ → Window
month_window r k = record { from = month_start k; to = least (month_start (k + r.span)) r.end; natural = month_day (k + r.span) }

-- windows from place k on and every slide after it, while the start lies in the period
unfoldable pub windows_from : (ℕ → Window) → Rule → ℕ → ℕ → List Window
windows_from window r zero k = []
windows_from window r (suc n) k =
    let rest = window k ∷ windows_from window r n (k + r.slide) in
    cond (ltb (window k).from r.end) rest []

-- the month windows of a period that begins with month k
abbrev pub month_windows : Rule → Option ℕ → List Window
month_windows r (Some k) = windows_from (month_window r) r (r.end - r.begin) k
month_windows r None = []

-- by the unit: the whole period, days, months
unfoldable pub windows_by : Rule → ℕ → List Window
windows_by r zero = record { from = r.begin; to = r.end; natural = r.end } ∷ []
windows_by r (suc zero) = windows_from (day_window r) r (r.end - r.begin) r.begin
windows_by r (suc (suc k)) = month_windows r (month_on r.begin)

unfoldable pub windows : Rule → List Window
windows r = windows_by r r.unit

-- the first window with an offender, k windows having been looked at before
unfoldable pub judge : (Window → Found) → List Window → ℕ → Verdict
judge f [] k = Holds k
judge f (w ∷ ws) k = let rest = judge f ws (suc k) in on_found (f w) (λ v. Fails w.from v (suc k)) rest

-- the verdict over every window
unfoldable pub in_windows : Doc → Rule → Rule → Verdict
in_windows doc q r = judge (offender_in doc q r) (windows r) 0
