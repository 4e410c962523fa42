-- How the walk over places goes on, and what the offender of a place is by what was asked there.
use mathlib.Core.Path.{◌≡◌, sym, ap, ◌∙◌}
use mathlib.Core.Logic.{⊎_elim}
use mathlib.Core.Bool.{true, false}
use Prim.Native.Nat.{ℕ, ◌+◌, ◌≤◌, ◌<◌}
use native.Mathlib.Omega.{arith}
use lib.Dec.{leb}
use Rattle.meaning.specs.Walk.{Found}
use Rattle.std.specs.Prelude.{Option, Some, None}
use Rattle.meaning.specs.declared.Rule.{Rule}
use Rattle.meaning.specs.Document.{Doc}
use Rattle.meaning.specs.Rules.{is_sequenced, rule_fields}
use Rattle.meaning.specs.Day.{present_on}
use Rattle.meaning.specs.Window.{shortened, meets}
use Rattle.meaning.proofs.Basics.{le_or_lt}
use Rattle.meaning.proofs.Tables.{rule_row}
use Rattle.columns.specs.Judgeable.{Judgeable}
use Rattle.prepare.specs.Spoiling.{Aside, AsideOn, AsideIn}
use Rattle.soonest.specs.Soon.{offends_at}
use Rattle.places.specs.declared.Places.{Places}
use Rattle.places.specs.declared.Place.{Place}
use Rattle.places.specs.Placing.{start_of, end_of, window_at, Counted, Placed, on-days, whole_period, in_days, in_months}
use Rattle.places.proofs.Bounds.{ends-by_close}
use Rattle.places.proofs.Shortened.{shortened-at}
use Rattle.judging.specs.declared.walking.Stop.{Stop}
use Rattle.judging.specs.Stopping.{offender_at, Clear, Stands, Offended, Stopped}
use Rattle.judging.proofs.DayVerdict.{there-day, day-end}

module _ {doc : Doc} {q r : Rule} {at : Places} {k : ℕ} where
  pub clear_next : {j : ℕ} → Clear doc q r at k j → offender_at doc q r (window_at at j) ≡ None → Clear doc q r at k (j + 1)
  clear_next {j} c e =
      record {
        none = λ i l h.
            ⊎_elim
            (λ m. let same : i ≡ j = omega arith in ap (λ (n : ℕ). offender_at doc q r (window_at at n)) same ∙ e)
            (λ m. c.none i l m)
            (le_or_lt j i);
      }

  pub clear-end : {j : ℕ} → Clear doc q r at k j → at.count ≤ j → Clear doc q r at k at.count
  clear-end c h = record { none = λ i l m. c.none i l (omega arith) }

  -- the place asked about has an offender, or none and the walk goes on, or none is left
  module _ {here : Place} {j : ℕ} {x : Found} (s : Stands at here) (n : here.number ≡ j) (c : Clear doc q r at k j) (e : x ≡ offender_at doc q r (window_at at here.number)) where
    pub offended : {v : ℕ} → x ≡ Some v → Offended doc q r at k here v
    offended p = record { stands = s; clear = rw n c; lowest = sym e ∙ p }

    pub passed : x ≡ None → Clear doc q r at k (j + 1)
    passed p = clear_next c (ap (λ (i : ℕ). offender_at doc q r (window_at at i)) (sym n) ∙ sym e ∙ p)

  -- what the walk came to, by its answer
  pub stopped_here : {found : Option Stop} {stop : Stop} → found ≡ Some stop → Stopped doc q r at k found → Offended doc q r at k stop.here stop.version
  stopped_here e s = rw e at s

  pub stopped_nowhere : {found : Option Stop} → found ≡ None → Stopped doc q r at k found → Clear doc q r at k at.count
  stopped_nowhere e s = rw e at s

-- at the start nothing is asked of any place, and none is left from the last one on
pub clear_none : (doc : Doc) (q r : Rule) (at : Places) (k j : ℕ) → j ≤ k → Clear doc q r at k j
clear_none doc q r at k j h = record { none = λ i l m. absurd (omega arith) }

-- the place of a number, by what its days are
pub stands : {at : Places} {here : Place} (k : ℕ) → k < at.count → here.from ≡ start_of at k → here.to ≡ end_of at k → here.number ≡ k → here.shortened ≡ leb at.whole k → Stands at here
stands k h f t n s = record { inside = omega arith; from = rw n f; to = rw n t; shortened = rw n s }

pub from-few : {at : Places} {here : Place} → Counted at → Stands at here → here.from ≤ 36524
from-few {here = here} c s = omega (arith, c.inside here.number s.inside, c.close_most, s.from)

-- a place says of itself whether its window is shortened
pub short-there : {at : Places} {here : Place} → Counted at → Stands at here → shortened (window_at at here.number) ≡ here.shortened
short-there {here = here} c s = shortened-at c here.number s.inside ∙ sym s.shortened

module _ (doc : Doc) (q r : Rule) {at : Places} {here : Place} (s : Stands at here) where
  -- by the mode, those that offend on the day, or in the window, offend at the place
  pub aside_on_day : {x : Found} → Judgeable doc → is_sequenced r ≡ true → Placed r at → Counted at → AsideOn doc (present_on doc here.from) q r x
      → Aside doc (meets doc (window_at at here.number)) r (offends_at doc (window_at at here.number) q r) x
  unfolding offends_at
  aside_on_day {x} ok t p c a =
      let same : present_on doc here.from ≡ meets doc (window_at at here.number) = ap (present_on doc) s.from ∙ sym (there-day doc q r at ok t p c here.number s.inside) in
      let there : AsideOn doc (meets doc (window_at at here.number)) q r x = rw same at a in
      record { test = there.test; lowest = there.lowest; told = λ v. rw t (there.told v) }

  pub aside_in_window : {x : Found} → is_sequenced r ≡ false → AsideIn doc (window_at at here.number) q r x
      → Aside doc (meets doc (window_at at here.number)) r (offends_at doc (window_at at here.number) q r) x
  unfolding offends_at
  aside_in_window t a = record { test = a.test; lowest = a.lowest; told = λ v. rw t (a.told v) }

-- what is counted up to ends by the last day of all, and for a sequenced rule after the period's begin
pub to-few : {at : Places} {here : Place} → Counted at → Stands at here → here.to ≤ 36525
to-few {at} {here} c s = omega (arith, s.to, ends-by_close at c here.number, c.close_most)

module _ {r : Rule} {at : Places} (c : Counted at) (p : Placed r at) where
  pub past-begin : (doc : Doc) (q : Rule) {here : Place} → Judgeable doc → Stands at here → is_sequenced r ≡ true → r.begin < here.to
  past-begin doc q {here} ok s t = omega (arith, s.to, day-end doc q r at ok t p c here.number s.inside)

  close-is : Placed r at → at.close ≡ r.end
  close-is (on-days w m f a b e) = e
  close-is (whole_period w u m f a b e) = e
  close-is (in_days w u m f a b e) = e
  close-is (in_months w u m f a b e) = e

  pub before-close : rule_fields r ≡ true → r.begin < at.close
  before-close f = omega (arith, close-is p, ((rule_row r).0 f).period)
