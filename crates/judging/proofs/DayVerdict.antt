-- The verdict on days from the offenders of places: the days of a sequenced rule are its places.
use mathlib.Core.Path.{◌≡◌, sym, ap, ap₂, ◌∙◌, fun_ext}
use mathlib.Core.Logic.{⊎_elim}
use mathlib.Core.Bool.{Bool, true}
use Prim.Native.Nat.{ℕ, suc, ◌+◌, ◌-◌, ◌*◌, ◌≤◌, ◌<◌}
use native.Mathlib.Omega.{arith}
use lib.ListN.{length}
use borrow.Author.Tests.{eqb-true}
use Rattle.std.specs.Prelude.{Some, None}
use Rattle.meaning.specs.declared.Verdict.TheVariants.{Holds, Fails}
use Rattle.meaning.specs.declared.Rule.{Rule}
use Rattle.meaning.specs.Walk.{pick, first}
use Rattle.meaning.specs.Document.{Doc}
use Rattle.meaning.specs.Rules.{is_sequenced}
use Rattle.meaning.specs.Day.{present_on, offends, offender, is_change, change_days, on_days}
use Rattle.meaning.specs.Window.{Window, meets}
use Rattle.meaning.proofs.Basics.{le_or_lt}
use Rattle.meaning.proofs.DayByDay.{fails_at, holds_at}
use Rattle.columns.specs.Judgeable.{Judgeable}
use Rattle.places.specs.declared.Places.{Places}
use Rattle.places.specs.Placing.{unit_day, start_of, end_of, window_at, Counted, Placed, on-days, whole_period, in_days, in_months}
use Rattle.places.proofs.Presence.{one-day, alive-meets}
use Rattle.soonest.specs.Soon.{offends_at}
use Rattle.judging.specs.Stopping.{offender_at}
use Rattle.judging.specs.Tally.{count_of}

-- a place has the offenders of a day where presence is that of the day
as_on_day : (doc : Doc) (q r : Rule) (w : Window) → is_sequenced r ≡ true → offender_at doc q r w ≡ first (offends doc (meets doc w) q r) 0 doc.size
unfolding offender_at offends_at
as_on_day doc q r w s = ap (λ (g : ℕ → Bool). first g 0 doc.size) (fun_ext (λ v. rw s))

module _ (doc : Doc) (q r : Rule) (at : Places) (ok : Judgeable doc) (sequenced : is_sequenced r ≡ true) (placed : Placed r at) (counted : Counted at) where
  windowed : r.windowed ≡ 0
  windowed = eqb-true r.windowed 0 sequenced

  -- and at a place of the rule it is
  pub there-day : (k : ℕ) → k < at.count → meets doc (window_at at k) ≡ present_on doc (start_of at k)
  there-day k h = λ i v. (sym (alive-meets windowed placed counted doc v k h) ∙ sym (ok.present (start_of at k) v)) i

  pub on-day : (k : ℕ) → k < at.count → offender_at doc q r (window_at at k) ≡ offender doc q r (start_of at k)
  unfolding offender
  on-day k h =
      as_on_day doc q r (window_at at k) sequenced ∙ ap (λ (p : ℕ → Bool). first (offends doc p q r) 0 doc.size) (there-day k h)

  -- the days of the rule, one after the other, are its places
  pub day-start : (k : ℕ) → start_of at k ≡ r.begin + k
  unfolding start_of
  day-start k = go placed
    where
      go : Placed r at → unit_day at.monthly (at.first + k * at.slide) ≡ r.begin + k
      go (on-days w m f p s c) = rw (m, f, s) (omega arith)
      go (whole_period w u m f p s c) = absurd (w windowed)
      go (in_days w u m f p s c) = absurd (w windowed)
      go (in_months w u m f p s c) = absurd (w windowed)

  day-close : at.close ≡ r.end
  day-close = go placed
    where
      go : Placed r at → at.close ≡ r.end
      go (on-days w m f p s c) = c
      go (whole_period w u m f p s c) = c
      go (in_days w u m f p s c) = c
      go (in_months w u m f p s c) = c

  -- place k ends with its day
  pub day-end : (k : ℕ) → k < at.count → end_of at k ≡ r.begin + k + 1
  day-end k h = omega (arith, one-day windowed placed counted k h, day-start k)

  inside : (k : ℕ) → k < at.count → r.begin + k < r.end
  inside k h = omega (arith, counted.inside k h, day-start k, day-close)

  in_count : (k : ℕ) → r.begin + k < r.end → k < at.count
  in_count k h = ⊎_elim (λ l. absurd (omega (arith, counted.over k l, day-start k, day-close))) (λ l. l) (le_or_lt at.count k)

  offender-on : (k : ℕ) → k < at.count → offender_at doc q r (window_at at k) ≡ offender doc q r (r.begin + k)
  offender-on k h = on-day k h ∙ ap (offender doc q r) (day-start k)

  -- the first j places have no offender
  module _ (j : ℕ) (most : j ≤ at.count) (none : (i : ℕ) → i < j → offender_at doc q r (window_at at i) ≡ None) where
    none-on : (i : ℕ) → i < j → offender doc q r (r.begin + i) ≡ None
    none-on i h = sym (offender-on i (omega arith)) ∙ none i h

    pub fails_on : j < at.count → {v n : ℕ} (m : ℕ) → offender_at doc q r (window_at at j) ≡ Some v → n ≡ count_of doc q r m (end_of at j) → Fails (start_of at j) v n ≡ on_days doc q r
    unfolding count_of
    fails_on h {v} {n} m e p =
        let past : end_of at j - r.begin ≡ suc j = omega (arith, day-end j h) in
        let counts : n ≡ length (pick (is_change doc q r) r.begin (end_of at j - r.begin)) = rw sequenced at p in
        ap₂ (λ (d k : ℕ). Fails d v k) (day-start j) (counts ∙ ap (λ (k : ℕ). length (pick (is_change doc q r) r.begin k)) past)
        ∙ fails_at doc q r ok.present j none-on (inside j h) (sym (offender-on j h) ∙ e)

    pub holds_on : at.count ≤ j → {n : ℕ} (m : ℕ) → n ≡ count_of doc q r m at.close → Holds n ≡ on_days doc q r
    unfolding change_days count_of
    holds_on h {n} m p =
        let counts : n ≡ length (pick (is_change doc q r) r.begin (at.close - r.begin)) = rw sequenced at p in
        ap Holds (counts ∙ ap (λ (k : ℕ). length (pick (is_change doc q r) r.begin (k - r.begin))) day-close)
        ∙ holds_at doc q r ok.present j none-on (⊎_elim (λ l. l) (λ l. absurd (omega (arith, in_count j l))) (le_or_lt r.end (r.begin + j)))
