-- Which windows a rule has, said by their days alone and not by how they are listed: each start, each end, and how long there are windows.
use mathlib.Core.Path.{◌≡◌, refl, sym, ap}
use mathlib.Core.Logic.{◌↔◌, ◌⊎◌, inl, inr, ⊎_elim}
use mathlib.Core.List.{List, [], ◌∷◌}
use Prim.Native.Nat.{ℕ, zero, suc, ◌+◌, ◌*◌, ◌≤◌, ◌<◌}
use native.Mathlib.Omega.{arith}
use borrow.Author.Tests.{le-leb, lt-leb, lt-ltb, le-ltb}
use Rattle.std.specs.Prelude.{Some}
use Rattle.calendar.specs.Gregorian.{month_day, month_start}
use Rattle.calendar.proofs.Months.{start_past, start_ascends, month_on-found, month_on-start}
use Rattle.meaning.specs.declared.Rule.{Rule}
use Rattle.meaning.specs.Window.{Window, least, day_window, month_window, month_windows, windows_from, windows_by, windows}
use Rattle.meaning.proofs.Basics.{le_or_lt}
use Rattle.meaning.proofs.Rows.{RuleRow, WindowRow, whole_period, in_days, in_months}

-- window j of a list, from 0, is w
abbrev pub Nth : List Window → ℕ → Window → Type 0
Nth [] j w = ⊥
Nth (x ∷ xs) zero w = x ≡ w
Nth (x ∷ xs) (suc j) w = Nth xs j w

-- x is the sooner of two days
pub record Sooner (a b x : ℕ) : Type 0 where
  pub first : x ≤ a
  pub second : x ≤ b
  pub either : (x ≡ a) ⊎ (x ≡ b)

-- unit 0: the one window is the whole period
pub record WholePeriod (r : Rule) (j : ℕ) (w : Window) : Type 0 where
  pub only : j ≡ 0
  pub starts : w.from ≡ r.begin
  pub ends : w.to ≡ r.end
  pub natural : w.natural ≡ r.end

-- unit 1: from the period's begin, and every slide after it while the start lies in the period; up to its length, or the period's end if that is sooner
pub record InDays (r : Rule) (j : ℕ) (w : Window) : Type 0 where
  pub starts : w.from ≡ r.begin + j * r.slide
  pub in_period : w.from < r.end
  pub ends : Sooner (w.from + r.span) r.end w.to
  pub natural : w.natural ≡ w.from + r.span

-- unit 2: the same in months, the period beginning with the one given: by the table, and past entry 1,200 by that entry; the natural end is the calendar's
pub record InMonths (r : Rule) (month j : ℕ) (w : Window) : Type 0 where
  pub starts : w.from ≡ month_start (month + j * r.slide)
  pub in_period : w.from < r.end
  pub ends : Sooner (month_start (month + j * r.slide + r.span)) r.end w.to
  pub natural : w.natural ≡ month_day (month + j * r.slide + r.span)

-- w is window j, from 0, of the rule
pub data IsWindow (r : Rule) (j : ℕ) (w : Window) : Type 0 where
  the_period : r.unit ≡ 0 → WholePeriod r j w → IsWindow r j w
  of_days : r.unit ≡ 1 → InDays r j w → IsWindow r j w
  of_months : r.unit ≡ 2 → (month : ℕ) → month ≤ 1200 → month_start month ≡ r.begin → InMonths r month j w → IsWindow r j w

-- a window is its three days
same-days : (x w : Window) → (x ≡ w) ↔ ((w.from ≡ x.from) × (w.to ≡ x.to) × (w.natural ≡ x.natural))
same-days x w = (
  λ e. (ap (λ (y : Window). y.from) (sym e), ap (λ (y : Window). y.to) (sym e), ap (λ (y : Window). y.natural) (sym e)),
  λ p. sym (λ i. record { from = p.0 i; to = p.1 i; natural = p.2 i }),
)

-- the lesser of two days is the sooner one, and no other day is
least-sooner : (a b x : ℕ) → (x ≡ least a b) ↔ Sooner a b x
least-sooner a b x =
    ⊎_elim
    (λ h. rw (le-leb a b h) (λ e. record { first = omega arith; second = omega arith; either = inl e }, λ s. ⊎_elim (λ e. e) (λ e. omega (arith, s.first)) s.either))
    (λ h. rw (lt-leb a b h) (λ e. record { first = omega arith; second = omega arith; either = inr e }, λ s. ⊎_elim (λ e. omega (arith, s.second)) (λ e. e) s.either))
    (le_or_lt a b)

-- a window that ends with the period if that is sooner, by its three days
clipped : (start end close natural : ℕ) (w : Window)
    → (record { from = start; to = least end close; natural = natural } ≡ w) ↔ ((w.from ≡ start) × Sooner end close w.to × (w.natural ≡ natural))
clipped start end close natural w =
    let days = same-days (record { from = start; to = least end close; natural = natural }) w in
    let to = least-sooner end close w.to in
    (λ e. let d = days.0 e in (d.0, to.0 d.1, d.2), λ d. days.1 (d.0, to.1 d.1, d.2))

-- Windows at places a slide apart, whose starts in the period rise.
module _ (window : ℕ → Window) (r : Rule) (rises : (k : ℕ) → (window (k + r.slide)).from < r.end → (window k).from < (window (k + r.slide)).from) where
  -- w stands j slides on from place k, and starts in the period
  abbrev OnTime : ℕ → ℕ → Window → Type 0
  OnTime k j w = (window (k + j * r.slide) ≡ w) × (w.from < r.end)

  -- where a start lies in the period, the first one does
  first-in : (j k : ℕ) → (window (k + j * r.slide)).from < r.end → (window k).from < r.end
  first-in zero k h = let e : k + 0 * r.slide ≡ k = omega arith in rw e at h
  first-in (suc j) k h =
      let e : k + suc j * r.slide ≡ k + r.slide + j * r.slide = omega arith in
      let next = first-in j (k + r.slide) (rw e at h) in
      omega (arith, rises k next)

  list_more : (n k : ℕ) → (window k).from < r.end → windows_from window r (suc n) k ≡ window k ∷ windows_from window r n (k + r.slide)
  unfolding windows_from
  list_more n k h = rw (lt-ltb (window k).from r.end h)

  list_over : (n k : ℕ) → r.end ≤ (window k).from → windows_from window r n k ≡ []
  unfolding windows_from
  list_over zero k h = refl
  list_over (suc n) k h = rw (le-ltb (window k).from r.end h)

  -- from a start past the period on, none is listed and none starts in it
  nth_past : (n k j : ℕ) (w : Window) → r.end ≤ (window k).from → Nth (windows_from window r n k) j w ↔ OnTime k j w
  nth_past n k j w h = rw (list_over n k h) (λ z. absurd z, λ p. absurd (omega (arith, first-in j k (rw p.0 p.1))))

  -- as many as the days left are enough: listed are exactly those that start in the period
  nth_from : (n k j : ℕ) (w : Window) → r.end ≤ n + (window k).from → Nth (windows_from window r n k) j w ↔ OnTime k j w
  nth_from zero k j w h = nth_past zero k j w (omega arith)
  nth_from (suc n) k j w h =
      ⊎_elim (λ l. nth_past (suc n) k j w l) (λ l. rw (list_more n k l) (go j l (nth_from n (k + r.slide)))) (le_or_lt r.end (window k).from)
    where
      go : (j : ℕ) → (window k).from < r.end
          → ((j : ℕ) (w : Window) → r.end ≤ n + (window (k + r.slide)).from → Nth (windows_from window r n (k + r.slide)) j w ↔ OnTime (k + r.slide) j w)
          → Nth (window k ∷ windows_from window r n (k + r.slide)) j w ↔ OnTime k j w
      go zero l ih = let e : k + 0 * r.slide ≡ k = omega arith in rw e (λ p. (p, rw (← p) l), λ p. p.0)
      go (suc j) l ih =
          let e : k + suc j * r.slide ≡ k + r.slide + j * r.slide = omega arith in
          let enough : r.end ≤ n + (window (k + r.slide)).from = ⊎_elim (λ past. omega arith) (λ m. omega (arith, rises k m)) (le_or_lt r.end (window (k + r.slide)).from) in
          rw e (ih j w enough)

-- The list by the unit.
whole-listed : (r : Rule) (j : ℕ) (w : Window) → Nth (windows_by r 0) j w ↔ WholePeriod r j w
unfolding windows_by
whole-listed r zero w =
    let days = same-days (record { from = r.begin; to = r.end; natural = r.end }) w in
    (λ e. let d = days.0 e in record { only = refl; starts = d.0; ends = d.1; natural = d.2 }, λ p. days.1 (p.starts, p.ends, p.natural))
whole-listed r (suc j) w = (λ z. absurd z, λ p. absurd (omega (arith, p.only)))

module _ (r : Rule) (j : ℕ) (w : Window) where
  days_listed : 1 ≤ r.slide → Nth (windows_by r 1) j w ↔ InDays r j w
  unfolding windows_by
  days_listed h =
      let start = r.begin + j * r.slide in
      let listed : Nth (windows_by r 1) j w ↔ ((day_window r start ≡ w) × (w.from < r.end)) = nth_from (day_window r) r (λ k l. omega arith) _ r.begin j w (omega arith) in
      let days = clipped start (start + r.span) r.end (start + r.span) w in (
        λ n. let t = listed.0 n in
            let d = days.0 t.0 in
            record { starts = d.0; in_period = t.1; ends = rw d.0 d.1; natural = rw d.0 d.2 },
        λ p. listed.1 (days.1 (p.starts, rw p.starts at p.ends, rw p.starts at p.natural), p.in_period),
      )

  -- an entry of the table is less than the one a slide on, while that lies in the period
  entry_rises : 1 ≤ r.slide → r.end ≤ 36525 → (k : ℕ) → month_start (k + r.slide) < r.end → month_start k < month_start (k + r.slide)
  entry_rises h c k l =
      ⊎_elim (λ m. absurd (omega (arith, start_past (k + r.slide) m))) (λ m. start_ascends k (k + r.slide) (omega arith) (omega arith)) (le_or_lt 1200 (k + r.slide))

  months_listed : 1 ≤ r.slide → r.end ≤ 36525 → (k : ℕ) → k ≤ 1200 → month_start k ≡ r.begin → Nth (windows_by r 2) j w ↔ InMonths r k j w
  unfolding windows_by
  months_listed h c k m e =
      let place = k + j * r.slide in
      let listed : Nth (month_windows r (Some k)) j w ↔ ((month_window r place ≡ w) × (w.from < r.end)) = nth_from (month_window r) r (entry_rises h c) _ k j w (omega arith) in
      let days = clipped (month_start place) (month_start (place + r.span)) r.end (month_day (place + r.span)) w in
      rw (month_on-start r.begin k m e) (
        λ n. let t = listed.0 n in
            let d = days.0 t.0 in
            record { starts = d.0; in_period = t.1; ends = d.1; natural = d.2 },
        λ p. listed.1 (days.1 (p.starts, p.ends, p.natural), p.in_period),
      )

  by-unit : (u : ℕ) → r.unit ≡ u → Nth (windows_by r u) j w ↔ Nth (windows r) j w
  unfolding windows
  by-unit u e = rw e (λ h. h, λ h. h)

  -- windows of days or months slide by at least one
  slides : WindowRow r → 1 ≤ r.unit → 1 ≤ r.slide
  slides (whole_period u s l) h = absurd (omega arith)
  slides (in_days u s l) h = l.slide
  slides (in_months u s l k e) h = l.slide

  listed-is : RuleRow r → WindowRow r → Nth (windows r) j w → IsWindow r j w
  listed-is row (whole_period u s l) n = the_period u ((whole-listed r j w).0 ((by-unit 0 u).1 n))
  listed-is row (in_days u s l) n = of_days u ((days_listed l.slide).0 ((by-unit 1 u).1 n))
  listed-is row (in_months u s l k e) n =
      let m = month_on-found r.begin k e in
      of_months u k m.0 m.1 ((months_listed l.slide row.period_end k m.0 m.1).0 ((by-unit 2 u).1 n))

  is-listed : RuleRow r → IsWindow r j w → Nth (windows r) j w
  is-listed row (the_period u p) = (by-unit 0 u).0 ((whole-listed r j w).1 p)
  is-listed row (of_days u p) = (by-unit 1 u).0 ((days_listed (slides row.window (omega arith))).1 p)
  is-listed row (of_months u k m e p) = (by-unit 2 u).0 ((months_listed (slides row.window (omega arith)) row.period_end k m e).1 p)

-- of a rule that fits its table, window j in the list is w exactly when w is window j of the rule
pub which_windows : (r : Rule) → RuleRow r → (j : ℕ) (w : Window) → Nth (windows r) j w ↔ IsWindow r j w
which_windows r row j w = (listed-is r j w row row.window, is-listed r j w row)
