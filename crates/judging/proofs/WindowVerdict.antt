-- The verdict in windows from the offenders of places: the windows of a rule that is not sequenced are its places, one after the other.
use mathlib.Core.Path.{◌≡◌, refl, sym, ap, ◌∙◌, fun_ext}
use mathlib.Core.Logic.{⊎_elim, inl, inr}
use mathlib.Core.Bool.{Bool, true, false, false≢true}
use mathlib.Core.List.{List, [], ◌∷◌}
use Prim.Native.Nat.{ℕ, zero, suc, ◌+◌, ◌-◌, ◌*◌, ◌<◌}
use native.Mathlib.Omega.{arith}
use lib.ListN.{length}
use borrow.Author.Tests.{eq-eqb}
use Rattle.std.specs.Prelude.{Some, None}
use Rattle.calendar.proofs.Months.{month_on-found, month_on-start}
use Rattle.meaning.specs.declared.Verdict.TheVariants.{Holds, Fails}
use Rattle.meaning.specs.declared.Rule.{Rule}
use Rattle.meaning.specs.Walk.{first, Found}
use Rattle.meaning.specs.Document.{Doc}
use Rattle.meaning.specs.Rules.{is_sequenced, rule_fields}
use Rattle.meaning.specs.Window.{Window, offender_in, least, windows, judge, in_windows}
use Rattle.meaning.proofs.Basics.{le_or_lt}
use Rattle.meaning.proofs.Tables.{rule_row}
use Rattle.meaning.proofs.Timetable.{Nth, Sooner, IsWindow, the_period, of_days, of_months, which_windows}
use Rattle.meaning.proofs.Windows.{ClearBefore, clear-holds}
use Rattle.places.specs.declared.Places.{Places}
use Rattle.places.specs.Placing.{start_of, end_of, natural_of, window_at, Counted, Placed, on-days, whole_period, in_days, in_months}
use Rattle.places.proofs.Days.{least-left, least-right, least_first, least-most}
use Rattle.soonest.specs.Soon.{offends_at}
use Rattle.judging.specs.Stopping.{offender_at}
use Rattle.judging.specs.Tally.{count_of}

-- a list of windows has one at each place, and as many as it has places
nth_same : (ws : List Window) (j : ℕ) (u w : Window) → Nth ws j u → Nth ws j w → u ≡ w
nth_same [] j u w a b = absurd a
nth_same (x ∷ xs) zero u w a b = sym a ∙ b
nth_same (x ∷ xs) (suc j) u w a b = nth_same xs j u w a b

nth_length : (ws : List Window) (n : ℕ) → ((j : ℕ) → j < n → (w : Window) × Nth ws j w) → ((j : ℕ) (w : Window) → Nth ws j w → j < n) → length ws ≡ n
nth_length [] zero some most = refl
nth_length [] (suc n) some most = absurd (some 0 (omega arith)).1
nth_length (x ∷ xs) zero some most = absurd (omega (arith, most 0 x refl))
nth_length (x ∷ xs) (suc n) some most = ap suc (nth_length xs n (λ j h. some (suc j) (omega arith)) (λ j w a. omega (arith, most (suc j) w a)))

-- the first window in which something is found decides
module _ (f : Window → Found) where
  on-hit : (w : Window) (ws : List Window) (k v : ℕ) → f w ≡ Some v → judge f (w ∷ ws) k ≡ Fails w.from v (suc k)
  unfolding judge
  on-hit w ws k v e = rw e

  on-miss : (w : Window) (ws : List Window) (k : ℕ) → f w ≡ None → judge f (w ∷ ws) k ≡ judge f ws (suc k)
  unfolding judge
  on-miss w ws k e = rw e

  fails_at : (ws : List Window) (j k v : ℕ) (w : Window) → Nth ws j w → ClearBefore f ws j → f w ≡ Some v → judge f ws k ≡ Fails w.from v (suc (j + k))
  fails_at [] j k v w a none e = absurd a
  fails_at (x ∷ xs) zero k v w a none e =
      on-hit x xs k v (ap f a ∙ e) ∙ ap (λ (u : Window). Fails u.from v (suc k)) a ∙ ap (λ (n : ℕ). Fails w.from v (suc n)) (omega arith)
  fails_at (x ∷ xs) (suc j) k v w a none e =
      on-miss x xs k (none 0 x (omega arith) refl)
      ∙ fails_at xs j (suc k) v w a (λ i u h b. none (suc i) u (omega arith) b) e
      ∙ ap (λ (n : ℕ). Fails w.from v (suc n)) (omega arith)

-- the lesser of two days is the sooner one
sooner : (a b : ℕ) → Sooner a b (least a b)
sooner a b =
    record {
      first = least_first a b;
      second = least-most a b;
      either = ⊎_elim (λ h. inl (least-left a b h)) (λ h. inr (least-right a b h)) (le_or_lt a b);
    }

-- a place has the offenders of a window
pub as_in_window : (doc : Doc) (q r : Rule) (w : Window) → is_sequenced r ≡ false → offender_at doc q r w ≡ offender_in doc q r w
unfolding offender_at offends_at offender_in
as_in_window doc q r w s = ap (λ (g : ℕ → Bool). first g 0 doc.size) (fun_ext (λ v. rw s))

module _ {r : Rule} {at : Places} (fits : rule_fields r ≡ true) (flat : is_sequenced r ≡ false) (placed : Placed r at) (counted : Counted at) where
  not_days : r.windowed ≡ 0 → ⊥
  not_days e = false≢true (sym flat ∙ eq-eqb r.windowed 0 e)

  lasts : r.begin < r.end
  lasts = ((rule_row r).0 fits).period

  -- the whole period is one place
  only : (j : ℕ) → r.begin + j * (r.end - r.begin) < r.end → j ≡ 0
  only zero h = refl
  only (suc j) h = absurd (omega (arith, lasts))

  -- window j of the rule is place j
  is-window : Placed r at → (j : ℕ) → j < at.count → IsWindow r j (window_at at j)
  unfolding start_of end_of natural_of
  is-window (on-days w m f p s c) j h = absurd (not_days w)
  is-window (whole_period w u m f p s c) j h =
      let inside : r.begin + j * (r.end - r.begin) < r.end = rw (m, f, s, c) at (counted.inside j h) in
      let z : j ≡ 0 = only j inside in
      let there : r.begin + j * (r.end - r.begin) ≡ r.begin = rw z (omega arith) in
      let past : r.begin + j * (r.end - r.begin) + (r.end - r.begin) ≡ r.end = omega (arith, lasts) in
      the_period u
      (record {
        only = z;
        starts = rw (m, f, s) there;
        ends = rw (m, f, s, p, c, past) (least-left r.end r.end (omega arith));
        natural = rw (m, f, s, p) past;
      })
  is-window (in_days w u m f p s c) j h =
      let inside : r.begin + j * r.slide < r.end = rw (m, f, s, c) at (counted.inside j h) in
      of_days u
      (record {
        starts = rw (m, f, s);
        in_period = rw (m, f, s) inside;
        ends = rw (m, f, s, p, c) (sooner (r.begin + j * r.slide + r.span) r.end);
        natural = rw (m, f, s, p);
      })
  is-window (in_months w u m f p s c) j h =
      let month = month_on-found r.begin at.first f in
      let inside = rw (m, s, c) at (counted.inside j h) in
      of_months u at.first month.0 month.1
      (record {
        starts = rw (m, s);
        in_period = rw (m, s) inside;
        ends = rw (m, s, p, c) (sooner _ r.end);
        natural = rw (m, s, p);
      })

  -- and starts where it does, before the close
  start_of_lem : Placed r at → (j : ℕ) (w : Window) → IsWindow r j w → start_of at j < at.close
  unfolding start_of
  start_of_lem (on-days w m f p s c) j x n = absurd (not_days w)
  start_of_lem (whole_period w u m f p s c) j x (the_period e n) =
      let there : r.begin + j * (r.end - r.begin) ≡ r.begin = rw n.only (omega arith) in
      rw (m, f, s, c, there) lasts
  start_of_lem (whole_period w u m f p s c) j x (of_days e n) = absurd (omega arith)
  start_of_lem (whole_period w u m f p s c) j x (of_months e k a b n) = absurd (omega arith)
  start_of_lem (in_days w u m f p s c) j x (of_days e n) = rw (m, f, s, c) (omega (arith, n.starts, n.in_period))
  start_of_lem (in_days w u m f p s c) j x (the_period e n) = absurd (omega arith)
  start_of_lem (in_days w u m f p s c) j x (of_months e k a b n) = absurd (omega arith)
  start_of_lem (in_months w u m f p s c) j x (of_months e k a b n) =
      let same : Some at.first ≡ Some k = sym f ∙ month_on-start r.begin k a b in
      let first : at.first ≡ k = cc in
      rw (m, s, c, first) (omega (arith, n.starts, n.in_period))
  start_of_lem (in_months w u m f p s c) j x (the_period e n) = absurd (omega arith)
  start_of_lem (in_months w u m f p s c) j x (of_days e n) = absurd (omega arith)

  listed : (j : ℕ) → j < at.count → Nth (windows r) j (window_at at j)
  listed j h = (which_windows r ((rule_row r).0 fits) j (window_at at j)).1 (is-window placed j h)

  no_more : (j : ℕ) (w : Window) → Nth (windows r) j w → j < at.count
  no_more j w a =
      ⊎_elim
      (λ l. absurd (omega (arith, counted.over j l, start_of_lem placed j w ((which_windows r ((rule_row r).0 fits) j w).0 a))))
      (λ l. l)
      (le_or_lt at.count j)

  module _ (doc : Doc) (q : Rule) where
    -- a window that is listed has the offenders of its place
    offender-there : (j : ℕ) (w : Window) → Nth (windows r) j w → offender_in doc q r w ≡ offender_at doc q r (window_at at j)
    offender-there j w a =
        ap (offender_in doc q r) (nth_same (windows r) j w (window_at at j) a (listed j (no_more j w a))) ∙ sym (as_in_window doc q r (window_at at j) flat)

    pub fails_in : (j : ℕ) → j < at.count → ((i : ℕ) → i < j → offender_at doc q r (window_at at i) ≡ None) → {v n : ℕ} (past : ℕ) → offender_at doc q r (window_at at j) ≡ Some v
        → n ≡ count_of doc q r (j + 1) past → Fails (start_of at j) v n ≡ in_windows doc q r
    unfolding in_windows count_of
    fails_in j h none {v} {n} past e p =
        let counts : n ≡ j + 1 = rw flat at p in
        ap (Fails (start_of at j) v) (omega arith)
        ∙ sym (fails_at (offender_in doc q r) (windows r) j 0 v (window_at at j) (listed j h)
        (λ i w l a. offender-there i w a ∙ none i l)
        (sym (as_in_window doc q r (window_at at j) flat) ∙ e))

    pub holds-in : ((i : ℕ) → i < at.count → offender_at doc q r (window_at at i) ≡ None) → {n : ℕ} (past : ℕ) → n ≡ count_of doc q r at.count past → Holds n ≡ in_windows doc q r
    unfolding in_windows count_of
    holds-in none {n} past p =
        let counts : n ≡ at.count = rw flat at p in
        let many = nth_length (windows r) at.count (λ j h. (window_at at j, listed j h)) no_more in
        ap Holds (omega (arith, many))
        ∙ sym (clear-holds (offender_in doc q r) (windows r) 0 (λ j w a. offender-there j w a ∙ none j (no_more j w a)))
