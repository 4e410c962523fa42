-- What a rule that fits its table gives to its places.
use mathlib.Core.Path.{◌≡◌, sym, ◌∙◌}
use mathlib.Core.Bool.{true, false}
use Prim.Native.Nat.{ℕ, ◌-◌, ◌≤◌}
use native.Mathlib.Omega.{arith}
use Rattle.std.specs.Prelude.{Option, Some, None}
use Rattle.calendar.specs.Gregorian.{month_on}
use Rattle.calendar.proofs.Months.{month_on-found}
use Rattle.meaning.specs.declared.Rule.{Rule}
use Rattle.meaning.specs.Rules.{rule_fields}
use Rattle.meaning.proofs.Rows.{WindowRow, Lengths, whole_period as whole_row, in_days as day-row, in_months as month-row}
use Rattle.meaning.proofs.Tables.{rule_row}
use Rattle.places.specs.declared.Places.{Places}
use Rattle.places.specs.Placing.{Placed, on-days, whole_period, in_days, in_months}
use Rattle.places.specs.Made.{Small, Made}

module _ (r : Rule) (f : rule_fields r ≡ true) where
  pub in_order : r.begin ≤ r.end
  in_order = omega (arith, ((rule_row r).0 f).period)

  -- the days of a sequenced rule
  pub days_small : Small r.begin 1 1 r.end
  days_small =
      let w = (rule_row r).0 f in
      let a = w.period in
      let b = w.period_end in
      record { first_most = omega arith; span_least = omega arith; span_most = omega arith; slide_least = omega arith; slide_most = omega arith; close_most = b }

  pub days_placed : {at : Places} → r.windowed ≡ 0 → Made false r.begin 1 1 r.end at → Placed r at
  days_placed w m = on-days w m.monthly m.first m.span m.slide m.close

  -- the whole period
  pub whole-small : Small r.begin (r.end - r.begin) (r.end - r.begin) r.end
  whole-small =
      let w = (rule_row r).0 f in
      let a = w.period in
      let b = w.period_end in
      record { first_most = omega arith; span_least = omega arith; span_most = omega arith; slide_least = omega arith; slide_most = omega arith; close_most = b }

  pub whole-placed : {at : Places} → (r.windowed ≡ 0 → ⊥) → r.unit ≡ 0 → Made false r.begin (r.end - r.begin) (r.end - r.begin) r.end at → Placed r at
  whole-placed w u m = whole_period w u m.monthly m.first m.span m.slide m.close

  -- windows of days: their numbers are at least one, and no more than there are days
  day-lengths : WindowRow r → r.unit ≡ 1 → Lengths r 36525
  day-lengths (whole_row u s l) e = absurd (omega arith)
  day-lengths (day-row u w l) e = l
  day-lengths (month-row u w l k p) e = absurd (omega arith)

  pub windows-small : r.unit ≡ 1 → Small r.begin r.span r.slide r.end
  windows-small u =
      let w = (rule_row r).0 f in
      let a = w.period in
      let b = w.period_end in
      let n = day-lengths w.window u in
      record { first_most = omega arith; span_least = n.span; span_most = n.span_most; slide_least = n.slide; slide_most = n.slide_most; close_most = b }

  pub windows-placed : {at : Places} → (r.windowed ≡ 0 → ⊥) → r.unit ≡ 1 → Made false r.begin r.span r.slide r.end at → Placed r at
  windows-placed w u m = in_days w u m.monthly m.first m.span m.slide m.close

  -- a rule of neither unit is one of months, and its period begins with one
  months : WindowRow r → (r.unit ≡ 0 → ⊥) → (r.unit ≡ 1 → ⊥) → (r.unit ≡ 2) × Lengths r 1200 × (k : ℕ) × (month_on r.begin ≡ Some k)
  months (whole_row u s l) a b = absurd (a u)
  months (day-row u w l) a b = absurd (b u)
  months (month-row u w l k e) a b = (u, l, k, e)

  module _ (a : r.unit ≡ 0 → ⊥) (b : r.unit ≡ 1 → ⊥) where
    pub months_small : {m : Option ℕ} {k : ℕ} → m ≡ month_on r.begin → m ≡ Some k → Small k r.span r.slide r.end
    months_small {k = k} e p =
        let w = (rule_row r).0 f in
        let n = (months w.window a b).1 in
        record {
          first_most = omega (arith, (month_on-found r.begin k (sym e ∙ p)).0);
          span_least = n.span;
          span_most = omega (arith, n.span_most);
          slide_least = n.slide;
          slide_most = omega (arith, n.slide_most);
          close_most = w.period_end;
        }

    pub months_placed : {m : Option ℕ} {k : ℕ} {at : Places} → (r.windowed ≡ 0 → ⊥) → m ≡ month_on r.begin → m ≡ Some k → Made true k r.span r.slide r.end at → Placed r at
    months_placed w e p m =
        let q : month_on r.begin ≡ Some _ = sym e ∙ p in
        in_months w (months ((rule_row r).0 f).window a b).0 m.monthly (rw m.first q) m.span m.slide m.close

    pub month_there : {m : Option ℕ} → m ≡ month_on r.begin → m ≡ None → ⊥
    month_there {m} e p =
        let w = months ((rule_row r).0 f).window a b in
        let q : Some w.2 ≡ None = sym w.3 ∙ sym e ∙ p in
        let z : ◌≡◌ {A = ℕ} 0 1 = cc in
        omega arith
