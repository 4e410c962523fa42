-- The numbers that places are made of, how many there are, and the first place that ends after a day or starts on it or later.
use mathlib.Core.Path.{◌≡◌, ap}
use mathlib.Core.Logic.{⊎_elim}
use mathlib.Core.Bool.{Bool}
use Prim.Native.Nat.{ℕ, ◌+◌, ◌*◌, ◌≤◌, ◌<◌}
use native.Mathlib.Nat.{mul-le-mul_right}
use native.Mathlib.Omega.{arith}
use Rattle.meaning.specs.Window.{least}
use Rattle.meaning.proofs.Basics.{le_or_lt}
use Rattle.places.specs.declared.Places.{Places}
use Rattle.places.specs.Placing.{unit_day, calendar_day, start_of, end_of, natural_of, Counted, Low, High}
use Rattle.places.specs.Earlier.{Starting, Ending}
use Rattle.places.specs.Made.{Small}
use Rattle.places.proofs.Days.{days_rise, least-left, least-right, least-most, least_first, least_above}

-- a place ends by its length a span after its first unit, and that is a slide after the end of the place before
by_span : (monthly : Bool) (first span slide k : ℕ) → calendar_day monthly (first + k * slide + span) ≡ calendar_day monthly (first + span + k * slide)
by_span monthly first span slide k = ap (calendar_day monthly) (omega arith)

-- places of small numbers, with as many as start before the close, and as many whole as end by it of themselves
pub counted-made : {monthly : Bool} {first span slide close count ended whole : ℕ} → Small first span slide close → Starting monthly first slide close count
    → Ending monthly (first + span) slide close ended → whole ≡ least ended count
    → Counted (record { monthly = monthly; first = first; span = span; slide = slide; close = close; count = count; whole = whole })
unfolding start_of natural_of
counted-made {monthly = monthly} {first = first} {span = span} {slide = slide} {count = count} {ended = ended} s b e w =
    record {
      first_most = s.first_most;
      span_least = s.span_least;
      span_most = s.span_most;
      slide_least = s.slide_least;
      slide_most = s.slide_most;
      close_most = s.close_most;
      count_most = b.most;
      inside = b.within;
      over = b.past;
      whole_most = omega (arith, least-most ended count);
      ended = λ k h. omega (arith, by_span monthly first span slide k, e.within k (omega (arith, least_first ended count)));
      shortened = λ k h l.
          ⊎_elim
          (λ m. omega (arith, by_span monthly first span slide k, e.past k (omega (arith, least-left ended count m))))
          (λ m. absurd (omega (arith, least-right ended count m)))
          (le_or_lt ended count);
    }

module _ (at : Places) (n : Counted at) where
  -- where a place ends by its length alone: a span after its first unit, a slide after the place before
  by_length : (k : ℕ) → unit_day at.monthly (at.first + k * at.slide + at.span) ≡ unit_day at.monthly (at.first + at.span + k * at.slide)
  by_length k = ap (unit_day at.monthly) (omega arith)

  -- a place ends with the close at the latest
  pub ends-by_close : (k : ℕ) → end_of at k ≤ at.close
  unfolding end_of
  ends-by_close k = least-most _ at.close

  -- and does not start after it would end
  pub starts_first : (k : ℕ) → start_of at k ≤ unit_day at.monthly (at.first + k * at.slide + at.span)
  unfolding start_of
  starts_first k = days_rise at.monthly _ _ (omega arith)

  -- the way to a place stays small
  pub way_most : (k : ℕ) → k ≤ at.count → k * at.slide ≤ 1334075625
  way_most k h =
      let a = n.count_most in
      let b = n.slide_most in
      omega (arith, mul-le-mul_right {m = k} {n = 36525} at.slide (omega arith))

  -- from the close on every place has ended
  pub low-closed : (b : ℕ) → at.close ≤ b → Low at b at.count
  low-closed b h =
      record {
        most = omega arith;
        before = λ k l. omega (arith, ends-by_close k);
        from = λ k l m. absurd (omega arith);
      }

  -- before it those that do by their length
  pub low-open : (b l : ℕ) → b < at.close → Starting at.monthly (at.first + at.span) at.slide (b + 1) l → Low at b l
  unfolding end_of
  low-open b l h s =
      record {
        most = ⊎_elim (λ m. m)
            (λ m. absurd (omega (arith, n.over at.count (omega arith), starts_first at.count, by_length at.count, s.within at.count m)))
            (le_or_lt l at.count);
        before = λ k m.
            omega (arith, least_first (unit_day at.monthly (at.first + k * at.slide + at.span)) at.close, by_length k, s.within k m);
        from = λ k m p. least_above _ at.close b (omega (arith, by_length k, s.past k p)) h;
      }

  -- and those start before a day in the period that do by their number
  pub high-by : (e d h : ℕ) → d ≡ least e at.close → Starting at.monthly at.first at.slide d h → High at e h
  unfolding start_of
  high-by e d h q s =
      record {
        most = ⊎_elim (λ m. m)
            (λ m. absurd (omega (arith, n.over at.count (omega arith), s.within at.count m, least-most e at.close)))
            (le_or_lt h at.count);
        within = λ k m. omega (arith, s.within k m, least_first e at.close);
        past = λ k m p.
            ⊎_elim (λ o. omega (arith, s.past k p, least-left e at.close o))
            (λ o. absurd (omega (arith, s.past k p, least-right e at.close o, n.inside k m)))
            (le_or_lt e at.close);
      }
