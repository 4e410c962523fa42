-- The rows of the rule table that go by cases, a path place by place, the bounds by the kind, the window by its unit; and all rows together.
use mathlib.Core.Path.{◌≡◌, refl, sym, ap, ◌∙◌}
use mathlib.Core.Bool.{Bool, true, false, ◌&&◌, ◌||◌, not}
use mathlib.Core.List.{List}
use Prim.Native.Nat.{ℕ, zero, suc, ◌+◌, ◌-◌, ◌^◌, ◌≤◌, ◌<◌}
use borrow.Author.Tests.{le-leb, lt-leb}
use lib.Dec.{eqb, leb}
use lib.IntN.{pos}
use lib.Signed.{mag, le_z}
use mir.Syntax.{w32}
use Rattle.calendar.specs.Gregorian.{month_on}
use Rattle.meaning.specs.declared.Rule.{Rule}
use Rattle.meaning.specs.Walk.{any}
use Rattle.meaning.specs.Bytes.{eq_z}
use Rattle.meaning.specs.Nodes.{is_period}
use Rattle.meaning.specs.Rules.{is_month, lengths_fit, path_fits, distinct_fits, field_fits, referred_fits, bounds_fit, window_fits, rule_fields}
use Rattle.numbers.proofs.Callers.{held}
use Rattle.numbers.proofs.Signs.{given}
use Rattle.rules.specs.Table.{place_fits}
use Rattle.rules.proofs.Walked.{any-on, any-stops}

-- a place that is wrong
abbrev pub wrong : List ℕ → ℕ → ℕ → Bool
wrong path steps k = not (place_fits path steps k)

module _ (path : List ℕ) (steps k : ℕ) {t : Bool} (here : k < 8) (e : t ≡ place_fits path steps k) where
  pub place-right : not t ≡ false → any (wrong path steps) (k + 1) (8 - (k + 1)) ≡ any (wrong path steps) k (8 - k)
  place-right f = any-on (wrong path steps) 8 k here (ap not (sym e) ∙ f)

  pub place-wrong : not t ≡ true → any (wrong path steps) k (8 - k) ≡ true
  place-wrong f = any-stops (wrong path steps) 8 k here (ap not (sym e) ∙ f)

module _ (r : Rule) where
  -- of a signed field the machine tells how large it may be; a call gets it as `held` has it
  module _ (fl : mag r.low < 2 ^ 31) (fh : mag r.high < 2 ^ 31) {ordered : Bool} (e : ordered ≡ le_z (held r.low) (held r.high)) where
    pub no_bounds : {l h : Bool} → r.kind ≤ 3 → l ≡ eq_z (held r.low) (pos 0) → h ≡ eq_z (held r.high) (pos 0) → (ordered && (l && h)) ≡ bounds_fit r
    unfolding bounds_fit
    no_bounds k el eh = rw (e, el, eh, given w32 {z = r.low} fl, given w32 {z = r.high} fh, le-leb r.kind 3 k)

    pub some-bounds : {l : Bool} → 3 < r.kind → l ≡ le_z (pos 0) (held r.low) → (ordered && (not (eqb r.kind 4) || l)) ≡ bounds_fit r
    unfolding bounds_fit
    some-bounds k el = rw (e, el, given w32 {z = r.low} fl, given w32 {z = r.high} fh, lt-leb r.kind 3 k)

  pub whole_period : {u : ℕ} → u ≡ 0 → (eqb r.span 0 && eqb r.slide 0) ≡ window_fits r u
  unfolding window_fits
  whole_period e = rw e

  pub in_days : {u : ℕ} {l : Bool} → u ≡ 1 → l ≡ lengths_fit r 36525 → (eqb r.windowed 1 && l) ≡ window_fits r u
  unfolding window_fits
  in_days e el = rw (e, el)

  pub in_months : {u : ℕ} {l m : Bool} → u ≡ 2 → l ≡ lengths_fit r 1200 → m ≡ is_month (month_on r.begin) → (eqb r.windowed 1 && l && m) ≡ window_fits r u
  unfolding window_fits
  in_months e el em = rw (e, el, em)

  pub no_window : (u : ℕ) → (u ≡ 0 → ⊥) → (u ≡ 1 → ⊥) → (u ≡ 2 → ⊥) → false ≡ window_fits r u
  unfolding window_fits
  no_window zero a b d = absurd (a refl)
  no_window (suc zero) a b d = absurd (b refl)
  no_window (suc (suc zero)) a b d = absurd (d refl)
  no_window (suc (suc (suc u))) a b d = refl

  -- all of them
  pub table : {p d f g b w : Bool} → p ≡ path_fits r → d ≡ distinct_fits r → f ≡ field_fits r → g ≡ referred_fits r → b ≡ bounds_fit r → w ≡ window_fits r r.unit
      → (leb 1 r.kind && leb r.kind 5 && leb r.windowed 1 && p && d && f && g && b && is_period r.begin r.end && w) ≡ rule_fields r
  unfolding rule_fields
  table ep ed ef eg eb ew = rw (ep, ed, ef, eg, eb, ew)
