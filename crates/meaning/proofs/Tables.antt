-- A record passes the test of its table exactly where it is a row of it: 5 and 25.
use mathlib.Core.Path.{◌≡◌, refl, sym}
use mathlib.Core.Logic.{◌↔◌, ◌⊎◌, inl, inr, ⊎_elim, ⊎_map}
use mathlib.Core.Bool.{Bool, true, false, cond, false≢true}
use Prim.Native.Nat.{ℕ, zero, suc, ◌≤◌}
use native.Mathlib.Omega.{arith}
use Rattle.std.specs.Prelude.{Option, Some, None}
use Rattle.calendar.specs.Gregorian.{month_on}
use Rattle.meaning.specs.declared.Node.{Node}
use Rattle.meaning.specs.declared.Rule.{Rule}
use Rattle.meaning.specs.Nodes.{item_fields, version_fields, node_fields}
use Rattle.meaning.specs.Rules.{path_fits, distinct_fits, field_fits, referred_fits, bounds_fit, window_fits, is_month, rule_fields}
use Rattle.meaning.proofs.Rows.{ItemRow, VersionRow, PathRow, BoundsRow, WindowRow, RuleRow, whole_period, in_days, in_months}
use Rattle.meaning.proofs.Basics.{or_cases, or_l, or_r}
use Rattle.meaning.proofs.Says.{unless, says}

-- one of two tests, chosen by a third: what passes each way
by-test : (t a b : Bool) → (cond t a b ≡ true) ↔ ((t ≡ true → a ≡ true) × (t ≡ false → b ≡ true))
by-test true a b = (λ e. (λ p. e, λ p. absurd (false≢true (sym p))), λ q. q.0 refl)
by-test false a b = (λ e. (λ p. absurd (false≢true p), λ p. e), λ q. q.1 refl)

-- at least 1 where a test passes
by_one : (t : Bool) (x : ℕ) → (cond t 1 0 ≤ x) ↔ (t ≡ true → 1 ≤ x)
by_one true x = (λ h p. h, λ f. f refl)
by_one false x = (λ h p. absurd (false≢true p), λ f. omega arith)

item-row : (n : Node) → (item_fields n ≡ true) ↔ ItemRow n
unfolding item_fields
item-row n = (λ e. let w = simp says at e in search, λ r. simp says (search))

-- of the value kinds 0 to 3 those that are neither number nor text
outside : (k : ℕ) → k ≤ 3 → (k ≡ 1 → ⊥) → (k ≡ 2 → ⊥) → (k ≡ 0) ⊎ (k ≡ 3)
outside zero h a b = inl refl
outside (suc zero) h a b = absurd (a refl)
outside (suc (suc zero)) h a b = absurd (b refl)
outside (suc (suc (suc zero))) h a b = inr refl
outside (suc (suc (suc (suc k)))) h a b = absurd (omega arith)

version-row : (n : Node) → (version_fields n ≡ true) ↔ VersionRow n
unfolding version_fields
version-row n = (
  λ e. let w = simp says at e in
      record { kind = omega arith; vkind = omega arith; name = omega arith; period = omega arith; period_end = omega arith; no_value = λ k. w.0.0.1 (λ h. omega arith, λ h. omega arith); text = λ k. w.0.1 (omega arith); nil = λ k. w.0.0.1 (λ h. omega arith, λ h. omega arith); item = omega arith },
  λ r. simp says ((((((r.kind, r.vkind), r.name), (r.period, r.period_end)), λ k. ⊎_elim (λ h. r.no_value h) (λ h. r.nil h) (outside n.vkind r.vkind k.0 k.1)), λ k. r.text (omega arith)), r.item),
)

-- THE NODE TABLE
pub node_row : (n : Node) → (node_fields n ≡ true) ↔ (ItemRow n ⊎ VersionRow n)
unfolding node_fields
node_row n = (
  λ e. ⊎_map (item-row n).0 (version-row n).0 (or_cases (item_fields n) (version_fields n) e),
  ⊎_elim (λ i. or_l (item_fields n) (version_fields n) ((item-row n).1 i)) (λ v. or_r (item_fields n) (version_fields n) ((version-row n).1 v)),
)

path-row : (r : Rule) → (path_fits r ≡ true) ↔ PathRow r
unfolding path_fits
path-row r = (
  λ e. let w = simp (by-test, says) at e in
      record { steps = w.0.0; steps_most = w.0.1; used = λ k h. (w.1 k (omega arith) (omega arith)).0 h; unused = λ k h l. (w.1 k (omega arith) l).1 h },
  λ p. simp (by-test, says) ((p.steps, p.steps_most), λ k z l. (p.used k, λ h. p.unused k h l)),
)

distinct-row : (r : Rule) → (distinct_fits r ≡ true) ↔ ((r.distinct ≡ 0) ⊎ ((r.distinct ≡ 1) × (r.windowed ≡ 1) × (r.kind ≡ 4)))
unfolding distinct_fits
distinct-row r = (
  λ e. (unless r.distinct 0).0 (λ z. let d = (simp says at e) z in (search)),
  λ d. simp says (λ z. let c = (unless r.distinct 0).1 d z in (search)),
)

bounds-row : (r : Rule) → (bounds_fit r ≡ true) ↔ BoundsRow r
unfolding bounds_fit
bounds-row r = (
  λ e. let w = simp (by-test, says) at e in record { order = w.0; none = w.1.0; low = λ k. w.1.1 (omega arith) k },
  λ b. simp (by-test, says) (b.order, (b.none, λ z. b.low)),
)

-- a month start is that of some month
is-month_lem : (m : Option ℕ) → is_month m ≡ true → (k : ℕ) × (m ≡ Some k)
is-month_lem (Some k) e = (k, refl)
is-month_lem None e = absurd (false≢true e)

window_row : (r : Rule) → (window_fits r r.unit ≡ true) ↔ WindowRow r
unfolding window_fits
window_row r = (go r.unit refl, back)
  where
    go : (u : ℕ) → r.unit ≡ u → window_fits r u ≡ true → WindowRow r
    go zero p e = let w = simp says at e in whole_period p w.0 w.1
    go (suc zero) p e = let w = simp says at e in in_days p w.0 (search)
    go (suc (suc zero)) p e =
        let w = simp says at e in
        let m = is-month_lem (month_on r.begin) w.1 in
        in_months p w.0.0 (search) m.0 m.1
    go (suc (suc (suc u))) p e = absurd (false≢true e)

    back : WindowRow r → window_fits r r.unit ≡ true
    back (whole_period p a b) = rw p (simp says (a, b))
    back (in_days p a l) = rw p (simp says (search))
    back (in_months p a l k m) = rw (p, m) (simp says (search))

-- the parts of a rule's row
ruleset parts = (path-row, distinct-row, by_one, bounds-row, window_row, says)

-- THE RULE TABLE
pub rule_row : (r : Rule) → (rule_fields r ≡ true) ↔ RuleRow r
unfolding rule_fields field_fits referred_fits
rule_row r = (
  λ e. let w = simp parts at e in search,
  λ w. simp parts (search depth 14),
)
