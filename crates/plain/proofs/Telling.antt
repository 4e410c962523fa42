-- The verdict over every day, from where the walk stopped and the change days counted.
use mathlib.Core.Path.{◌≡◌, sym, ap, ap₂, ◌∙◌, subst}
use Prim.Native.Nat.{ℕ, suc, ◌+◌, ◌-◌, ◌≤◌}
use native.Mathlib.Omega.{arith}
use lib.ListN.{length}
use Rattle.std.specs.Prelude.{Option, Some, None}
use Rattle.meaning.specs.declared.Rule.{Rule}
use Rattle.meaning.specs.declared.Verdict.TheVariants.{Holds, Fails}
use Rattle.meaning.specs.Walk.{pick}
use Rattle.meaning.specs.Document.{Doc}
use Rattle.meaning.specs.Day.{offender, is_change, change_days, on_days}
use Rattle.meaning.proofs.Slices.{PresentAlive}
use Rattle.meaning.proofs.DayByDay.{fails_at, holds_at}
use Rattle.plain.specs.declared.days.Failing.{Failing}
use Rattle.plain.specs.Walking.{Clear, FirstDay, Stopped}

-- what is known of a walk by where it stopped
module _ (doc : Doc) (q r : Rule) {x : Option Failing} (s : Stopped doc q r x) where
  pub stopped_here : {f : Failing} → x ≡ Some f → FirstDay doc q r f.day f.place
  stopped_here e = subst (Stopped doc q r) e s

  pub stopped_nowhere : x ≡ None → Clear doc q r (r.end - r.begin)
  stopped_nowhere e = subst (Stopped doc q r) e s

module _ (doc : Doc) (q r : Rule) (alive : PresentAlive doc) where
  pub told-fails : (d v n : ℕ) → FirstDay doc q r d v → n ≡ length (pick (is_change doc q r) r.begin (d + 1 - r.begin)) → Fails d v n ≡ on_days doc q r
  told-fails d v n w e =
      let j : ℕ = d - r.begin in
      let day : d ≡ r.begin + j = omega (arith, w.from) in
      let many : d + 1 - r.begin ≡ suc j = omega (arith, w.from) in
      ap₂ (λ (c k : ℕ). Fails c v k) day (e ∙ ap (λ (k : ℕ). length (pick (is_change doc q r) r.begin k)) many)
      ∙ fails_at doc q r alive j w.clear (omega (arith, w.from, w.below)) (ap (offender doc q r) (sym day) ∙ w.offence)

  pub told-holds : (n : ℕ) → r.begin ≤ r.end → Clear doc q r (r.end - r.begin) → n ≡ length (pick (is_change doc q r) r.begin (r.end - r.begin)) → Holds n ≡ on_days doc q r
  unfolding change_days
  told-holds n h w e = ap Holds e ∙ holds_at doc q r alive (r.end - r.begin) w (omega arith)
