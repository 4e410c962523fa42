-- What a verdict on days says: holds exactly where no record offends on any day, else the first day and its lowest offender.
use mathlib.Core.Path.{◌≡◌, refl, ap, sym, ◌∙◌}
use mathlib.Core.Logic.{⊎_elim, ◌⊎◌, inl, inr}
use mathlib.Core.Bool.{true, false, false≢true}
use Prim.Native.Nat.{ℕ, zero, suc, ◌≤◌, ◌<◌}
use native.Mathlib.Omega.{arith}
use lib.ListN.{length}
use Rattle.meaning.specs.declared.Rule.{Rule}
use Rattle.std.specs.Prelude.{Some, None}
use Rattle.meaning.specs.declared.Verdict.TheVariants.{Holds, Fails}
use Rattle.meaning.specs.Walk.{found, place, Found}
use Rattle.meaning.specs.Document.{Doc}
use Rattle.meaning.specs.Day.{present_on, offends, offender, is_change, change_days, first_failing, on_days}
use Rattle.meaning.proofs.Basics.{went, clear, le_or_lt}
use Rattle.meaning.proofs.Slices.{PresentAlive}
use Rattle.meaning.proofs.Walks.{first_found, first-nothing, first-none}
use Rattle.meaning.proofs.Quiet.{same-as_before}
use Rattle.meaning.proofs.Over.{nowhere}
use Rattle.meaning.proofs.Changes.{days, AtPlace, in_place, change_why, why_change, change_listed}

-- version v offends on day d of the period, no lower record does, and no record on an earlier day of it
pub record FirstFault (doc : Doc) (q r : Rule) (d v : ℕ) : Type 0 where
  pub from : r.begin ≤ d
  pub below : d < r.end
  pub here : v < doc.size
  pub offence : offends doc (present_on doc d) q r v ≡ true
  pub lowest : (u : ℕ) → u < v → offends doc (present_on doc d) q r u ≡ false
  pub first_day : (c u : ℕ) → r.begin ≤ c → c < d → u < doc.size → offends doc (present_on doc c) q r u ≡ false

-- no record offends on any day of the period
abbrev pub NoFault : Doc → Rule → Rule → Type 0
NoFault doc q r = (d v : ℕ) → r.begin ≤ d → d < r.end → v < doc.size → offends doc (present_on doc d) q r v ≡ false

module _ (doc : Doc) (q r : Rule) where
  -- nothing was found on a day: no record offends
  none-on : (d : ℕ) → offender doc q r d ≡ None → (v : ℕ) → v < doc.size → offends doc (present_on doc d) q r v ≡ false
  unfolding offender
  none-on d e v h = first-nothing (offends doc (present_on doc d) q r) 0 doc.size e v (omega arith) (omega arith)

  -- the two ways of a verdict
  pub record Comes : Type 0 where
    pub day : ℕ
    pub version : ℕ
    pub first_day : first_failing doc q r ≡ Some day
    pub lowest : offender doc q r day ≡ Some version
    pub verdict : on_days doc q r ≡ Fails day version (place day (change_days doc q r))

  comes : (d : ℕ) (x : Found) → first_failing doc q r ≡ Some d → offender doc q r d ≡ x → found x ≡ true → Comes
  unfolding on_days
  comes d (Some v) e o t = record { day = d; version = v; first_day = e; lowest = o; verdict = rw (e, o) }
  comes d None e o t = absurd (false≢true t)

  pub on-days : ((first_failing doc q r ≡ None) × (on_days doc q r ≡ Holds (length (change_days doc q r)))) ⊎ Comes
  unfolding on_days first_failing
  on-days = go (first_failing doc q r) refl
    where
      go : (x : Found) → first_failing doc q r ≡ x → ((first_failing doc q r ≡ None) × (on_days doc q r ≡ Holds (length (change_days doc q r)))) ⊎ Comes
      go None e = inl (e, rw e)
      go (Some d) e = inr (comes d (offender doc q r d) e refl (first_found (λ c. found (offender doc q r c)) r.begin (days r) d e).passes)

  none_found : first_failing doc q r ≡ None → NoFault doc q r
  unfolding first_failing
  none_found e d v a b h =
      none-on d (nowhere (offender doc q r d) (first-nothing (λ c. found (offender doc q r c)) r.begin (days r) e d a (omega arith))) v h

  fault : (w : Comes) → FirstFault doc q r w.day w.version
  unfolding first_failing offender
  fault w =
      let l = first_found (λ c. found (offender doc q r c)) r.begin (days r) w.day w.first_day in
      let o = first_found (offends doc (present_on doc w.day) q r) 0 doc.size w.version w.lowest in
      record {
        from = l.from;
        below = omega (arith, l.from, l.below);
        here = omega (arith, o.below);
        offence = o.passes;
        lowest = λ u h. o.before u (omega arith) h;
        first_day = λ c u a b h. none-on c (nowhere (offender doc q r c) (l.before c a b)) u h;
      }

  -- 'holds' where no record offends on any day of the period, and the count is that of the change days
  pub holds-none : (n : ℕ) → on_days doc q r ≡ Holds n → NoFault doc q r × (n ≡ length (change_days doc q r))
  holds-none n e =
      ⊎_elim
      (λ w. (none_found w.0, cc))
      (λ w. let v = w.verdict in let z : ◌≡◌ {A = ℕ} 0 1 = cc in absurd (omega arith))
      on-days

  pub none-holds : NoFault doc q r → on_days doc q r ≡ Holds (length (change_days doc q r))
  none-holds h =
      ⊎_elim
      (λ w. w.1)
      (λ w. let f = fault w in absurd (clear f.offence (h w.day w.version f.from f.below f.here)))
      on-days

  -- 'fails' with the first day that has an offender, and its lowest one
  pub fails_first : (d v n : ℕ) → on_days doc q r ≡ Fails d v n → FirstFault doc q r d v × (n ≡ place d (change_days doc q r))
  fails_first d v n e =
      ⊎_elim
      (λ w. let p = w.1 in let z : ◌≡◌ {A = ℕ} 0 1 = cc in absurd (omega arith))
      (λ w.
      let p = w.verdict in
      let same-day : w.day ≡ d = cc in
      let same_version : w.version ≡ v = cc in
      let counted : place w.day (change_days doc q r) ≡ n = cc in
      (rw same_version at (rw same-day at (fault w)), sym counted ∙ ap (λ x. place x (change_days doc q r)) same-day))
      on-days

  -- a day past the first with an offender, and none the day before, is a change day
  later-change : PresentAlive doc → (c v : ℕ) → FirstFault doc q r (suc c) v → r.begin ≤ c → is_change doc q r (suc c) ≡ true
  unfolding offender
  later-change s c v f h =
      ⊎_elim
      (λ y. y)
      (λ z.
      let quiet-day : offender doc q r c ≡ None = first-none (offends doc (present_on doc c) q r) 0 doc.size (λ u a b. f.first_day c u h (omega arith) (omega arith)) in
      let same : offender doc q r c ≡ offender doc q r (suc c) = same-as_before doc s q r c (omega arith) z in
      absurd (clear f.offence (none-on (suc c) (sym same ∙ quiet-day) v f.here)))
      (went (is_change doc q r (suc c)))

  first-change : PresentAlive doc → (d v : ℕ) → FirstFault doc q r d v → is_change doc q r d ≡ true
  first-change s zero v f = why_change doc q r 0 (inl (omega (arith, f.from)))
  first-change s (suc c) v f = ⊎_elim (λ h. later-change s c v f h) (λ h. why_change doc q r (suc c) (inl (omega (arith, f.from)))) (le_or_lt r.begin c)

  -- in a sound document the first failing day is a change day, and the count is its place among them
  pub fails_place : PresentAlive doc → (d v n : ℕ) → on_days doc q r ≡ Fails d v n → AtPlace (change_days doc q r) d n
  fails_place s d v n e =
      let w = fails_first d v n e in
      let f = w.0 in
      let listed = change_listed doc q r d (record { from = f.from; below = f.below; why = change_why doc q r d (first-change s d v f) }) in
      rw (sym w.1) at (in_place d (change_days doc q r) listed.index listed.inside listed.there)
