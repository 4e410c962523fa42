-- From a rule prepared over an accepted document to the offender of a day: its rows are ready, and who offends among the versions alive offends on the day.
use mathlib.Core.Path.{◌≡◌, sym, fun_ext}
use mathlib.Core.Logic.{⊎_elim}
use mathlib.Core.Bool.{true}
use mathlib.Core.List.{List}
use Prim.Native.Nat.{ℕ, ◌+◌, ◌-◌, ◌^◌, ◌≤◌, min}
use native.Mathlib.Omega.{arith}
use lib.ListN.{get_or, replicate, length-replicate, get_or-replicate, get_or-eq_default}
use lib.Dec.{leb, ltb}
use borrow.Author.Tests.{ne_eqb, ltb-true, leb-true, lt-ltb, le-leb}
use Rattle.meaning.specs.Block.{limit}
use Rattle.meaning.specs.Walk.{Found}
use Rattle.meaning.specs.declared.Rule.{Rule}
use Rattle.meaning.specs.Document.{Doc, is_version}
use Rattle.meaning.specs.Rules.{is_reference}
use Rattle.meaning.specs.Day.{alive, present_on}
use Rattle.meaning.proofs.Basics.{le_or_lt, tests_same}
use Rattle.meaning.proofs.Selects.{version-here}
use Rattle.columns.specs.Lent.{Periods}
use Rattle.values.specs.Represents.{Represents}
use Rattle.prepare.specs.declared.Prepared.{Prepared}
use Rattle.prepare.specs.Rows.{Rows}
use Rattle.prepare.specs.Rowed.{Rowed}
use Rattle.prepare.specs.Spoiling.{AsideOn}
use Rattle.day.specs.declared.lent.Trail.{Trail}
use Rattle.day.specs.Along.{LentBy}
use Rattle.day.specs.Ready.{Ready, Referred, Clear}
use Rattle.day.specs.Settled.{Settled}

-- fresh marks are all clear
pub zeros : (n x : ℕ) → ◌≡◌ {A = ℕ} (get_or (replicate n 0) x 0) 0
zeros n x =
    ⊎_elim
    (λ past. get_or-eq_default (replicate {A = ℕ} n 0) 0 (omega (arith, length-replicate {A = ℕ} n 0)))
    (λ h. get_or-replicate {A = ℕ} n x 0 0 h)
    (le_or_lt n x)

-- so they serve for as many records as a document can have
pub fresh : {n : ℕ} → n ≤ limit → Clear n (replicate limit 0)
fresh h = record { room = omega (arith, length-replicate {A = ℕ} limit 0); none = λ x. ne_eqb (get_or (replicate limit 0) x 0) 1 (λ e. omega (arith, zeros limit x)) }

-- rows are rows where they are lent
pub lent_rows : {doc : Doc} {r : Rule} {start : ℕ} {next last lower : List ℕ} {t : Trail} → LentBy start next last lower t → Rows doc r start next last lower
    → Rows doc r t.start t.next.now t.last.now t.lower.now
lent_rows l rows = rw (l.start_is, l.next_is, l.last_is, l.lower_is) rows

-- rows with the columns read along them
pub ready : {doc : Doc} {r : Rule} {own : Prepared} {t : Trail} {begins ends reps : List ℕ} → LentBy own.start own.next own.last own.lower t → Rowed doc r own
    → Periods doc begins ends → Represents doc reps → Ready doc r t.start t.next.now t.last.now t.lower.now begins ends reps
ready l s w v = record { rows = lent_rows l s.rows; periods = w; represents = v }

module _ {doc : Doc} {q r : Rule} {own held : Prepared} {begins ends reps : List ℕ} (s : Settled doc q r own held begins ends reps) where
  -- on day d, told from its versions' days of beginning
  pub referred : {t : Trail} → LentBy held.start held.next held.last held.lower t → is_reference r ≡ true
      → Referred doc q t.start t.next.now t.last.now t.lower.now begins ends reps
  referred l e = let g = s.referred e in record { ready = ready l g.0 s.periods s.represents; valued_only = g.1 }

  -- a version has begun on day d exactly where it begins before the day that follows: no version begins so late that there is none
  pub begun : (d to : ℕ) → to ≡ min (d + 1) (2 ^ 64 - 1) → (v : ℕ) → is_version doc v ≡ true → ltb (doc.begin v) to ≡ leb (doc.begin v) d
  begun d to e v k =
      let dated = (s.judgeable.dated v (version-here doc v k)).0 in
      tests_same (ltb (doc.begin v) to) (leb (doc.begin v) d)
      (λ y. let l = ltb-true (doc.begin v) to y in le-leb (doc.begin v) d (omega arith))
      (λ y. let l = leb-true (doc.begin v) d y in lt-ltb (doc.begin v) to (omega arith))

  -- who offends among the versions alive offends on the day
  pub present-aside : {x : Found} (d : ℕ) → AsideOn doc (alive doc d) q r x → AsideOn doc (present_on doc d) q r x
  present-aside {x} d a = let same : alive doc d ≡ present_on doc d = fun_ext (λ v. sym (s.judgeable.present d v)) in rw same at a
