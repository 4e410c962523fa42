-- What the lists laid out for a rule give to the walk of its kind, and what that walk's answer is.
use mathlib.Core.Path.{◌≡◌, refl, sym}
use mathlib.Core.Bool.{Bool, true, false, ◌||◌, cond, or-false}
use mathlib.Core.Logic.{◌⊎◌, inl, inr, ⊎_elim}
use mathlib.Core.List.{List}
use Prim.Native.Nat.{ℕ, ◌≤◌}
use native.Mathlib.Omega.{arith}
use borrow.Author.Tests.{eqb-true, eqb-false, eq-eqb}
use lib.Dec.{eqb, ltb}
use lib.IntN.{pos}
use lib.ListN.{length, get_or}
use Rattle.meaning.specs.declared.Rule.{Rule}
use Rattle.meaning.specs.Walk.{first, Found}
use Rattle.meaning.specs.Document.{Doc}
use Rattle.meaning.specs.Rules.{is_key, is_reference, is_sequenced, rule_fields}
use Rattle.meaning.specs.Window.{Window, shortened, meets, offends_in, offender_in}
use Rattle.meaning.proofs.Basics.{went}
use Rattle.meaning.proofs.Tables.{rule_row}
use Rattle.prepare.specs.declared.Prepared.{Prepared}
use Rattle.prepare.specs.Holders.{Skips}
use Rattle.prepare.specs.Spoiling.{spoils, AsideIn}
use Rattle.day.specs.declared.lent.Trail.{Trail}
use Rattle.day.specs.Along.{LentBy}
use Rattle.day.proofs.Settling.{lent_rows}
use Rattle.day.specs.Ready.{TermsBy, Terms, Ready, Referred}
use Rattle.counting.specs.Ready.{Ready as Counted, Terms as Counting}
use Rattle.window.specs.declared.layout.Layout.{Layout}
use Rattle.window.specs.Settled.{Settled}

-- the lowest that offends is the offender of the window
pub answer : (doc : Doc) (q r : Rule) (w : Window) {x : Found} → x ≡ first (offends_in doc (meets doc w) w q r) 0 doc.size → x ≡ offender_in doc q r w
unfolding offender_in
answer doc q r w e = e

-- a rule that is neither key nor reference is spoilt by no nil, so nothing is left aside
pub aside : (doc : Doc) (q r : Rule) (w : Window) {x : Found} (k : ℕ) → r.kind ≡ k → (eqb k 1 || eqb k 3) ≡ false → x ≡ offender_in doc q r w → AsideIn doc w q r x
unfolding offender_in spoils
aside doc q r w k e t found =
    let taken : (is_key r || is_reference r) ≡ false = rw (← e) at t in
    record { test = offends_in doc (meets doc w) w q r; lowest = found; told = λ v. rw taken (sym (or-false (offends_in doc (meets doc w) w q r v))) }

-- the terms of a cardinality on a day are those in a window, with what it counts, but that none is asked for where it is shortened
pub counting : (r : Rule) (mode low : ℕ) {high : ℕ} → Terms r mode low high → r.kind ≡ 4 → (w : Window) {short : Bool} {least : ℕ} → shortened w ≡ short → least ≡ cond short 0 low
    → Counting r (shortened w) (eqb r.distinct 1) least high
unfolding Terms TermsBy
counting r mode low t k w {short} e l =
    let s = rw k at t in
    record { kind = k; low_is = rw (e, l) (by_way short); high_is = s.2; distinct_is = refl }
  where
    by_way : (b : Bool) → pos (cond b 0 low) ≡ cond b (pos 0) r.low
    by_way true = refl
    by_way false = let s = rw k at t in s.1

module _ (r : Rule) (f : rule_fields r ≡ true) (no_reference : r.kind ≡ 3 → ⊥) (no-count : r.kind ≡ 4 → ⊥) (no-type : r.kind ≡ 5 → ⊥) where
  -- what is none of the later kinds is a key or a unique rule
  pub early : r.kind ≤ 2
  early = omega (arith, ((rule_row r).0 f).kind, ((rule_row r).0 f).kind_most)

  -- and a key is the one that needs a value
  pub needy : ((r.kind ≡ 1) × (eqb r.kind 1 ≡ true)) ⊎ ((r.kind ≡ 2) × (eqb r.kind 1 ≡ false))
  needy =
      ⊎_elim
      (λ y. inl (eqb-true r.kind 1 y, y))
      (λ z. let n : r.kind ≡ 1 → ⊥ = eqb-false r.kind 1 z in inr (omega (arith, early, ((rule_row r).0 f).kind), z))
      (went (eqb r.kind 1))

module _ {doc : Doc} {q r : Rule} {lay : Layout} {held : Prepared} {begins ends reps groups : List ℕ} (s : Settled doc q r lay held begins ends reps groups) where
  -- up to a reference the lists are the rule's rows
  pub own-rows : {t : Trail} → LentBy lay.start lay.next lay.last lay.lower t → r.kind ≤ 3 → Ready doc r t.start t.next.now t.last.now t.lower.now begins ends reps
  own-rows l k = record { rows = lent_rows l (s.spread.rows k); periods = s.periods; represents = s.represents }

  -- and a reference has those of the rule that it refers to
  pub held_rows : {t : Trail} → LentBy held.start held.next held.last held.lower t → r.kind ≡ 3 → Referred doc q t.start t.next.now t.last.now t.lower.now begins ends reps
  held_rows l k =
      let p = s.referred (eq-eqb r.kind 3 k) in
      record { ready = record { rows = lent_rows l p.0; periods = s.periods; represents = s.represents }; valued_only = p.1 }

  -- a cardinality has the way along its selected versions and the chains of the item numbers
  pub chains : {t : Trail} → LentBy lay.start lay.next lay.last lay.lower t → is_sequenced r ≡ false → r.kind ≡ 4
      → Counted doc r t.start t.next.now begins ends reps groups t.last.now t.lower.now
  chains l flat k =
      let p = s.spread.counting k in
      record {
        judgeable = s.judgeable;
        windowed = flat;
        skips = rw (l.start_is, l.next_is) p.0;
        periods = s.periods;
        represents = s.represents;
        classes = s.classes;
        gathered = rw (l.last_is, l.lower_is) p.1;
      }

  -- for a datatype a field version with a reach leads to the next, of as many as there are days of beginning
  pub way : r.kind ≡ 5 → Skips (λ f. ltb 0 (get_or lay.last f 0)) (length begins) lay.start lay.next
  way k = rw s.periods.begin.size (s.spread.stepping k).0

  -- and there is an end and a reach for each of them
  pub rooms : r.kind ≡ 5 → (length begins ≤ length ends) × (length begins ≤ length lay.last)
  rooms k = (omega (arith, s.periods.begin.size, s.periods.end.size), omega (arith, s.periods.begin.size, (s.spread.stepping k).1.room))
