-- What request 2 of 02 changed of the verdict: which windows are shortened, by the days that 02 names; where no cardinality meets one the verdict is what
-- it was before, and a rule that held still holds.
use mathlib.Core.Path.{◌≡◌, refl, sym, ap, ◌∙◌}
use mathlib.Core.Logic.{◌↔◌, ◌⊎◌, inl, inr, ⊎_elim}
use mathlib.Core.Bool.{Bool, true, false, ◌&&◌, ◌||◌, not, cond, false≢true}
use mathlib.Core.List.{List, [], ◌∷◌}
use Prim.Native.Nat.{ℕ, zero, suc, ◌+◌, ◌≤◌, ◌<◌}
use native.Mathlib.Omega.{arith}
use lib.IntN.{ℤ, pos}
use lib.Signed.{le_z}
use borrow.Author.Tests.{ltb-true, lt-ltb}
use Rattle.calendar.specs.Gregorian.{month_day, month_start}
use Rattle.calendar.proofs.Months.{month_ascends, start_in, start_past}
use Rattle.std.specs.Prelude.{None, Err, Ok}
use Rattle.meaning.specs.Reading.{Reading, Accepted}
use Rattle.meaning.specs.declared.Verdict.TheVariants.{Holds}
use Rattle.meaning.specs.declared.Rule.{Rule}
use Rattle.meaning.specs.Walk.{count, Found}
use Rattle.meaning.specs.Document.{Doc, number_of}
use Rattle.meaning.specs.Nodes.{doc_of}
use Rattle.meaning.specs.Rules.{by_kind, is_sequenced, rule_at, rules_of}
use Rattle.meaning.specs.Select.{within, present}
use Rattle.meaning.specs.Window.{Window, shortened, meets, counts, cardinality_in, breaks_in, offends_in, offender_in, windows, judge, in_windows}
use Rattle.meaning.specs.Answer.{referred_by, judged, verdict_after, read_verdict, verdict}
use Rattle.meaning.proofs.Basics.{went, le_or_lt}
use Rattle.meaning.proofs.Walks.{first-same, first-none, first-nothing}
use Rattle.meaning.proofs.Rows.{RuleRow}
use Rattle.meaning.proofs.Timetable.{Nth, Sooner, IsWindow, the_period, of_days, of_months}
use Rattle.meaning.proofs.Windows.{judge-holds, clear-holds}
use Rattle.meaning.proofs.Before.{cardinality_before, breaks_before, offender_before, judged_before, verdict_before}

-- the natural end lies past the period's end, or past the last entry of the month table
abbrev pub PastEnd : Rule → Window → Type 0
PastEnd r w = (r.end < w.natural) ⊎ (month_start 1200 < w.natural)

-- a window ends with its period if that is sooner than day a, its natural end or else the table's
cut : (a end to natural : ℕ) → Sooner a end to → end ≤ 36525 → (a ≡ natural) ⊎ ((a ≡ 36525) × (36525 < natural)) → (to < natural) ↔ ((end < natural) ⊎ (36525 < natural))
cut a end to natural s most (inl e) = (
  λ l. ⊎_elim (λ i. absurd (omega arith)) (λ i. inl (omega arith)) s.either,
  ⊎_elim (λ l. omega (arith, s.second)) (λ l. omega (arith, s.second)),
)
cut a end to natural s most (inr e) = (λ l. inr e.1, λ l. omega (arith, s.second, e.1))

-- entry 1,200, or the calendar's day
entry : (m : ℕ) → (month_start m ≡ month_day m) ⊎ ((month_start m ≡ 36525) × (36525 < month_day m))
entry m =
    ⊎_elim
    (λ h. inl (start_in m h))
    (λ h. inr (start_past m (omega arith), omega (arith, month_ascends 1200 m h, start_in 1200 (omega arith), start_past 1200 (omega arith))))
    (le_or_lt m 1200)

module _ (r : Rule) (row : RuleRow r) (j : ℕ) (w : Window) where
  ends-early : IsWindow r j w → (w.to < w.natural) ↔ ((r.end < w.natural) ⊎ (36525 < w.natural))
  ends-early (the_period u p) = (
    λ l. absurd (omega (arith, p.ends, p.natural)),
    ⊎_elim (λ l. absurd (omega (arith, p.natural))) (λ l. absurd (omega (arith, p.natural, row.period_end))),
  )
  ends-early (of_days u p) = cut (w.from + r.span) r.end w.to w.natural p.ends row.period_end (inl (sym p.natural))
  ends-early (of_months u k a b p) = cut _ r.end w.to w.natural p.ends row.period_end (rw p.natural (entry _))

  -- a window of a rule that fits its table is shortened exactly where its natural end is past the one or the other
  pub shortened-where : IsWindow r j w → (shortened w ≡ true) ↔ PastEnd r w
  unfolding shortened
  shortened-where i = let e = ends-early i in rw (start_past 1200 (omega arith)) (λ s. e.0 (ltb-true w.to w.natural s), λ p. lt-ltb w.to w.natural (e.1 p))

-- no window of the rule is shortened
abbrev pub Unshortened : Rule → Type 0
Unshortened r = (j : ℕ) (w : Window) → Nth (windows r) j w → shortened w ≡ false

-- the rule is no cardinality in windows, or none of its windows is shortened
abbrev pub Untouched : Rule → Type 0
Untouched r = (r.windowed ≡ 0) ⊎ ((r.kind ≡ 4 → ⊥) ⊎ Unshortened r)

module _ (doc : Doc) (p : ℕ → Bool) (w : Window) (q r : Rule) where
  -- how many are counted under the item number of v
  abbrev counted : ℕ → ℤ
  counted v = pos (count (counts doc p r (number_of doc v)) 0 doc.size)

  -- where the window is not shortened a cardinality offends as it did
  cardinality-same : shortened w ≡ false → (v : ℕ) → cardinality_in doc p w r v ≡ cardinality_before doc p r v
  unfolding cardinality_in cardinality_before within
  cardinality-same s v = ap (λ short. not ((short || le_z r.low (counted v)) && le_z (counted v) r.high)) s

  -- and what offends now offended before
  cardinality-less : (v : ℕ) → cardinality_before doc p r v ≡ false → cardinality_in doc p w r v ≡ false
  unfolding cardinality_in cardinality_before within
  cardinality-less v e = go (shortened w) (le_z r.low (counted v)) (le_z (counted v) r.high) e
    where
      go : (s a b : Bool) → not (a && b) ≡ false → not ((s || a) && b) ≡ false
      go false a b h = h
      go true true b h = h
      go true false b h = absurd (false≢true (sym h))

  breaks-same : (v k : ℕ) → ((k ≡ 4 → ⊥) ⊎ (shortened w ≡ false)) → breaks_in doc p w q r v k ≡ breaks_before doc p q r v k
  unfolding by_kind breaks_in breaks_before
  breaks-same v zero h = refl
  breaks-same v (suc zero) h = refl
  breaks-same v (suc (suc zero)) h = refl
  breaks-same v (suc (suc (suc zero))) h = refl
  breaks-same v (suc (suc (suc (suc zero)))) h = ⊎_elim (λ n. absurd (n refl)) (λ s. ap (λ b. present doc p r v && b) (cardinality-same s v)) h
  breaks-same v (suc (suc (suc (suc (suc k))))) h = refl

  breaks-less : (v k : ℕ) → breaks_before doc p q r v k ≡ false → breaks_in doc p w q r v k ≡ false
  unfolding by_kind breaks_in breaks_before
  breaks-less v zero e = e
  breaks-less v (suc zero) e = e
  breaks-less v (suc (suc zero)) e = e
  breaks-less v (suc (suc (suc zero))) e = e
  breaks-less v (suc (suc (suc (suc zero)))) e = behind (present doc p r v) (cardinality_before doc p r v) (cardinality_in doc p w r v) (cardinality-less v) e
    where
      behind : (a b c : Bool) → (b ≡ false → c ≡ false) → a && b ≡ false → a && c ≡ false
      behind true b c h e = h e
      behind false b c h e = e
  breaks-less v (suc (suc (suc (suc (suc k))))) e = e

-- the same found in each window, the same verdict
judge-same : (f g : Window → Found) (ws : List Window) (k : ℕ) → ((j : ℕ) (w : Window) → Nth ws j w → f w ≡ g w) → judge f ws k ≡ judge g ws k
unfolding judge
judge-same f g [] k h = refl
judge-same f g (w ∷ ws) k h = rw (h 0 w refl, judge-same f g ws (suc k) (λ j x n. h (suc j) x n))

module _ (doc : Doc) (q r : Rule) where
  offender-same : (w : Window) → ((r.kind ≡ 4 → ⊥) ⊎ (shortened w ≡ false)) → offender_in doc q r w ≡ offender_before doc q r w
  unfolding offender_in offender_before offends_in
  offender-same w h = first-same _ _ 0 doc.size (λ v a b. breaks-same doc (meets doc w) w q r v r.kind h)

  offender-less : (w : Window) → offender_before doc q r w ≡ None → offender_in doc q r w ≡ None
  unfolding offender_in offender_before offends_in
  offender-less w e = first-none _ 0 doc.size (λ v a b. breaks-less doc (meets doc w) w q r v r.kind (first-nothing _ 0 doc.size e v a b))

  -- a rule that 02 does not touch is judged as before
  pub judged-same : Untouched r → judged doc q r ≡ judged_before doc q r
  unfolding judged judged_before in_windows
  judged-same (inl e) = rw e
  judged-same (inr h) =
      ap (cond (is_sequenced r) _) (judge-same _ _ (windows r) 0 (λ j w n. offender-same w (⊎_elim (λ k. inl k) (λ u. inr (u j w n)) h)))

  -- and one that held holds, by as many days or windows
  pub holds-still : (n : ℕ) → judged_before doc q r ≡ Holds n → judged doc q r ≡ Holds n
  unfolding judged judged_before in_windows
  holds-still n e =
      ⊎_elim
      (λ s. rw s (rw s at e))
      (λ s.
      let held : judge (offender_before doc q r) (windows r) 0 ≡ Holds n = rw s at e in
      let c = judge-holds (offender_before doc q r) (windows r) 0 n held in
      rw s (clear-holds (offender_in doc q r) (windows r) 0 (λ j w m. offender-less w (c.0 j w m)) ∙ ap Holds (sym c.1)))
      (went (is_sequenced r))

-- The same of the call `verdict`, whose refusals are what they were.
module _ (nodes rules : List ℕ) (k : ℕ) where
  pub verdict-same : Untouched (rule_at (rules_of rules) k) → verdict nodes rules k ≡ verdict_before nodes rules k
  unfolding verdict verdict_before
  verdict-same h = ap (verdict_after (read_verdict nodes rules k)) (judged-same (doc_of nodes) (referred_by (rules_of rules) k) (rule_at (rules_of rules) k) h)

  pub verdict-holds : (n : ℕ) → verdict_before nodes rules k ≡ Ok (Holds n) → verdict nodes rules k ≡ Ok (Holds n)
  unfolding verdict verdict_before
  verdict-holds n = go (read_verdict nodes rules k)
    where
      go : (x : Reading) → verdict_after x (judged_before (doc_of nodes) (referred_by (rules_of rules) k) (rule_at (rules_of rules) k)) ≡ Ok (Holds n)
          → verdict_after x (judged (doc_of nodes) (referred_by (rules_of rules) k) (rule_at (rules_of rules) k)) ≡ Ok (Holds n)
      go Accepted e = ap Ok (holds-still (doc_of nodes) (referred_by (rules_of rules) k) (rule_at (rules_of rules) k) n (cc))
      go (Err why) e = e
