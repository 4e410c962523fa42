-- The change days of a sequenced rule: ascending, exactly the days that demand 3 names, few, and enough for the verdict.
use mathlib.Core.Path.{◌≡◌, refl, sym, ◌∙◌}
use mathlib.Core.Logic.{⊎_elim, ◌⊎◌, inl, inr}
use mathlib.Core.Bool.{Bool, true, false, ◌&&◌, false≢true}
use mathlib.Core.List.{List, [], ◌∷◌}
use Prim.Native.Nat.{ℕ, zero, suc, ◌+◌, ◌-◌, ◌*◌, ◌≤◌, ◌<◌}
use native.Mathlib.Nat.{add-zero}
use native.Mathlib.Omega.{arith}
use lib.Dec.{eqb}
use lib.ListN.{length, get_or}
use borrow.Author.Tests.{eqb-true, eq-eqb}
use Rattle.meaning.specs.declared.Rule.{Rule}
use Rattle.meaning.specs.Walk.{any, count, place}
use Rattle.meaning.specs.Document.{Doc}
use Rattle.meaning.specs.Select.{reads}
use Rattle.meaning.specs.Day.{offender, turns, is_change, change_days, first_failing, on_days}
use Rattle.meaning.proofs.Basics.{went, or_cases, or_l, or_r, and_l, and_r, both}
use Rattle.meaning.proofs.Slices.{PresentAlive}
use Rattle.meaning.proofs.Walks.{any-true, any_some}
use Rattle.meaning.proofs.Picks.{Ascending, In, pick-ascends, length_pick, in_picked, picked_in, count-or, count-one, turn_days}
use Rattle.meaning.proofs.Selects.{version-here, reads-version}
use Rattle.meaning.proofs.Quiet.{same-as_before}
use Rattle.meaning.proofs.Over.{over, said, over-picked, place-first, place-next}

-- how many days the rule's period has
abbrev pub days : Rule → ℕ
days r = r.end - r.begin

-- a day of the period that is its first, or on which a version that the rule reads begins or ends
pub record ChangeDay (doc : Doc) (q r : Rule) (d : ℕ) : Type 0 where
  pub from : r.begin ≤ d
  pub below : d < r.end
  pub why : (d ≡ r.begin) ⊎ ((i : ℕ) × (reads doc q r i ≡ true) × ((doc.begin i ≡ d) ⊎ (doc.end i ≡ d)))

-- d is at place n, from one, of a list
pub record AtPlace (ds : List ℕ) (d n : ℕ) : Type 0 where
  pub from_one : 1 ≤ n
  pub inside : n ≤ length ds
  pub there : get_or ds (n - 1) 0 ≡ d

place_here : (d : ℕ) (ds : List ℕ) → AtPlace (d ∷ ds) d (place d (d ∷ ds))
place_here d ds = rw (place-first d ds) (record { from_one = omega arith; inside = omega arith; there = refl })

place-later : (d x n : ℕ) (ds : List ℕ) → AtPlace ds d n → AtPlace (x ∷ ds) d (suc n)
place-later d x zero ds w = absurd (omega (arith, w.from_one))
place-later d x (suc n) ds w =
    let here : suc (suc n) - 1 ≡ suc n = omega arith in
    let back : suc n - 1 ≡ n = omega arith in
    record { from_one = omega arith; inside = omega (arith, w.inside); there = rw here (rw back at w.there) }

pub in_place : (d : ℕ) (ds : List ℕ) (k : ℕ) → k < length ds → get_or ds k 0 ≡ d → AtPlace ds d (place d ds)
in_place d [] k h e = absurd (omega arith)
in_place d (x ∷ ds) k h e =
    ⊎_elim
    (λ t. let p : d ≡ x = eqb-true d x t in rw (sym p) (place_here d ds))
    (λ t. rw (place-next d x ds (λ p. false≢true (sym t ∙ eq-eqb d x p))) (place-later d x (place d ds) ds (rest k h e t (in_place d ds))))
    (went (eqb d x))
  where
    rest : (k : ℕ) → k < length (x ∷ ds) → get_or (x ∷ ds) k 0 ≡ d → eqb d x ≡ false
        → ((j : ℕ) → j < length ds → get_or ds j 0 ≡ d → AtPlace ds d (place d ds)) → AtPlace ds d (place d ds)
    rest zero h e t ih = absurd (false≢true (sym t ∙ eq-eqb d x (sym e)))
    rest (suc k) h e t ih = ih k (omega arith) e

module _ (doc : Doc) (q r : Rule) where
  pub days_ascend : Ascending (change_days doc q r)
  unfolding change_days
  days_ascend = pick-ascends (is_change doc q r) r.begin (days r)

  pub change_why : (d : ℕ) → is_change doc q r d ≡ true → (d ≡ r.begin) ⊎ ((i : ℕ) × (reads doc q r i ≡ true) × ((doc.begin i ≡ d) ⊎ (doc.end i ≡ d)))
  unfolding is_change
  change_why d e =
      let g : ℕ → Bool = λ i. reads doc q r i && turns doc d i in
      ⊎_elim
      (λ t. inl (sym (eqb-true r.begin d t)))
      (λ t. let w = any-true g 0 doc.size t in
      let i = w.0 in
      let both-pass = w.1.passes in
      inr (
        i,
        and_l (reads doc q r i) (turns doc d i) both-pass,
        ⊎_elim (λ x. inl (eqb-true (doc.begin i) d x)) (λ x. inr (eqb-true (doc.end i) d x))
            (or_cases (eqb (doc.begin i) d) (eqb (doc.end i) d) (and_r (reads doc q r i) (turns doc d i) both-pass)),
      ))
      (or_cases (eqb r.begin d) (any g 0 doc.size) e)

  pub why_change : (d : ℕ) → (d ≡ r.begin) ⊎ ((i : ℕ) × (reads doc q r i ≡ true) × ((doc.begin i ≡ d) ⊎ (doc.end i ≡ d))) → is_change doc q r d ≡ true
  unfolding is_change
  why_change d (inl e) = or_l (eqb r.begin d) _ (eq-eqb r.begin d (sym e))
  why_change d (inr w) =
      let i = w.0 in
      or_r (eqb r.begin d) _
      (any_some (λ j. reads doc q r j && turns doc d j) 0 doc.size i (record {
        from = omega arith;
        below = omega (arith, version-here doc i (reads-version doc q r i w.1));
        passes = both (reads doc q r i) (turns doc d i) w.1
            (⊎_elim (λ x. or_l (eqb (doc.begin i) d) _ (eq-eqb (doc.begin i) d x)) (λ x. or_r (eqb (doc.begin i) d) _ (eq-eqb (doc.end i) d x)) w.2);
      }))

  -- a day is listed exactly when it is a change day
  pub listed-change : (d : ℕ) → In (change_days doc q r) d → ChangeDay doc q r d
  unfolding change_days
  listed-change d w =
      let p = in_picked (is_change doc q r) r.begin (days r) d w in
      record { from = p.from; below = omega (arith, p.from, p.below); why = change_why d p.passes }

  pub change_listed : (d : ℕ) → ChangeDay doc q r d → In (change_days doc q r) d
  unfolding change_days
  change_listed d w =
      picked_in (is_change doc q r) r.begin (days r) d (record { from = w.from; below = omega (arith, w.from, w.below); passes = why_change d w.why })

  -- two for each version read, and the first day
  pub days_few : length (change_days doc q r) ≤ 2 * count (reads doc q r) 0 doc.size + 1
  unfolding change_days is_change
  days_few =
      let turn : ℕ → Bool = λ d. any (λ i. reads doc q r i && turns doc d i) 0 doc.size in
      omega (
        arith,
        length_pick (is_change doc q r) r.begin (days r),
        count-or (λ d. eqb r.begin d) turn r.begin (days r),
        count-one r.begin r.begin (days r),
        turn_days (reads doc q r) doc.begin doc.end doc.size 0 r.begin (days r),
      )

  -- where present is alive, the verdict over the change days is the verdict over every day
  pub verdict-changes : PresentAlive doc → on_days doc q r ≡ over (offender doc q r) (change_days doc q r) 0
  unfolding on_days change_days first_failing said
  verdict-changes p =
      simp add-zero at (sym (over-picked (offender doc q r) (is_change doc q r) (days r) r.begin 0
      (λ d h l e. same-as_before doc p q r d (omega arith) e)
      (λ h. inl (why_change r.begin (inl refl)))))
