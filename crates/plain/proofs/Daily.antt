-- How the walk over every day goes on: no day before d has an offender, and the marks kept are those of the day before.
use mathlib.Core.Path.{◌≡◌, sym, ap, ◌∙◌}
use mathlib.Core.Logic.{⊎_elim}
use mathlib.Core.Bool.{false}
use mathlib.Core.List.{List}
use Prim.Native.Nat.{ℕ, ◌+◌, ◌-◌, ◌≤◌, ◌<◌}
use native.Mathlib.Omega.{arith}
use lib.Dec.{eqb}
use lib.ListN.{length}
use borrow.Author.Tests.{eqb-false}
use Rattle.meaning.specs.Walk.{Found}
use Rattle.std.specs.Prelude.{Some, None}
use Rattle.meaning.specs.declared.Rule.{Rule}
use Rattle.meaning.specs.Document.{Doc}
use Rattle.meaning.specs.Day.{present_on, offender}
use Rattle.meaning.proofs.Basics.{le_or_lt}
use Rattle.marks.specs.Marks.{Marks}
use Rattle.plain.specs.Walking.{offender_by, Clear, FirstDay}
use Rattle.plain.proofs.Agreeing.{offender-marked}

module _ (doc : Doc) (q r : Rule) where
  -- the walk stands at day d, `before` being the marks of the day before unless d is the period's first
  pub record Walking (before : List ℕ) (d : ℕ) : Type 0 where
    pub from : r.begin ≤ d
    pub room : doc.size ≤ length before
    pub clear : Clear doc q r (d - r.begin)
    pub judged : r.begin < d → offender_by doc q r before ≡ None

  pub walking_start : (before : List ℕ) → doc.size ≤ length before → Walking before r.begin
  walking_start before h = record { from = omega arith; room = h; clear = λ i l. absurd (omega arith); judged = λ l. absurd (omega arith) }

  module _ (before : List ℕ) (d : ℕ) (w : Walking before d) where
    -- past the first day, the day before has no offender
    pub walking_before : eqb d r.begin ≡ false → offender_by doc q r before ≡ None
    walking_before e = w.judged (omega (arith, w.from, eqb-false d r.begin e))

    -- past the last day no day is left
    pub walking_end : r.end ≤ d → Clear doc q r (r.end - r.begin)
    walking_end h i l = w.clear i (omega arith)

    -- what was found on the marks of day d
    module _ (present : List ℕ) (m : Marks (present_on doc d) doc.size present) (x : Found) (ex : x ≡ offender_by doc q r present) where
      on-day : x ≡ offender doc q r d
      on-day = ex ∙ offender-marked doc q r d present m

      pub walking_hit : d < r.end → {v : ℕ} → x ≡ Some v → FirstDay doc q r d v
      walking_hit h e = record { from = w.from; below = h; clear = w.clear; offence = sym on-day ∙ e }

      pub walking_next : x ≡ None → Walking present (d + 1)
      walking_next e =
          record {
            from = omega (arith, w.from);
            room = m.room;
            clear = λ i l. ⊎_elim
                (λ a. let here : r.begin + i ≡ d = omega (arith, w.from) in ap (offender doc q r) here ∙ sym on-day ∙ e)
                (λ b. w.clear i b)
                (le_or_lt (d - r.begin) i);
            judged = λ l. sym ex ∙ e;
          }
