-- The way from one selected record to the next, and what a prepared rule's lists lead to.
use mathlib.Core.Path.{◌≡◌}
use mathlib.Core.Logic.{⊎_elim}
use mathlib.Core.Bool.{Bool, true, false}
use mathlib.Core.List.{List}
use Prim.Native.Nat.{ℕ, suc, ◌-◌, ◌≤◌, ◌<◌}
use native.Mathlib.Omega.{arith}
use lib.ListN.{length, get_or}
use Rattle.meaning.specs.declared.Rule.{Rule}
use Rattle.meaning.specs.Walk.{any}
use Rattle.meaning.specs.Document.{Doc}
use Rattle.meaning.specs.Select.{selected}
use Rattle.meaning.proofs.Basics.{le_or_lt, clear, tests_same}
use Rattle.meaning.proofs.Walks.{any_some, any-true}
use Rattle.marks.proofs.After.{Next, after_is}
use Rattle.prepare.specs.Rows.{in_row}
use Rattle.day.specs.Ready.{Ready}
use Rattle.day.specs.Row.{Chain, Fits}

-- nothing passes from v to w, so that a walk to w finds what a walk to v does
pub any-skips : (f : ℕ → Bool) (v w : ℕ) → v ≤ w → ((u : ℕ) → v ≤ u → u < w → f u ≡ false) → any f 0 w ≡ any f 0 v
any-skips f v w h none =
    tests_same (any f 0 w) (any f 0 v)
    (λ y. let k = any-true f 0 w y in
    ⊎_elim
    (λ (a : v ≤ k.0). absurd (clear k.1.passes (none k.0 a (omega (arith, k.1.below)))))
    (λ b. any_some f 0 v k.0 (record { from = omega arith; below = omega arith; passes = k.1.passes }))
    (le_or_lt v k.0))
    (λ y. let k = any-true f 0 v y in any_some f 0 w k.0 (record { from = omega arith; below = omega (arith, k.1.below); passes = k.1.passes }))

-- lists that lead through the n records: from `start` by `next` to each chosen one, and from `last` by `lower` down its row
pub record Laid (n : ℕ) (chosen : ℕ → Bool) (rows : ℕ → ℕ → Bool) (start : ℕ) (next last lower : List ℕ) : Type 0 where
  pub starts : Next chosen n 0 start
  pub leads : (v : ℕ) → v < n → Next chosen n (suc v) (get_or next v 0)
  pub chains : (v : ℕ) → v < n → chosen v ≡ true → Chain (rows v) n (get_or last v 0) lower

module _ {doc : Doc} {r : Rule} {start : ℕ} {next last lower begins ends reps : List ℕ} (s : Ready doc r start next last lower begins ends reps) where
  -- as many records as the column has entries
  pub sized : length begins ≡ doc.size
  sized = s.periods.begin.size

  pub next-room : length begins ≤ length next
  next-room = omega (arith, sized, s.rows.skips.room)

  pub laid : Laid (length begins) (selected doc r) (in_row doc r) start next last lower
  laid =
      rw sized
      (record {
        starts = rw s.rows.skips.start_is (after_is (selected doc r) doc.size 0 (omega arith));
        leads = λ v h. rw (s.rows.skips.next_is v h) (after_is (selected doc r) doc.size (suc v) (omega arith));
        chains = λ v h c. record { last_is = s.rows.last_is v h c; lower_is = λ f g i. s.rows.lower_is v f h g i };
      })

  pub fits : (marks : List ℕ) → doc.size ≤ length marks → Fits (length begins) last lower ends reps marks
  fits marks room =
      rw sized
      (record {
        last_room = s.rows.last_room;
        lower_room = s.rows.lower_room;
        end_room = omega (arith, s.periods.end.size);
        rep_room = s.represents.room;
        mark_room = room;
        rep_low = s.represents.low;
      })

  module _ (v : ℕ) (h : v < length begins) where
    pub next_of : (to : ℕ) → to ≡ get_or next v 0 → Next (selected doc r) (length begins) (suc v) to
    next_of to e = rw e (laid.leads v h)

    pub next_more : (to : ℕ) → to ≡ get_or next v 0 → length begins - to < length begins - v
    next_more to e = omega (arith, (next_of to e).from)
