-- What the lists of a rule lead to: from one selected version to the next, and down the field versions under its item number.
use mathlib.Core.Path.{◌≡◌}
use mathlib.Core.Bool.{true}
use mathlib.Core.List.{List}
use Prim.Native.Nat.{ℕ, suc, ◌-◌, ◌≤◌, ◌<◌}
use native.Mathlib.Omega.{arith}
use lib.ListN.{length, get_or, replicate, length-replicate}
use Rattle.meaning.specs.declared.Rule.{Rule}
use Rattle.meaning.specs.Document.{Doc, number_of}
use Rattle.meaning.specs.Select.{selected}
use Rattle.marks.proofs.After.{Next, after_is}
use Rattle.meaning.specs.Block.{limit}
use Rattle.groups.specs.Groups.{in_group}
use Rattle.day.specs.Row.{Chain}
use Rattle.day.proofs.Settling.{zeros, fresh}
use Rattle.counting.specs.Number.{Fits, Fresh}
use Rattle.counting.specs.Ready.{Ready}

module _ {doc : Doc} {r : Rule} {start : ℕ} {next begins ends reps groups last lower : List ℕ} (s : Ready doc r start next begins ends reps groups last lower) where
  -- as many records as the column has entries
  sized : length begins ≡ doc.size
  sized = s.periods.begin.size

  pub next-room : length begins ≤ length next
  next-room = omega (arith, sized, s.skips.room)

  pub fits : (done seen : List ℕ) → doc.size ≤ length done → doc.size ≤ length seen → Fits (length begins) ends reps groups last lower done seen
  fits done seen a b =
      rw sized
      (record {
        room = record {
          end_room = omega (arith, s.periods.end.size);
          rep_room = s.represents.room;
          rep_low = s.represents.low;
          lower_room = s.gathered.lower_room;
          seen_room = b;
        };
        few = s.judgeable.few;
        group_room = s.classes.room;
        group_low = s.classes.low;
        last_room = s.gathered.last_room;
        done_room = a;
      })

  pub starts : Next (selected doc r) (length begins) 0 start
  starts = rw (sized, s.skips.start_is) (after_is (selected doc r) doc.size 0 (omega arith))

  module _ (v : ℕ) (h : v < length begins) (to : ℕ) (e : to ≡ get_or next v 0) where
    pub next_of : Next (selected doc r) (length begins) (suc v) to
    next_of =
        let l : v < doc.size = omega (arith, sized) in
        rw (sized, e, s.skips.next_is v l) (after_is (selected doc r) doc.size (suc v) (omega arith))

    pub next_more : length begins - to < length begins - v
    next_more = omega (arith, next_of.from)

  -- the chain at the class of a selected version
  pub chain-of : (v : ℕ) → selected doc r v ≡ true → Chain (in_group doc r (number_of doc v)) (length begins) (get_or last (get_or groups v 0) 0) lower
  chain-of v y = rw sized (record { last_is = s.gathered.last_is v y; lower_is = λ f h i. s.gathered.lower_is v f y i })

  -- fresh marks and tokens for each record
  pub fresh_both : Fresh doc.size (replicate limit 0) (replicate limit 0)
  fresh_both = record { classes = fresh s.judgeable.few; seen_room = omega (arith, s.judgeable.few, length-replicate {A = ℕ} limit 0); none = zeros limit }
