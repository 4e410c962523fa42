-- The walk along two orders as it counts and stores: it starts on the first day, takes a change day at each turn, and ends with all of them.
use mathlib.Core.Path.{◌≡◌, refl, sym, ap}
use mathlib.Core.Logic.{inl, ⊎_elim}
use mathlib.Core.List.{List, ◌++◌}
use Prim.Native.Nat.{ℕ, ◌+◌, ◌-◌, ◌≤◌, ◌<◌}
use native.Mathlib.Omega.{arith}
use lib.ListN.{length, drop, set}
use Rattle.meaning.specs.declared.Rule.{Rule}
use Rattle.meaning.specs.Walk.{pick}
use Rattle.meaning.specs.Document.{Doc}
use Rattle.meaning.specs.Day.{is_change}
use Rattle.meaning.proofs.Basics.{le_or_lt}
use Rattle.meaning.proofs.Changes.{why_change}
use Rattle.marks.specs.Marks.{after}
use Rattle.marks.proofs.After.{after-here}
use Rattle.marks.proofs.Storing.{Counting, counting-start, counting_more, counting-end, Filling, filling_start, filling_more, filling_end, left-more, left_end}
use Rattle.changes.specs.Merging.{Come}

module _ (doc : Doc) (q r : Rule) (opens closes : List ℕ) (first past : ℕ) where
  -- the change days before `past`
  abbrev pub all : List ℕ
  all = pick (is_change doc q r) first (past - first)

  -- the walk stands on a change day, or at the end, with n change days counted
  pub record Tally (begun ended day n : ℕ) : Type 0 where
    pub come : Come doc q r opens closes begun ended day
    pub counting : Counting (is_change doc q r) past first n day

  module _ (e : first ≡ r.begin) (h : first < past) where
    pub in_order : first ≤ past
    in_order = omega arith

    first_found : first ≡ after (is_change doc q r) first past
    first_found = sym (after-here (is_change doc q r) past first h (why_change doc q r first (inl e)))

    pub tally_start : Tally 0 0 first 0
    tally_start =
        record {
          come = record { since = omega arith; begins = λ k l. absurd (omega arith); ends = λ k l. absurd (omega arith) };
          counting = counting-start (is_change doc q r) past first in_order first first_found;
        }

    -- what `next_change` has given
    pub tally_more : {begun ended day n : ℕ} → Tally begun ended day n → day < past → {b c v : ℕ}
        → (Come doc q r opens closes begun ended day → day < past → Come doc q r opens closes b c v × (v ≡ after (is_change doc q r) (day + 1) past)) → Tally b c v (n + 1)
    tally_more {begun} {ended} {day} {n} t l {b} {c} {v} gives =
        let g = gives t.come l in
        record { come = g.0; counting = counting_more (is_change doc q r) past first in_order n day t.counting l v g.1 }

    pub tally_end : {begun ended day n : ℕ} → Tally begun ended day n → past ≤ day → n ≡ length all
    tally_end {begun} {ended} {day} {n} t l = counting-end (is_change doc q r) past first in_order n day t.counting l

    -- some are left exactly where the day lies before the end
    module _ {begun ended day k : ℕ} (t : Tally begun ended day k) where
      some_left : k < length all → day < past
      some_left l =
          ⊎_elim
          (λ b. let p = ap (λ (xs : List ℕ). length xs) (left_end (is_change doc q r) past day t.counting.stop b) in absurd (omega (arith, p, t.counting.whole)))
          (λ a. a)
          (le_or_lt past day)

      none_left : length all ≤ k → past ≤ day
      none_left l =
          ⊎_elim
          (λ b. b)
          (λ a.
          let p = ap (λ (xs : List ℕ). length xs) (left-more (is_change doc q r) past day t.counting.stop a (after (is_change doc q r) (day + 1) past) refl) in
          absurd (omega (arith, p, t.counting.whole)))
          (le_or_lt past day)

    -- the same, with the days stored at the front of `out`
    pub record Filled (old out : List ℕ) (begun ended day k : ℕ) : Type 0 where
      pub tally : Tally begun ended day k
      pub filling : Filling (is_change doc q r) past first in_order old out k day

    module _ (old : List ℕ) (room : length all ≤ length old) where
      pub filled-start : Filled old old 0 0 first 0
      filled-start =
          record { tally = tally_start; filling = filling_start (is_change doc q r) past first in_order old room first first_found }

      module _ {out : List ℕ} {begun ended day k : ℕ} (s : Filled old out begun ended day k) where
        pub filled_more : k < length all → {b c v : ℕ}
            → (Come doc q r opens closes begun ended day → day < past → Come doc q r opens closes b c v × (v ≡ after (is_change doc q r) (day + 1) past))
            → Filled old (set out k day) b c v (k + 1)
        filled_more l {b} {c} {v} gives =
            let a = some_left s.tally l in
            let g = gives s.tally.come a in
            record {
              tally = tally_more s.tally a gives;
              filling = filling_more (is_change doc q r) past first in_order old out k day s.filling a v g.1;
            }

        pub filled-end : length all ≤ k → out ≡ all ++ drop (length all) old
        filled-end l = filling_end (is_change doc q r) past first in_order old out k day s.filling room (none_left s.tally l)
