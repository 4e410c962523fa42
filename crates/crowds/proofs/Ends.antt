-- Tallies that are cleared, the room they have, and how a stretch of ends goes on.
use mathlib.Core.Path.{◌≡◌, sym}
use mathlib.Core.Bool.{true, ◌&&◌}
use mathlib.Core.Logic.{⊎_elim}
use mathlib.Core.List.{List, ◌++◌}
use Prim.Native.Nat.{ℕ, ◌+◌, ◌≤◌, ◌<◌}
use native.Mathlib.Omega.{arith}
use lib.Dec.{eqb, ltb}
use lib.ListN.{length, set, replicate}
use lib.Seq.{get_or-set_same, get_or-set_other}
use borrow.Author.Count.{below_more}
use Rattle.passes.proofs.Clearing.{cleared}
use Rattle.meaning.proofs.Basics.{went}
use Rattle.meaning.proofs.Says.{says}
use Rattle.crowds.specs.Crowds.{at}
use Rattle.crowds.specs.Tallies.{by, Room, Cleared, Ended}

-- tallies whose first n were filled with 0
pub cleared_tally : (n : ℕ) (filled rest : List ℕ) → filled ≡ replicate n 0 → Cleared (filled ++ rest) n
cleared_tally n filled rest e = record { zero_at = (cleared n filled rest e).zeros }

-- tallies of the same length have the same room
pub room-kept : {keys lo hi tally tally' : List ℕ} {n : ℕ} → Room keys lo hi tally n → length tally' ≡ length tally → Room keys lo hi tally' n
room-kept r e = record { in_keys = r.in_keys; in_lo = r.in_lo; in_hi = r.in_hi; in_tally = omega (arith, r.in_tally) }

module _ (closes keys lo hi : List ℕ) (n until j : ℕ) (tally : List ℕ) where
  -- no end taken
  pub ended-none : j ≤ length closes → Ended closes keys lo hi n until j j tally tally
  ended-none h = record { to = h; by_then = λ v a b. absurd (omega arith); no_more = λ k. omega arith; enough = λ N f e. e }

  -- record y, the next of the ends, lies by `until`
  module _ (r : ℕ) (now : List ℕ) (s : Ended closes keys lo hi n until j r tally now) (h : r < length closes) (y : ℕ) (ey : y ≡ at closes r) (early : at hi y ≤ until) where
    -- all ends up to it do
    by-more : (v : ℕ) → j ≤ v → v < r + 1 → by closes hi v ≤ until
    by-more v a b =
        below_more (λ w. j ≤ w → by closes hi w ≤ until) r
        (λ w l z. s.by_then w z l)
        (λ z. rw ey at early)
        v b a

    -- it is passed over
    pub ended-skip : Ended closes keys lo hi n until j (r + 1) tally now
    ended-skip =
        record {
          to = omega arith;
          by_then = by-more;
          no_more = s.no_more;
          enough = λ N f e k l. omega (arith, f.same r k h l, s.enough N f e k l);
        }

    -- it is taken off the tally of its key, by one or not at all
    pub ended-more : (k m : ℕ) → k ≡ at keys y → ltb (at lo y) (at hi y) && ltb k n ≡ true → n ≤ length now → (at now k ≤ m + 1) × (m ≤ at now k) →
        Ended closes keys lo hi n until j (r + 1) tally (set now k m)
    ended-more k m ek some wide fall =
        let w = simp says at some in
        let room : k < length now = omega (arith, w.1) in
        let ek' : by closes keys r ≡ k = sym (rw ey at ek) in
        let some' : by closes lo r < by closes hi r = rw ey at w.0 in
        let early' : by closes hi r ≤ until = rw ey at early in
        record {
          to = omega arith;
          by_then = by-more;
          no_more = λ c. ⊎_elim
              (λ z. let q = simp says at z in rw (q, get_or-set_same now k m 0 room) (omega (arith, s.no_more k)))
              (λ z. rw (get_or-set_other now k c m 0 (simp says at z)) (s.no_more c))
              (went (eqb c k));
          enough = λ N f e c l. ⊎_elim
              (λ z.
              let q = simp says at z in
              rw (q, get_or-set_same now k m 0 room)
              (omega (arith, f.less r k h w.1 early' some' ek', s.enough N f e k w.1)))
              (λ z. rw (get_or-set_other now k c m 0 (simp says at z)) (omega (arith, f.same r c h l, s.enough N f e c l)))
              (went (eqb c k));
        }
