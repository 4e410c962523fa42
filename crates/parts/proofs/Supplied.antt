-- A class that is supplied where at least so many of it are present: what the pass for gaps is given then, and what its promise comes to.
use mathlib.Core.Path.{◌≡◌, refl, ◌∙◌, ap}
use mathlib.Core.List.{List}
use Prim.Native.Nat.{ℕ, ◌≤◌, ◌<◌}
use native.Mathlib.Omega.{arith}
use lib.ListN.{length, replicate, get_or-replicate}
use Rattle.passes.specs.Passes.{at, On, Covers, ByGap}
use Rattle.passes.specs.Given.{GivenGap}
use Rattle.crowds.specs.Crowds.{present}
use Rattle.crowds.specs.Tallies.{Cleared}
use Rattle.crowds.specs.Levels.{Levels}
use Rattle.parts.specs.Ground.{Ground}
use Rattle.parts.specs.Keyed.{DemandKeys}
use Rattle.parts.specs.Parts.{ByFew, Small}

-- fresh entries are clear
pub fresh_clear : (n m : ℕ) → n ≤ m → Cleared (replicate m 0) n
fresh_clear n m h = record { zero_at = λ k l. get_or-replicate {A = ℕ} m k 0 0 (omega arith) }

module _ (order lo hi : List ℕ) (n : ℕ) (ground : Ground order lo hi n) where
  -- a column of n records covers the order
  covers : {column : List ℕ} → n ≤ length column → Covers order column
  covers h = record { has = λ j l. omega (arith, ground.covered j l) }

  -- a record of the order is one of the n
  on-low : (x : ℕ) → On order x → x < n
  on-low x o = rw o.found at (ground.covered o.place o.below)

  -- the supplies end where a column of their own says
  pub given_gap_until : {demand supply until reach need : List ℕ} → n ≤ length demand → n ≤ length supply → n ≤ length until → n ≤ length reach → n ≤ length need
      → GivenGap order lo demand hi supply until n reach need
  given_gap_until d s u r h =
      record {
        los = covers ground.lo_room;
        demands = covers d;
        dhis = covers ground.hi_room;
        supplies = covers s;
        shis = covers u;
        rising = ground.rising;
        reaches = r;
        needs = h;
      }

  -- by its class a marked record demands `low`
  pub few-until : (marks classes demand keys until : List ℕ) (low D : ℕ) → DemandKeys n marks classes demand → Small n classes → Levels keys lo hi n low until
      → ByGap order lo demand hi keys until n D → ByFew order marks classes keys lo hi n low D
  unfolding ByGap ByFew
  few-until marks classes demand keys until low D demands small levels b x p ox mark hx few =
      let in_n = on-low x ox in
      let e : at demand x ≡ at classes x = demands.key x in_n ∙ rw mark refl in
      b x p ox (omega (arith, small.low x in_n)) hx
      (λ y oy same hy.
      let enough = levels.held y p (on-low y oy) hy.from hy.to in
      let as_many : present keys lo hi n (at keys y) p ≡ present keys lo hi n (at classes x) p = ap (λ (k : ℕ). present keys lo hi n k p) (same ∙ e) in
      omega arith)
