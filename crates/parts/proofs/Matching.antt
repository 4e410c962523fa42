-- What the pass for a reference on days is given, and what its promise comes to: who supplies is alone in its row.
use mathlib.Core.Path.{◌≡◌, refl, sym, ◌∙◌}
use mathlib.Core.List.{List}
use mathlib.Core.Logic.{⊎_elim}
use Prim.Native.Nat.{ℕ, ◌-◌, ◌≤◌, ◌<◌}
use native.Mathlib.Omega.{arith}
use lib.Dec.{eqb}
use lib.ListN.{length, get_or, take, length-take, get_or-eq_default}
use lib.Seq.{get_or-take}
use borrow.Author.Tests.{eqb-true, lt-ltb}
use Rattle.meaning.proofs.Basics.{le_or_lt}
use Rattle.orders.specs.Order.{InOrder}
use Rattle.passes.specs.Passes.{at, On, Covers}
use Rattle.pieces.specs.Lone.{Laid, Stretched}
use Rattle.pieces.specs.Merged.{GivenApart, ByGapApart}
use Rattle.parts.specs.Ground.{Ground}
use Rattle.parts.specs.Keyed.{ValueKeys}
use Rattle.parts.specs.Parts.{Small}
use Rattle.parts.specs.Matched.{SoleKeys, Below, Columns, ByAny, ByUnmatched}

-- a list of some of n records is covered by a column of n
below-covers : {list column : List ℕ} {n : ℕ} → Below list n → n ≤ length column → Covers list column
below-covers b h = record { has = λ j l. omega (arith, b.below j l) }

-- a record of such a list is one of the n
below_on : {list : List ℕ} {n : ℕ} → Below list n → (x : ℕ) → On list x → x < n
below_on b x o = rw o.found at (b.below o.place o.below)

-- records of which only n have a kind come sorted: they are some of the n
pub sorted_below : (kinds column order : List ℕ) (m n : ℕ) → InOrder (λ x. eqb (get_or (take (n - 0) kinds) x 0) 2) column order m → Below (take (m - 0) order) n
sorted_below kinds column order m n o =
    let size : length (take (m - 0) order) ≡ m = simp length-take (omega (arith, o.room)) in
    let few : length (take (n - 0) kinds) ≤ n = simp length-take (omega arith) in
    record {
      below = λ j l.
          let same : at (take (m - 0) order) j ≡ at order j = get_or-take (m - 0) order j 0 (omega arith) in
          let x = at order j in
          let two : get_or (take (n - 0) kinds) x 0 ≡ 2 = eqb-true (get_or (take (n - 0) kinds) x 0) 2 (o.once j (omega arith)).0 in
          ⊎_elim
          (λ (past : n ≤ x). let none = get_or-eq_default (take (n - 0) kinds) 0 {n = x} (omega arith) in absurd (omega arith))
          (λ (h : x < n). omega arith)
          (le_or_lt n x);
    }

module _ (order lo hi : List ℕ) (n : ℕ) (ground : Ground order lo hi n) where
  pub ground_below : Below order n
  ground_below = record { below = ground.covered }

  pub ground_laid : {key : List ℕ} → n ≤ length key → Laid order key lo n
  ground_laid h = record { covered = ground.covered; keys = h; los = ground.lo_room; rising = ground.rising }

  pub ground_covers : {column : List ℕ} → n ≤ length column → Covers order column
  ground_covers h = below-covers ground_below h

  module _ (supplies demand from supply to : List ℕ) (some : Below supplies n) (columns : Columns n demand from supply to) where
    pub given_apart : {reach need : List ℕ} → n ≤ length reach → n ≤ length need → GivenApart order lo demand hi supplies from supply to n reach need
    given_apart r h =
        record {
          los = ground_covers ground.lo_room;
          demands = ground_covers columns.demands;
          dhis = ground_covers ground.hi_room;
          froms = below-covers some columns.froms;
          keys = below-covers some columns.supplies;
          shis = below-covers some columns.tos;
          rising = ground.rising;
          reaches = r;
          needs = h;
        }

    -- where no record supplies, none of the list does
    pub any-by : (D : ℕ) → ByGapApart order lo demand hi supplies from supply to n D → ByAny order lo demand hi from supply to n D
    unfolding ByGapApart ByAny
    any-by D b x p ox low hx none = b x p ox low hx (λ y oy e hy. none y (below_on some y oy) e hy)

  -- a record that supplies holds out the value of one that is alone in its row
  pub unmatched_by : (rows others reps values from to sole held : List ℕ) → ValueKeys n rows reps values → Small n reps → Stretched order others lo hi n from to sole → SoleKeys n sole reps held
      → (D : ℕ) → ByAny order lo values hi from held to n D → ByUnmatched order rows others reps lo hi n D
  unfolding ByAny ByUnmatched
  unmatched_by rows others reps values from to sole held keys small stretched soles D b x p ox low hx none =
      let xn = below_on ground_below x ox in
      let vx : at values x ≡ at reps x = keys.key x xn ∙ rw (lt-ltb (at rows x) n low) refl in
      b x p ox (omega (arith, small.low x xn)) hx
      (λ y yn e hy.
      let a = stretched.alone y p yn hy.from hy.to in
      let s = at sole y in
      let k = soles.key y yn (below_on ground_below s a.1.on) in
      let of = a.1.of in
      let keyed = a.0 in
      none s (omega arith) (sym k ∙ e ∙ vx) (rw of a.1))
