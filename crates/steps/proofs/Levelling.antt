-- The levels of the places of an order, and what is sought among them.
use mathlib.Core.Path.{◌≡◌}
use mathlib.Core.Bool.{Bool, true}
use mathlib.Core.List.{List}
use Prim.Native.Nat.{ℕ, ◌-◌, ◌≤◌, ◌<◌}
use native.Mathlib.Omega.{arith}
use lib.IntN.{ℤ, pos}
use lib.Signed.{mag}
use lib.ListN.{length, get_or}
use Rattle.meaning.specs.Block.{limit}
use Rattle.prepare.proofs.Filling.{Filled}
use Rattle.steps.specs.Greatest.{greater}
use Rattle.steps.specs.Stacks.{Latest, Stacked, Built, level_at}
use Rattle.steps.specs.Levels.{level_of, bound_of, Placed, place_level, Levelled}
use Rattle.steps.specs.Sweeping.{Asked, Sweepable, Sought}
use Rattle.steps.specs.Places.{Settled, end_at, settled_as}

-- x is the level of place j, and the value there a number of 32 bits
abbrev pub LevelIs : ℕ → List ℕ → List ℤ → List ℕ → List ℕ → List ℕ → ℕ → ℕ → Type 0
LevelIs which vkinds values begins ends order j x = (x ≡ place_level which vkinds values begins ends order j) × (mag (get_or values (get_or order j 0) (pos 0)) < 2147483648)

-- what a call answered of a value, read back, is so of the value
pub level-heard : (which vkind begin end x : ℕ) (v z : ℤ) → v ≡ z → x ≡ level_of which vkind v begin end → x ≡ level_of which vkind z begin end
level-heard which vkind begin end x v z g q = rw g at q

module _ (which : ℕ) (vkinds : List ℕ) (values : List ℤ) (begins ends order : List ℕ) where
  -- what a call answered for the record p,at place j
  pub level-is : (j p x : ℕ) → p ≡ get_or order j 0 → x ≡ level_of which (get_or vkinds p 0) (get_or values p (pos 0)) (get_or begins p 0) (get_or ends p 0) → mag (get_or values p (pos 0)) < 2147483648
      → LevelIs which vkinds values begins ends order j x
  unfolding place_level
  level-is j p x e w h = (rw e at w, rw e at h)

  pub filled-levelled : (i : ℕ) (levels : List ℕ) → Filled (LevelIs which vkinds values begins ends order) i levels → length order ≤ i → length order ≤ length levels → Levelled which vkinds values begins ends order levels
  filled-levelled i levels s h l = record { room = l; level = λ j b. (s.entry j (omega arith)).0; small = λ j b. (s.entry j (omega arith)).1 }

-- x is what the search of record f answers
pub record AskIs (which : ℕ) (values : List ℤ) (start days : List ℕ) (low high : ℤ) (levels below leap : List ℕ) (f x : ℕ) : Type 0 where
  pub under : x ≤ get_or start f 0
  pub small : mag (get_or values f (pos 0)) < 2147483648
  pub found : (member : ℕ → Bool) (m : ℕ) → get_or start f 0 ≤ m → Stacked member (level_at levels) m below leap → (0 < get_or start f 0 → member (get_or start f 0 - 1) ≡ true)
      → Latest member (level_at levels) (bound_of which (get_or values f (pos 0)) low high (get_or days f 0)) (get_or start f 0) x

module _ (which : ℕ) (values : List ℤ) (start days levels below leap : List ℕ) where
  -- from what the two calls answered; v is the value of f, read back
  pub ask_is : (low high : ℤ) (f x bound : ℕ) (v : ℤ) → v ≡ get_or values f (pos 0) → mag (get_or values f (pos 0)) < 2147483648 → bound ≡ bound_of which v low high (get_or days f 0) → x ≤ get_or start f 0
      → ((member : ℕ → Bool) (m : ℕ) → get_or start f 0 ≤ m → Stacked member (level_at levels) m below leap → (0 < get_or start f 0 → member (get_or start f 0 - 1) ≡ true) → Latest member (level_at levels) bound (get_or start f 0) x)
      → AskIs which values start days low high levels below leap f x
  ask_is low high f x bound v g h e u l =
      let q : bound ≡ bound_of which (get_or values f (pos 0)) low high (get_or days f 0) = rw g at e in
      record { under = u; small = h; found = rw q at l }

  pub filled-asked : (low high a b : ℤ) (i : ℕ) (out : List ℕ) → a ≡ low → b ≡ high → Filled (AskIs which values start days a b levels below leap) i out → length values ≤ i → Asked which values start days low high levels below leap out
  filled-asked low high a b i out ea eb s h =
      let w : Filled (AskIs which values start days low high levels below leap) i out = rw (ea, eb) at s in
      record {
        under = λ f l. (w.entry f (omega arith)).under;
        small = λ f l. (w.entry f (omega arith)).small;
        found = λ f l. (w.entry f (omega arith)).found;
      }

-- a search among levels that are those of the places
pub latest_alike : (member : ℕ → Bool) (f g : ℕ → ℕ) (bound n x : ℕ) → ((j : ℕ) → j < n → f j ≡ g j) → Latest member f bound n x → Latest member g bound n x
latest_alike member f g bound n x same l =
    record {
      low = l.low;
      passed = l.passed;
      under = λ p. omega (arith, l.under p, same (x - 1) (omega (arith, l.low)));
      none = λ i a b m. omega (arith, l.none i a b m, same i b);
    }

-- the levels, the stacks and the searches together
pub sought_by : (which : ℕ) (vkinds : List ℕ) (values : List ℤ) (begins ends order prior start days : List ℕ) (low high x y : ℤ) (levels below leap out : List ℕ)
    → x ≡ low → y ≡ high → Sweepable vkinds values begins ends order prior start days → Levelled which vkinds values begins ends order levels → Built levels prior (length order) below leap
    → Asked which values start days x y levels below leap out → Sought which vkinds values begins ends order prior start days low high out
sought_by which vkinds values begins ends order prior start days low high x y levels below leap out ex ey s l b heard =
    let a : Asked which values start days low high levels below leap out = rw (ex, ey) at heard in
    record {
      under = a.under;
      small = a.small;
      small_there = l.small;
      found = λ f h member past c p.
          let u = s.start_low f h in
          latest_alike member _ _ _ _ _ (λ j k. l.level j (omega arith)) (a.found f h member (length order) u (b.stacked member past c) p);
    }

-- where the searches of a record may start and end
module _ (vkinds : List ℕ) (values : List ℤ) (begins ends order prior start days : List ℕ) (s : Sweepable vkinds values begins ends order prior start days) where
  pub sweepable_days : (other : List ℕ) → length values ≤ length other → Sweepable vkinds values begins ends order prior start other
  sweepable_days other h =
      record {
        few = s.few;
        vkind = s.vkind;
        begin = s.begin;
        end = s.end;
        placed = s.placed;
        prior_room = s.prior_room;
        start_room = s.start_room;
        days_room = h;
        start_low = s.start_low;
      }

  pub sweepable_placed : Placed (length ends) order
  sweepable_placed = rw s.end s.placed

  pub sought_low : (which : ℕ) (low high : ℤ) (out : List ℕ) → Sought which vkinds values begins ends order prior start days low high out → (f : ℕ) → f < length values → get_or out f 0 ≤ length order
  sought_low which low high out a f h = omega (arith, a.under f h, s.start_low f h)

-- the searches and what is read off after them; x and y are the bounds, read back
pub settled_by : (vkinds : List ℕ) (values : List ℤ) (begins ends keys order prior start : List ℕ) (low high x y : ℤ) (above beneath until parting out : List ℕ) → x ≡ low → y ≡ high
    → length vkinds ≡ length values → length out ≡ limit
    → Sought 2 vkinds values begins ends order prior start begins x y above → Sought 3 vkinds values begins ends order prior start begins x y beneath
    → ((f : ℕ) → f < length values → get_or until f 0 ≡ end_at ends order (greater (get_or above f 0) (get_or beneath f 0)))
    → Sought 1 vkinds values begins ends order prior start until x y parting
    → ((f : ℕ) → f < length vkinds → get_or out f 0 ≡ settled_as (get_or keys f 0) (length vkinds) (get_or vkinds f 0) (get_or until f 0) (get_or parting f 0))
    → Settled vkinds values begins ends keys order prior start low high out
settled_by vkinds values begins ends keys order prior start low high x y above beneath until parting out ex ey n l a b u p o =
    record {
      room = l;
      above = above;
      beneath = beneath;
      until = until;
      parting = parting;
      aboves = rw (ex, ey) at a;
      beneaths = rw (ex, ey) at b;
      untils = u;
      partings = rw (ex, ey) at p;
      answer = rw n at o;
    }
