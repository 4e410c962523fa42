-- The pass for gaps with supplies in an order of their own: what it is given, what it promises, and which one it takes next.
use Rattle.std.specs.Prelude.{◌≡◌, Bool, true, false, List, ℕ, ◌≤◌, ◌<◌, length}
use Rattle.passes.specs.Passes.{at, On, Rising, Covers, Present}
use Rattle.pieces.specs.declared.apart.Line.{Line}

-- columns that have a number for each record of their order, the demands rising by lo, and scratch arrays with an entry for each key
pub record GivenApart (order lo demand dhi supplies from supply shi : List ℕ) (room : ℕ) (reach need : List ℕ) : Type 0 where
  pub los : Covers order lo
  pub demands : Covers order demand
  pub dhis : Covers order dhi
  pub froms : Covers supplies from
  pub keys : Covers supplies supply
  pub shis : Covers supplies shi
  pub rising : Rising order lo
  pub reaches : room ≤ length reach
  pub needs : room ≤ length need

-- D is no later than any place at which a demand is present, and no supply of its key is
unfoldable pub ByGapApart : (order lo demand dhi supplies from supply shi : List ℕ) (room D : ℕ) → Type 0
ByGapApart order lo demand dhi supplies from supply shi room D =
    (x p : ℕ) → On order x → at demand x < room → Present lo dhi x p
    → ((y : ℕ) → On supplies y → at supply y ≡ at demand x → Present from shi y p → ⊥) → D ≤ p

-- the same of two lines
abbrev pub GivenLines : Line → Line → ℕ → List ℕ → List ℕ → Type 0
GivenLines d s room reach need =
    GivenApart d.order.now d.spans.lo.now d.spans.key.now d.spans.hi.now s.order.now s.spans.lo.now s.spans.key.now s.spans.hi.now room reach need

abbrev pub ByGapLines : Line → Line → ℕ → ℕ → Type 0
ByGapLines d s room D =
    ByGapApart d.order.now d.spans.lo.now d.spans.key.now d.spans.hi.now s.order.now s.spans.lo.now s.spans.key.now s.spans.hi.now room D

-- the next is the demand at i; or it is the supply at j, which begins no later than the demand at i
pub record Turn (order lo : List ℕ) (i : ℕ) (supplies from : List ℕ) (j : ℕ) (r : Bool) : Type 0 where
  pub demand : r ≡ true → i < length order
  pub supply : r ≡ false → j < length supplies
  pub no_later : r ≡ false → i < length order → at from (at supplies j) ≤ at lo (at order i)
