-- A reference on days: the columns of its supplies, and what the finder promises of it.
use Rattle.std.specs.Prelude.{◌≡◌, List, ℕ, ◌≤◌, ◌<◌, length}
use Rattle.passes.specs.Passes.{at, On, Present}
use Rattle.passes.specs.declared.Spans.{Spans}
use Rattle.pieces.specs.Lone.{Alone}
use Rattle.pieces.specs.declared.apart.Line.{Line}

-- each of n records has the representative of its sole one, if that is one of the n
pub record SoleKeys (n : ℕ) (sole reps keys : List ℕ) : Type 0 where
  pub room : n ≤ length keys
  pub key : (x : ℕ) → x < n → at sole x < n → at keys x ≡ at reps (at sole x)

-- a list of some of n records
pub record Below (list : List ℕ) (n : ℕ) : Type 0 where
  pub below : (j : ℕ) → j < length list → at list j < n

-- what is demanded of each of n records; and from where, by which key and up to where each supplies
pub record Columns (n : ℕ) (demand from supply to : List ℕ) : Type 0 where
  pub demands : n ≤ length demand
  pub froms : n ≤ length from
  pub supplies : n ≤ length supply
  pub tos : n ≤ length to

-- D is no later than any place at which a demand is present, and no supply of its key by any of n records is
unfoldable pub ByAny : (order lo demand dhi from supply to : List ℕ) (n D : ℕ) → Type 0
ByAny order lo demand dhi from supply to n D =
    (x p : ℕ) → On order x → at demand x < n → Present lo dhi x p
    → ((y : ℕ) → y < n → at supply y ≡ at demand x → Present from to y p → ⊥) → D ≤ p

-- the same of demands along a line and of what the n records supply
abbrev pub AnyOf : Line → Spans → ℕ → ℕ → Type 0
AnyOf d s n D = ByAny d.order.now d.spans.lo.now d.spans.key.now d.spans.hi.now s.lo.now s.key.now s.hi.now n D

-- D is no later than any place at which a record in a row is present, and no record that has its representative is alone in one of the other rows
unfoldable pub ByUnmatched : (order rows others reps lo hi : List ℕ) (n D : ℕ) → Type 0
ByUnmatched order rows others reps lo hi n D =
    (x p : ℕ) → On order x → at rows x < n → Present lo hi x p
    → ((y : ℕ) → at others y < n → at reps y ≡ at reps x → Alone order others lo hi (at others y) y p → ⊥) → D ≤ p
