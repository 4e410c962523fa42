-- The versions in two orders are what change days are stored along.
use mathlib.Core.Path.{◌≡◌, ◌∙◌}
use mathlib.Core.Bool.{true}
use mathlib.Core.List.{List}
use Prim.Native.Nat.{ℕ, ◌-◌, ◌≤◌, ◌<◌}
use native.Mathlib.Omega.{arith}
use lib.Dec.{eqb}
use lib.ListN.{length, get_or, take, length-take}
use lib.Seq.{get_or-take}
use Rattle.meaning.specs.declared.Rule.{Rule}
use Rattle.meaning.specs.Document.{Doc, is_version}
use Rattle.meaning.specs.Rules.{rule_fields}
use Rattle.meaning.proofs.Tables.{rule_row}
use Rattle.columns.specs.Lent.{Lends, Periods}
use Rattle.orders.specs.Order.{InOrder}
use Rattle.orders.proofs.Versions.{versions}
use Rattle.changes.specs.Merging.{Sorted, Walkable}
use Rattle.changes.proofs.Merged.{walkable}
use Rattle.lists.specs.Lending.{Along}

-- a period has a day
pub begins_before : (r : Rule) → rule_fields r ≡ true → r.begin < r.end
begins_before r f = omega (arith, ((rule_row r).0 f).period)

-- the front of an order of m versions, by itself
module _ (doc : Doc) (day : ℕ → ℕ) (column order : List ℕ) (m : ℕ) (l : Lends doc.size day 0 column) (o : InOrder (is_version doc) column order m) where
  size : length (take (m - 0) order) ≡ m
  size = simp length-take (omega (arith, o.room))

  same : (i : ℕ) → i < m → get_or (take (m - 0) order) i 0 ≡ get_or order i 0
  same i h = get_or-take (m - 0) order i 0 (omega arith)

  pub sorted : Sorted doc day (take (m - 0) order)
  sorted =
      record {
        stands = λ x e. let a = o.all x e in (o.place x, omega (arith, a.0, size), same (o.place x) a.0 ∙ a.1);
        version = λ j h. rw (same j (omega (arith, size))) (o.once j (omega (arith, size))).0;
        rising = λ i j h k.
            rw (same i (omega (arith, size)), same j (omega (arith, size)), ← l.at (get_or order i 0), ← l.at (get_or order j 0)) (o.rising i j h (omega (arith, size)));
      }

-- both orders, to be walked along
module _ {doc : Doc} {begins ends opens closes : List ℕ} {opened closed : ℕ} (a : Along doc begins ends opens opened closes closed) where
  pub by-begins : Sorted doc doc.begin (take (opened - 0) opens)
  by-begins = sorted doc doc.begin begins opens opened a.periods.begin a.by_begin

  pub by-ends : Sorted doc doc.end (take (closed - 0) closes)
  by-ends = sorted doc doc.end ends closes closed a.periods.end a.by_end

  module _ {own referred : List ℕ} (h : doc.size ≤ length own) (k : doc.size ≤ length referred) where
    pub begins-walked : Walkable (take (opened - 0) opens) begins own referred
    begins-walked = walkable by-begins a.periods.begin h k

    pub ends-walked : Walkable (take (closed - 0) closes) ends own referred
    ends-walked = walkable by-ends a.periods.end h k

-- the orders that sorting gives
module _ (doc : Doc) (kinds : List ℕ) (l : Lends doc.size doc.kind 0 kinds) where
  pub along : {begins ends opens closes : List ℕ} {opened closed : ℕ} → Periods doc begins ends → InOrder (λ x. eqb (get_or kinds x 0) 2) begins opens opened
      → InOrder (λ x. eqb (get_or kinds x 0) 2) ends closes closed → Along doc begins ends opens opened closes closed
  along w o c = record { periods = w; by_begin = versions doc kinds l o; by_end = versions doc kinds l c }
