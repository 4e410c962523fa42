-- `document::records::depth_at` meets its contract. Assumes nothing.
use mathlib.Core.Path.{◌≡◌, refl, ap}
use mathlib.Core.Bool.{Bool, true, false, cond}
use mathlib.Core.List.{List}
use Prim.Native.Nat.{ℕ, ◌+◌, ◌≤◌}
use native.Mathlib.Omega.{arith}
use mir.Val.{bool_byte}
use lib.Dec.{eqb}
use lib.ListN.{get_or}
use borrow.Author.Tests.{eq-eqb, ne_eqb}
use Rattle.document.specs.Decoding.{depth_by}
use Rattle.document.proofs.records.depth_at.Goals as goal

-- a test as a number
own : (b : Bool) → (bool_byte b ≡ cond {A = ℕ} b 1 0) × (bool_byte b ≤ 1)
own true = (refl, omega arith)
own false = (refl, omega arith)

module _ (kind parent : ℕ) (deep : List ℕ) (i : ℕ) where
  at-root : i ≡ 0 → bool_byte (eqb kind 1) ≡ depth_by kind parent deep i
  unfolding depth_by
  at-root z = rw (eq-eqb i 0 z) (omega (arith, (own (eqb kind 1)).0))

  below_root : (p : ℕ) → (i ≡ 0 → ⊥) → p ≡ parent → bool_byte (eqb kind 1) + get_or deep p 0 ≡ depth_by kind parent deep i
  unfolding depth_by
  below_root p z e = rw (e, ne_eqb i 0 z, (own (eqb kind 1)).0)

pub returns-then-i-eq0 : goal.returns-then-i-eq0
returns-then-i-eq0 c = at-root _ _ _ _ c.if-i-eq0.true

pub bounds-deep-p : goal.bounds-deep-p
bounds-deep-p c = omega (arith, (c.requires c.if-i-eq0.false).0, c.index-p.ensures)

pub overflow_add-result : goal.overflow_add-result
overflow_add-result c =
    let room = (c.requires c.if-i-eq0.false).1 in
    omega (arith, room, ap (λ p. get_or c.args.deep.now p 0) c.index-p.ensures, (own (eqb c.args.kind 1)).1)

pub returns : goal.returns
returns c = below_root _ _ _ _ _ c.if-i-eq0.false c.index-p.ensures
