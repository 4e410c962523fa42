-- `passes::crowded` meets its contract: every record is counted, and no count is above what is allowed.
use mathlib.Core.Path.{◌∙◌}
use Prim.Native.Nat.{ℕ, ◌<◌}
use native.Mathlib.Omega.{arith}
use borrow.Author.Rules.{rules}
use Rattle.std.proofs.lemmas.List.{length-take, get_or-take}
use Rattle.passes.proofs.Clearing.{cleared}
use Rattle.passes.proofs.Crowding.{counted_none, counted-fits, counted_skip, counted-more, counted-end}
use Rattle.passes.proofs.crowded.Goals as goal
use Rattle.passes.proofs.crowded.Goals.{then-k-room+else-most-index, else-k-room}

pub loop-number-init : goal.loop-number-init
loop-number-init c = counted_none _ _ _ _ (cleared c.args.room c.fill.new.self _ (search rules))

pub overflow_add-tally : goal.overflow_add-tally
overflow_add-tally c =
    omega (arith, counted-fits _ _ _ _ _ c.loop-number.invariant c.index-k.result (omega arith), length-take {A = ℕ})

pub loop-number-preserved : goal.loop-number-preserved
loop-number-preserved c =
    let s = c.loop-number.invariant in
    let i = c.loop-number.number-index in
    let within : i < c.args.n = omega (arith, length-take {A = ℕ}) in
    let ek = c.index-k.ensures ∙ get_or-take c.args.n c.args.key.now i 0 within in
    elim c.if-k-room.branch [
      | then-k-room+else-most-index w ↦ rw w.tally-is (counted-more _ _ _ _ _ s _ ek (omega arith) (omega arith))
      | else-k-room w ↦ rw w.tally-is (counted_skip _ _ _ _ _ s (omega (arith, ek)))
    ]

pub returns : goal.returns
returns c = λ e. counted-end _ _ _ _ _ c.loop-number.invariant _ (omega (arith, length-take {A = ℕ}))
