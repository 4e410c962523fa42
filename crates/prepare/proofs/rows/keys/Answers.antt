-- `prepare::rows::keys` meets its contract: below f each record has its key.
use mathlib.Core.Path.{refl, sym, ◌∙◌}
use native.Mathlib.Omega.{arith}
use lib.ListN.{get_or, length-set}
use lib.IntN.{pos}
use mir.Syntax.{w32}
use Rattle.numbers.proofs.Signs.{given}
use Rattle.prepare.proofs.Filling.{filled_none, filled-store}
use Rattle.prepare.proofs.Keying.{filled-keys}
use Rattle.prepare.proofs.rows.keys.Goals as goal

pub loop-f-init : goal.loop-f-init
loop-f-init c = (refl, λ doc a b m h. filled_none _ _)

pub loop-f-preserved : goal.loop-f-preserved
loop-f-preserved c =
    let s = c.loop-f in
    let value = given w32 {z = get_or c.args.value.now s.f (pos 0)} (omega arith) in (
      simp length-set s.invariant.0,
      λ doc a b m h.
          let matters = c.wanted-matters.ensures doc _ (sym (a.at s.f)) (sym (value ∙ b.at s.f)) in
          filled-store _ (s.invariant.1 doc a b m h) (omega arith) _ (c.key.ensures doc _ (sym a.size) m h matters),
    )

pub returns : goal.returns
returns c =
    let s = c.loop-f in
    λ doc a b m h. filled-keys doc _ _ _ (s.invariant.1 doc a b m h) (omega (arith, a.size)) (omega (arith, a.size))
