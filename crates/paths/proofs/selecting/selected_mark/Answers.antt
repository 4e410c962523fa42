-- `paths::selecting::selected_mark` meets its contract, at either of its answers.
use mathlib.Core.Path.{refl, sym, ◌∙◌}
use native.Mathlib.Omega.{arith}
use Rattle.marks.proofs.Bytes.{mark-byte}
use Rattle.paths.proofs.Climbing.{tree-stands, selected-other, selected-as}
use Rattle.paths.proofs.selecting.selected_mark.Goals as goal

pub returns-then-records-v-ne2 : goal.returns-then-records-v-ne2
returns-then-records-v-ne2 c = λ doc r t a b. selected-other _ _ _ doc r t _ c.if-records-v-ne2.true

pub path_fits-requires : goal.path_fits-requires
path_fits-requires c = let p = c.requires in (omega (arith, c.from.ensures), tree-stands _ _ _ p.2 _ c.if-records-v-ne2.false)

pub returns : goal.returns
returns c =
    λ doc r t a b. mark-byte _ _ c.from-2.ensures ∙ selected-as _ _ _ doc r t _ c.if-records-v-ne2.false _ (b ∙ sym c.from.ensures) _ _ (c.path_fits.ensures doc r t.name t.parent a) refl
