-- `window::layout::keys_of` meets its contract: the keys are those of the selected versions and the holders.
use Rattle.window.proofs.Spreading.{steps-few}
use Rattle.window.proofs.layout.keys_of.Goals as goal

pub mark_selected-chosen-requires : goal.mark_selected-chosen-requires
mark_selected-chosen-requires c =
    let p = c.requires in
    (steps-few _ p.0, (p.1.0, p.1.1, p.1.3))

pub returns : goal.returns
returns c =
    λ doc t v. c.keys.ensures doc v.vkind v.value (c.mark_selected-chosen.ensures doc t) (c.holders-holder.ensures doc t)
