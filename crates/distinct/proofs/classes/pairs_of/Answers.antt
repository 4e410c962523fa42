-- `distinct::classes::pairs_of` meets its contract: the chains lead along the records of a key, and none has a class at first.
use mathlib.Core.Path.{refl}
use Rattle.distinct.proofs.Classing.{linked_all, stand_none}
use Rattle.distinct.proofs.classes.pairs_of.Goals as goal

pub pair_keys-requires : goal.pair_keys-requires
pair_keys-requires c =
    let p = c.requires in
    (p, linked_all _ _ _ _ _ p.few p.few c.chain-links.ensures, p.few, p.few, stand_none _ _ _ _ _ refl p.few)
