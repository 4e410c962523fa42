-- `descent::present_on` meets its contract: what is come to from the root is what is present.
use Rattle.descent.proofs.Looking.{marks-present}
use Rattle.descent.proofs.present_on.Goals as goal

pub returns : goal.returns
returns c =
    let looked = c.look_item in
    λ doc l. marks-present l _ _ looked.auto.seen (looked.ensures doc l)
