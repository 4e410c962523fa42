-- `descent::slice_columns` meets its contract: the chains are those of the document, and the versions present are marked and stored.
use mathlib.Core.Path.{◌∙◌, ap}
use Rattle.meaning.specs.Reading.{Accepted}
use Rattle.meaning.specs.Answer.{storing, lent_after}
use Rattle.descent.proofs.Linking.{linked}
use Rattle.descent.proofs.Looking.{listed-slice}
use Rattle.descent.proofs.slice_columns.Goals as goal

pub present_on-seen-requires : goal.present_on-seen-requires
present_on-seen-requires c =
    let p = c.requires in
    (p.0, linked p.1 p.2 p.3 p.4 p.5 c.chain-versions.ensures c.chain-items.ensures)

pub returns : goal.returns
returns c =
    let x = c.args in
    let stored = c.store_marked in
    let same = listed-slice c.chain-versions.ensures c.chain-items.ensures x.d c.present_on-seen.ensures in record {
      answer = λ doc k p w g s. stored.ensures.answer ∙ ap (λ l. storing Accepted l x.out.now) (same doc k p w g s);
      lent = λ doc k p w g s. stored.ensures.lent ∙ ap (λ l. lent_after stored.result l x.out.now) (same doc k p w g s);
    }
