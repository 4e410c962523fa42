-- `nodes::read_nodes` meets its contract: the answer beside the columns is the image's.
use Rattle.std.proofs.Common.{◌≡◌, sym, ap, ◌∙◌, rules}
use Rattle.meaning.specs.Reading.{Refused}
use Rattle.meaning.specs.Answer.{tell_reading}
use Rattle.nodes.proofs.Held.{refused_image, held-image}
use Rattle.nodes.proofs.read_nodes.Goals as goal

pub returns-in_err-columns : goal.returns-in_err-columns
returns-in_err-columns c =
    let same : c.from_residual.result ≡ Refused c.in_err-columns.field-0.0.number c.in_err-columns.field-0.0.place = search (rules, c.from_residual.ensures) in
    ap tell_reading (same ∙ sym (refused_image _ c.read_columns-columns.ensures.answer c.in_err-columns.was))

pub returns : goal.returns
returns c = ap tell_reading (sym (held-image _ c.read_columns-columns.ensures.answer c.in_ok-columns.was).accepted)
