-- `rules::fields::rule_fields` meets its contract: each row is what its test ensures.
use Rattle.rules.proofs.Rows.{table}
use Rattle.rules.proofs.fields.rule_fields.Goals as goal

pub returns : goal.returns
returns c =
    table _ c.path_fits.ensures c.distinct_fits.ensures c.field_fits.ensures c.referred_fits.ensures c.bounds_fit.ensures
    c.window_fits.ensures
