-- `rules::fields::window_fits` meets its contract, unit by unit.
use Rattle.rules.proofs.Rows.{whole_period, in_days, in_months, no_window}
use Rattle.rules.proofs.fields.window_fits.Goals as goal

pub returns-in-0 : goal.returns-in-0
returns-in-0 c = whole_period _ c.in-0.is

pub returns-in-1 : goal.returns-in-1
returns-in-1 c = in_days _ c.in-1.is c.lengths_fit.ensures

pub returns-in-2 : goal.returns-in-2
returns-in-2 c = in_months _ c.in-2.is c.lengths_fit-in-2.ensures c.starts_month.ensures

pub returns-in_default : goal.returns-in_default
returns-in_default c =
    let n = c.in_default.in_default-own.rest in
    no_window _ _ n.0.0.1 n.0.1 n.1
