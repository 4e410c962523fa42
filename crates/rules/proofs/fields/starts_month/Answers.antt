-- `rules::fields::starts_month` meets its contract.
use mathlib.Core.Path.{◌≡◌, refl, ap, ◌∙◌}
use Prim.Native.Nat.{ℕ}
use Rattle.std.specs.Prelude.{Option, Some, None}
use Rattle.std.specs.Option.{is_some}
use Rattle.meaning.specs.Rules.{is_month}
use Rattle.rules.proofs.fields.starts_month.Goals as goal

some-month : (m : Option ℕ) → is_some m ≡ is_month m
some-month (Some k) = refl
some-month None = refl

pub returns : goal.returns
returns c = c.is_some.ensures ∙ some-month _ ∙ ap is_month c.month_on.ensures
