-- `sharing::row::take_value` meets its contract: another has the value, or it is held now.
use mathlib.Core.Path.{refl}
use Rattle.sharing.proofs.Claiming.{took_none, took_it}
use Rattle.sharing.proofs.row.take_value.Goals as goal

pub returns-then-held-mine : goal.returns-then-held-mine
returns-then-held-mine c = took_none _ _ c.index-x.ensures c.if-held-mine.true

pub returns : goal.returns
returns c = took_it _ _ c.index-x.ensures c.if-held-mine.false refl
