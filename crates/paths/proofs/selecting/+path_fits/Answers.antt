-- `paths::selecting::path_fits` meets its contract: no name is left, or the last does not fit, or the item is the root, or it calls itself with one name less.
use Rattle.std.proofs.Common.{ap, not, arith}
use Rattle.paths.proofs.Climbing.{stands-above, climb_none, climb_other, climb_root, climb_up}
use Rattle.paths.proofs.selecting.+path_fits.Goals as goal

pub returns-then-k-eq0 : goal.returns-then-k-eq0
returns-then-k-eq0 t c = λ doc r n m a. climb_none doc r _ _ _ n m a _ _ c.if-k-eq0.true

pub returns-then-not-name_fits : goal.returns-then-not-name_fits
returns-then-not-name_fits t c =
    λ doc r n m a. climb_other doc r _ _ _ n m a _ _ c.if-k-eq0.false _ c.index-item.ensures _ c.name_fits.ensures (ap not c.if-not-name_fits.true)

pub returns-then-item-eq0 : goal.returns-then-item-eq0
returns-then-item-eq0 t c =
    λ doc r n m a. climb_root doc r _ _ _ n m a _ _ c.if-k-eq0.false _ c.index-item.ensures _ c.name_fits.ensures (ap not c.if-not-name_fits.false) c.if-item-eq0.true

pub path_fits-requires : goal.path_fits-requires
path_fits-requires t c =
    (omega arith, (omega (arith, c.requires.0), stands-above _ _ _ c.requires.1 _ c.index-item.ensures c.if-item-eq0.false _ c.index.ensures))

pub returns : goal.returns
returns t c =
    λ doc r n m a.
    climb_up doc r _ _ _ n m a _ _ c.if-k-eq0.false _ c.index-item.ensures _ c.name_fits.ensures (ap not c.if-not-name_fits.false) c.if-item-eq0.false _
    c.index.ensures _ (c.path_fits.ensures doc r n m a)
