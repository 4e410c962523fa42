-- `paths::selecting::path_fits` calls itself with one name less.
use Rattle.paths.proofs.selecting.+path_fits.Given as goal

abbrev pub decreases-path_fits : goal.decreases-path_fits
decreases-path_fits l = l.k
