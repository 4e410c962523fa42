-- `places::place_at` meets its contract: the days of two units, the later one clipped.
use mathlib.Core.Path.{refl}
use native.Mathlib.Omega.{arith}
use Rattle.places.specs.Placing.{start_of, end_of}
use Rattle.places.proofs.Days.{clipped}
use Rattle.places.proofs.Bounds.{way_most}
use Rattle.places.proofs.place_at.Goals as goal

pub overflow_mul-start : goal.overflow_mul-start
overflow_mul-start c =
    record { fits = omega (arith, way_most _ c.requires.1 c.args.k c.requires.2) }

pub overflow_add-start : goal.overflow_add-start
overflow_add-start c =
    record { fits = omega (arith, c.requires.1.first_most, way_most _ c.requires.1 c.args.k c.requires.2) }

pub overflow_add-start-2 : goal.overflow_add-start-2
overflow_add-start-2 c =
    record { fits = omega (arith, c.requires.1.first_most, c.requires.1.span_most, way_most _ c.requires.1 c.args.k c.requires.2) }

pub returns : goal.returns
unfolding start_of end_of
returns c =
    record {
      from = c.unit_day-from.ensures;
      to = clipped _ _ _ _ c.unit_day-past.ensures c.min-to.ensures;
      number = refl;
      shortened = refl;
    }
