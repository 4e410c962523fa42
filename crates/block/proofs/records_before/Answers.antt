-- `block::records_before` meets its contract: small numbers.
use Rattle.std.proofs.Common.{refl, le_of_lt, mul-le-mul, arith}
use Rattle.block.proofs.records_before.Goals as goal

pub overflow_mul-result : goal.overflow_mul-result
overflow_mul-result c = record { fits = omega (arith, mul-le-mul c.requires.0 (le_of_lt c.requires.1)) }

pub returns : goal.returns
returns c = (refl, omega (arith, mul-le-mul c.requires.0 (le_of_lt c.requires.1)))
