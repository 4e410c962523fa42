-- `block::record_at` meets its contract: the first k records of a block take no more than all of a full one.
use Rattle.std.proofs.Common.{refl, mul-le-mul_left, arith}
use Rattle.block.proofs.record_at.Goals as goal

pub overflow_mul-result : goal.overflow_mul-result
overflow_mul-result c = record { fits = omega (arith, mul-le-mul_left c.args.form.size c.requires.1) }

pub overflow_add-result : goal.overflow_add-result
overflow_add-result c = record { fits = omega (arith, mul-le-mul_left c.args.form.size c.requires.1) }

pub returns : goal.returns
returns c = record { place = refl; room = omega (arith, mul-le-mul_left c.args.form.size c.requires.1) }
