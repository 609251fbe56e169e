use native.Mathlib.Omega.{arith}
use Rattle.numbers.specs.NumberLaws.{groups_size}
use Rattle.sweep_puts.specs.RiserLaws.{kef_size}
use Rattle.sweep_puts.proofs.ops.kef_size.Goals as goal

pub overflow_add-result : goal.overflow_add-result
overflow_add-result c = record { fits = omega (arith, c.number_size.ensures, (groups_size c.down_of.result).1) }

pub returns : goal.returns
returns c = (
  kef_size _ _ _ c.down_of.ensures.0 c.number_size.ensures,
  omega (arith, c.number_size.ensures, (groups_size c.down_of.result).1),
)
