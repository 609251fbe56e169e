use native.Mathlib.Omega.{arith}
use Rattle.numbers.specs.Groups.{masked}
use Rattle.numbers.proofs.low_group.Goals as goal

pub overflow_cast-result : goal.overflow_cast-result
overflow_cast-result c = omega (arith, masked c.args.n)

pub returns : goal.returns
returns c = omega (arith, masked c.args.n)
