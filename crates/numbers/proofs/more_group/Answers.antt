use native.Mathlib.Omega.{arith}
use Rattle.numbers.specs.Groups.{marked}
use Rattle.numbers.proofs.more_group.Goals as goal

pub overflow_cast-result : goal.overflow_cast-result
overflow_cast-result c = omega (arith, marked c.args.n)

pub returns : goal.returns
returns c = omega (arith, marked c.args.n)
