use native.Mathlib.Omega.{arith}
use Rattle.numbers.specs.NumberLaws.{size_1, size_2, size_3}
use Rattle.numbers.proofs.number_size.Goals as goal

-- by `omega` from what each size is, so that another answer is refused with a number at which it fails

pub returns-then-n-lt128 : goal.returns-then-n-lt128
returns-then-n-lt128 c = omega (arith, size_1 c.args.n (omega arith))

pub returns-then-n-lt16384 : goal.returns-then-n-lt16384
returns-then-n-lt16384 c = omega (arith, size_2 c.args.n (omega arith) (omega arith))

pub returns : goal.returns
returns c = omega (arith, size_3 c.args.n (omega arith))
