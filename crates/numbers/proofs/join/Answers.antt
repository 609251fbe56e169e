use native.Mathlib.Omega.{arith}
use Rattle.numbers.specs.Groups.{joined}
use Rattle.numbers.proofs.join.Goals as goal

-- by `omega` from what mask, shift and join are, so that other bits are refused with numbers at which it fails

pub returns : goal.returns
returns c = let j = joined c.args.low c.args.high c.requires in omega (arith, j.0, j.1)
