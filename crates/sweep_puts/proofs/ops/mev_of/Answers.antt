use native.Mathlib.Omega.{arith}
use Rattle.sweep_puts.specs.RiserLaws.{mev_is}
use Rattle.sweep_puts.proofs.ops.mev_of.Goals as goal

pub returns : goal.returns
returns c = mev_is _ _ _ _ _ _ _ (omega arith) (omega arith) (omega arith) (omega arith) c.ranges.x c.ranges.y
    c.ranges.z
