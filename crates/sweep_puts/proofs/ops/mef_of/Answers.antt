use native.Mathlib.Omega.{arith}
use Rattle.sweep_puts.specs.RiserLaws.{mef_is}
use Rattle.sweep_puts.proofs.ops.mef_of.Goals as goal

pub returns : goal.returns
returns c = mef_is _ _ _ _ _ _ _ (omega arith) (omega arith) (omega arith) (omega arith) (omega arith) (omega arith)
    (omega arith)
