use native.Mathlib.Omega.{arith}
use Rattle.layout.proofs.columns.side_of.Goals as goal

pub returns : goal.returns
returns c = (cc, omega arith)
