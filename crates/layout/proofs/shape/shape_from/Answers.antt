use native.Mathlib.Omega.{arith}
use Rattle.layout.specs.LayoutLaws.{shape_is}
use Rattle.layout.proofs.shape.shape_from.Goals as goal

pub returns : goal.returns
returns c = shape_is _ _ _ _ _ _ _ _ _ (omega arith) (omega arith) (omega arith) (omega arith)
