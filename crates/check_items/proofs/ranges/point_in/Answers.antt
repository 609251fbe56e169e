use native.Mathlib.Omega.{arith}
use Rattle.check_items.specs.RangeLaws.{point_in_lem}
use Rattle.check_items.proofs.ranges.point_in.Goals as goal

pub returns : goal.returns
returns c = point_in_lem _ _ _ _ _ _ _ _ c.in_range.ensures c.in_range-2.ensures
    c.in_range-3.ensures (omega arith) (omega arith) (omega arith)
