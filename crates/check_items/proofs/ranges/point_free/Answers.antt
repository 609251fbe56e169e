use native.Mathlib.Omega.{arith}
use Rattle.check_items.specs.RangeLaws.{free_used, free_zero}
use Rattle.check_items.proofs.ranges.point_free.Goals as goal

pub returns-then-u-ne0 : goal.returns-then-u-ne0
returns-then-u-ne0 c = free_used _ _ _ (omega arith)

pub returns : goal.returns
returns c = free_zero _ _ _ _ _ _ (omega arith) c.is_zero.ensures c.is_zero-2.ensures
    c.is_zero-3.ensures
