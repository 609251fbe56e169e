use native.Mathlib.Omega.{arith}
use Rattle.check_items.specs.RangeLaws.{with_any, with_none}
use Rattle.laws.specs.TestLaws.{as_far}
use Rattle.check_items.proofs.ranges.goes_with.Goals as goal

pub returns-then-a-ne0 : goal.returns-then-a-ne0
returns-then-a-ne0 c = with_any _ _ (omega arith)

pub returns : goal.returns
returns c = with_none _ _ _ (omega arith) (omega (arith, as_far))
