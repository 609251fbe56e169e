use native.Mathlib.Omega.{arith}
use Rattle.check_items.specs.JoinLaws.{sides_free, sides_used}
use Rattle.laws.specs.TestLaws.{as_far}
use Rattle.check_items.proofs.joins.half_sides.Goals as goal

pub returns-then-v-eq0 : goal.returns-then-v-eq0
returns-then-v-eq0 c = sides_free _ _ _ (omega arith)

pub returns : goal.returns
returns c = sides_used _ _ _ _ _ _ _ c.side_of.ensures.0
    c.mate_of.ensures.0 c.side_of-2.ensures.0 (omega arith) (omega (arith, as_far))
