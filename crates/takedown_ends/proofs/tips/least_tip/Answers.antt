use native.Mathlib.Omega.{arith}
use Rattle.takedown_ends.specs.EndsLaws.{tips_tried}
use Rattle.takedown_ends.proofs.tips.least_tip.Goals as goal

pub returns : goal.returns
returns c = (
  tips_tried _ _ _ _ _ _ _ c.with_tip-a.ensures.0
      c.with_tip-b.ensures.0 c.with_tip-c.ensures.0 c.with_tip.ensures.0,
  omega (
    arith,
    c.with_tip-a.ensures.1,
    c.with_tip-b.ensures.1,
    c.with_tip-c.ensures.1,
    c.with_tip.ensures.1,
  ),
)
