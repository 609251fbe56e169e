use Rattle.std.proofs.Common.{◌∙◌, arith}
use Rattle.takedown_ends.specs.Walks.{min_lesser}
use Rattle.takedown_ends.specs.EndsLaws.{tip_taken, tip_left}
use Rattle.takedown_ends.proofs.tips.with_tip.Goals as goal

pub returns-then-tip-e : goal.returns-then-tip-e
returns-then-tip-e c = (
  tip_taken _ _ _ _ _ _ c.is_spur-spur.ensures c.if-tip-e.true _
      (c.min.ensures ∙ min_lesser _ _),
  omega (arith, c.min.ensures),
)

pub returns : goal.returns
returns c = (tip_left _ _ _ _ _ _ c.is_spur-spur.ensures c.if-tip-e.false, omega arith)
