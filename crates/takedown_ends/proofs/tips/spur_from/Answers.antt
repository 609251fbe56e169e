use Rattle.std.proofs.Common.{rules, arith}
use Rattle.takedown_search.specs.Sought.{seek_by}
use Rattle.takedown_ends.specs.EndsLaws.{spur_sought, spur_tip}
use Rattle.takedown_ends.proofs.tips.spur_from.Goals as goal

pub returns-then-t-n : goal.returns-then-t-n
returns-then-t-n c = (
  spur_sought _ _ _ _ c.least_tip-t.ensures.0 c.if-t-n.true _
      (seek_by _ c.seek.ensures.0 (λ k l u b p. search rules)),
  omega (arith, c.seek.ensures.1),
)

pub returns : goal.returns
returns c = (
  spur_tip _ _ _ _ c.least_tip-t.ensures.0 c.if-t-n.false,
  omega (arith, c.least_tip-t.ensures.1),
)
