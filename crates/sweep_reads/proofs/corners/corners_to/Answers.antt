use native.Mathlib.Omega.{arith}
use Rattle.sweep_reads.specs.CornerLaws.{to_none, to_more, to_end}
use Rattle.sweep_reads.proofs.corners.corners_to.Goals as goal

pub loop-l-init : goal.loop-l-init
loop-l-init c = (to_none _ _ _, omega arith)

pub loop-l-preserved : goal.loop-l-preserved
loop-l-preserved c = (
  to_more _ _ _ _ _ _ _ c.loop-l.invariant.0 c.corners_of-sum.ensures.0
      (omega arith),
  omega arith,
)

pub returns : goal.returns
returns c = to_end _ _ _ c.loop-l.l c.args.sh.loops c.loop-l.sum (omega arith) (omega arith) (omega arith)
    (c.loop-l.invariant.0, c.loop-l.invariant.1) (omega arith)
