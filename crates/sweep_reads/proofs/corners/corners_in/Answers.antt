use native.Mathlib.Omega.{arith}
use Rattle.sweep_reads.specs.CornerLaws.{round_begin, round_here, round_on, round_none}
use Rattle.sweep_reads.proofs.corners.corners_in.Goals as goal

pub loop-j-init : goal.loop-j-init
loop-j-init c = (omega arith, round_begin _ _ _ _ _ c.loop_first-first.ensures.0 (omega arith))

pub returns-then-k-first : goal.returns-then-k-first
returns-then-k-first c = (
  round_here _ _ _ _ _ _ _ _ c.loop-j.invariant.1 c.next_of-k.ensures.0
      (omega arith) (omega arith),
  omega arith,
)

pub loop-j-preserved : goal.loop-j-preserved
loop-j-preserved c = (
  omega arith,
  round_on _ _ _ _ _ _ _ _ c.loop-j.invariant.1
      c.next_of-k.ensures.0 (omega arith) (λ e. omega (arith, e)),
)

pub returns : goal.returns
returns c = (round_none _ _ _ _ _ _ _ c.loop-j.invariant.1 (omega arith), omega arith)
