use native.Mathlib.Omega.{arith}
use Rattle.sweep_reads.specs.CornerLaws.{of_yes, of_no}
use Rattle.sweep_reads.proofs.corners.corners_of.Goals as goal

pub returns-then-loop_face-f : goal.returns-then-loop_face-f
returns-then-loop_face-f c = (
  of_yes _ _ _ _ _ _ c.loop_face.ensures.0 c.if-loop_face-f.true
      c.corners_in.ensures.0,
  c.corners_in.ensures.1,
)

pub returns : goal.returns
returns c = (of_no _ _ _ _ _ c.loop_face.ensures.0 c.if-loop_face-f.false, omega arith)
