use Rattle.std.proofs.Common.{rules}
use Rattle.euler.specs.FaceOperators.{rmov_test}
use Rattle.euler_rings.proofs.rings.rmov_fits.Goals as goal

pub returns-then-f-loop_face : goal.returns-then-f-loop_face
unfolding rmov_test
returns-then-f-loop_face c = search rules

pub returns-else-f-loop_face : goal.returns-else-f-loop_face
unfolding rmov_test
returns-else-f-loop_face c = search rules

pub returns-else-is_ring : goal.returns-else-is_ring
unfolding rmov_test
returns-else-is_ring c = search rules
