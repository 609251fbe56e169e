use Rattle.std.proofs.Common.{rules}
use Rattle.euler.specs.FaceOperators.{rmov_links}
use Rattle.euler_rings.proofs.rings.rmov_links.Goals as goal

pub returns-then-f-loop_face : goal.returns-then-f-loop_face
unfolding rmov_links
returns-then-f-loop_face c = search rules

pub returns-else-f-loop_face : goal.returns-else-f-loop_face
unfolding rmov_links
returns-else-f-loop_face c = search rules
