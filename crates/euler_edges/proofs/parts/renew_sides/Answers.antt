use Rattle.euler_edges.specs.Parts.{renew_sides}
use Rattle.euler_edges.proofs.parts.renew_sides.Goals as goal

pub returns : goal.returns
unfolding renew_sides
returns c = cc
