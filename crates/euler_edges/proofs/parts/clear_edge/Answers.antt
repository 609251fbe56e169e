use Rattle.euler_edges.specs.Parts.{clear_edge}
use Rattle.euler_edges.proofs.parts.clear_edge.Goals as goal

pub returns : goal.returns
unfolding clear_edge
returns c = cc
