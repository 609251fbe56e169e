use Rattle.euler.specs.Surgery.{edge_out}
use Rattle.euler_surgery.proofs.surgery.edge_out.Goals as goal

pub returns : goal.returns
unfolding edge_out
returns c = rw (
  c.clear_half-2.ensures,
  c.clear_half.ensures,
  c.tie_halves-2.ensures,
  c.tie_halves.ensures,
  c.mate_of-m.ensures.0,
)
