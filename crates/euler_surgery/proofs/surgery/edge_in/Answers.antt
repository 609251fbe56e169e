use Rattle.euler.specs.Surgery.{edge_in}
use Rattle.euler_surgery.proofs.surgery.edge_in.Goals as goal

pub returns : goal.returns
unfolding edge_in
returns c = rw (
  c.set_between-2.ensures,
  c.set_between.ensures,
  c.put_half-2.ensures,
  c.put_half.ensures,
  c.mate_of-m.ensures.0,
)
