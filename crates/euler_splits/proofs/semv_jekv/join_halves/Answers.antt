use Rattle.euler_splits.specs.Parts.{join_halves}
use Rattle.euler_splits.proofs.semv_jekv.join_halves.Goals as goal

pub returns : goal.returns
unfolding join_halves
returns c = rw (
  c.set_start.ensures,
  c.tie_halves-2.ensures,
  c.prev_of-p.ensures.0,
  c.tie_halves.ensures,
  c.next_of-o.ensures.0,
  c.start_of-u.ensures.0,
  c.mate_of-nm.ensures.0,
  c.mate_of-km.ensures.0,
)
