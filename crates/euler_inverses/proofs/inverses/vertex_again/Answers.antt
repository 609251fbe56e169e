use Rattle.euler_inverses.specs.Chosen.{jekv_undone}
use Rattle.euler_inverses.proofs.inverses.vertex_again.Goals as goal

pub returns : goal.returns
returns c = jekv_undone c.args.sh _ _ _ c.next_of-n.ensures.0 c.jekv_inverse.ensures
