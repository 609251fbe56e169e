use Rattle.euler_inverses.specs.Chosen.{mef_undone}
use Rattle.euler_inverses.proofs.inverses.edge_again.Goals as goal

pub returns : goal.returns
returns c = mef_undone c.args.e c.args.w
    c.half_by-a.ensures.0 c.mate_of-b.ensures.0 c.mef_inverse.ensures
