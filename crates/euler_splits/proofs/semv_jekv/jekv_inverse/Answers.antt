use Rattle.euler_splits.specs.StepLaws.{jekv_undone}
use Rattle.euler_splits.proofs.semv_jekv.jekv_inverse.Goals as goal

pub returns : goal.returns
returns c = jekv_undone c.args.sh
    c.args.links.now
    c.args.points.now
    c.args.k
    c.args.n
    c.start_of-v.ensures.0
    c.edge_of-e.ensures.0
    c.way_of-w.ensures.0 c.blank.ensures
    c.with_three-divided.ensures c.with_number.ensures c.with_point.ensures
