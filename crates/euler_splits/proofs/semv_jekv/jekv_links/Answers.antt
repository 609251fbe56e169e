use Rattle.euler_splits.specs.StepLaws.{jekv_steps}
use Rattle.euler_splits.proofs.semv_jekv.jekv_links.Goals as goal

pub returns : goal.returns
returns c = jekv_steps _ _ _ _
    c.mate_of-km.ensures.0
    c.loop_of-l.ensures.0
    c.loop_of-o.ensures.0
    c.start_of-v.ensures.0
    c.loop_first-first.ensures.0
    c.loop_first-second.ensures.0
    c.join_halves.ensures
    c.clear_edge.ensures
    c.renew_sides.ensures
    c.set_vertex_used.ensures
