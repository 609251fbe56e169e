use Rattle.euler_splits.specs.StepLaws.{semv_steps}
use Rattle.euler_splits.proofs.semv_jekv.semv_links.Goals as goal

pub returns : goal.returns
returns c = semv_steps _ _ _ _ _
    c.mate_of-km.ensures.0
    c.mate_of-nm.ensures.0
    c.loop_of-l.ensures.0
    c.loop_of-o.ensures.0
    c.start_of-u.ensures.0
    c.loop_first-first.ensures.0
    c.loop_first-second.ensures.0
    c.lower-new.ensures.0
    c.lower-low.ensures.0
    c.lower-low2.ensures.0
    c.insert_after.ensures
    c.prev_of-p.ensures.0
    c.insert_after-2.ensures
    c.set_start.ensures
    c.renew_sides.ensures
    c.set_vertex_used.ensures
