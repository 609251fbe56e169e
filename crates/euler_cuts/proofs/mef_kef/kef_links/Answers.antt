use Rattle.euler_cuts.specs.StepLaws.{kef_steps}
use Rattle.euler_cuts.proofs.mef_kef.kef_links.Goals as goal

pub returns : goal.returns
returns c = kef_steps _ _ _
    c.mate_of-m.ensures.0
    c.half_at-a.ensures
    c.half_at-b.ensures
    c.loop_face-f.ensures.0
    c.rest_of-rest.ensures.0
    c.loop_first-first.ensures.0
    c.loop_first-second.ensures.0
    c.lower-low.ensures.0
    c.relabel_run.ensures
    c.kef_edge.ensures
    c.put_face.ensures
    c.put_loop.ensures c.renew_loop.ensures
