use Rattle.std.proofs.Common.{rules, ◌≡◌}
use Rattle.laws.specs.Bools.{pick}
use Rattle.euler.specs.EdgeOperators.{b_alone}
use Rattle.euler_cuts.specs.StepLaws.{mef_steps}
use Rattle.euler_cuts.proofs.mef_kef.mef_links.Goals as goal

pub returns : goal.returns
returns c = let a = c.args in
    let from : c.if-h1-h2.from ≡ pick (b_alone a.h1 a.h2 a.w) c.mate_of-b.result a.h1 = search rules in
    mef_steps _ _ _ _ _ _ _ _ _
    c.mate_of-b.ensures.0
    c.loop_face-old.ensures.0
    c.face_solid-s.ensures.0
    from
    c.loop_first-first.ensures.0
    c.lower.ensures.0
    c.lower-low.ensures.0
    c.mef_edge.ensures
    c.relabel_run.ensures
    c.put_loop.ensures
    c.put_face.ensures c.renew_sides.ensures
