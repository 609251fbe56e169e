use Rattle.std.proofs.Common.{rules, ◌≡◌, eqb}
use Rattle.laws.specs.Bools.{pick}
use Rattle.euler_spurs.specs.StepLaws.{mev_steps}
use Rattle.euler_spurs.proofs.mev_kev.mev_links.Goals as goal

pub returns : goal.returns
returns c = let a = c.args in
    let p : c.if-h-eq0.p.0 ≡ pick (eqb a.h 0) c.mate_of-m.result c.prev_of-before.result = search rules in
    let n : c.if-h-eq0.p.1 ≡ pick (eqb a.h 0) a.k a.h = search rules in
    mev_steps _ _ _ _ _ _
    c.mate_of-m.ensures.0
    c.corner_vertex-u.ensures.0
    c.prev_of-before.ensures.0
    p
    n
    c.loop_first-first.ensures.0
    c.lower.ensures.0
    c.lower-low.ensures.0
    c.edge_in.ensures
    c.renew_loop.ensures
    c.set_vertex_used.ensures
