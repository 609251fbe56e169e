use Rattle.std.proofs.Common.{rules, ◌≡◌, eqb}
use Rattle.laws.specs.Bools.{pick}
use Rattle.euler_bridges.specs.StepLaws.{mekr_edge_steps}
use Rattle.euler_bridges.proofs.kemr_mekr.mekr_edge.Goals as goal

pub returns : goal.returns
returns c = let a = c.args in
    let n1 : c.if-h2-eq0.before2.1 ≡ pick (eqb a.h2 0) c.mate_of-m.result a.h2 = search rules in
    let p1 : c.if-h1-eq0.before.0 ≡ pick (eqb a.h1 0) c.mate_of-m.result c.prev_of-p.result = search rules in
    let n2 : c.if-h1-eq0.before.1 ≡ pick (eqb a.h1 0) a.k a.h1 = search rules in
    let p2 : c.if-h2-eq0.before2.0 ≡ pick (eqb a.h2 0) a.k c.prev_of-q.result = search rules in
    mekr_edge_steps _ _ _ _ _ _ _
    c.mate_of-m.ensures.0
    c.corner_vertex-u.ensures.0
    c.corner_vertex-v.ensures.0
    c.prev_of-p.ensures.0
    c.prev_of-q.ensures.0
    n1
    p1
    n2
    p2 c.edge_in.ensures
