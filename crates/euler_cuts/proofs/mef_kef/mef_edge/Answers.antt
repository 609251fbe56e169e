use Rattle.std.proofs.Common.{rules, ◌≡◌}
use Rattle.laws.specs.Bools.{pick}
use Rattle.euler.specs.EdgeOperators.{a_alone, b_alone}
use Rattle.euler_cuts.specs.StepLaws.{mef_edge_steps}
use Rattle.euler_cuts.proofs.mef_kef.mef_edge.Goals as goal

pub returns : goal.returns
returns c = let a = c.args in
    let t = a_alone a.h1 a.h2 a.w in
    let n1 : c.if-a_alone.next.0 ≡ pick t a.a a.h2 = search rules in
    let p1 : c.if-a_alone.next.1 ≡ pick t a.a c.prev_of-p.result = search rules in
    let s = b_alone a.h1 a.h2 a.w in
    let n2 : c.if-b_alone.next.0 ≡ pick s c.mate_of-b.result a.h1 = search rules in
    let p2 : c.if-b_alone.next.1 ≡ pick s c.mate_of-b.result c.prev_of-q.result = search rules in
    mef_edge_steps _ _ _ _ _ _ _ _
    c.mate_of-b.ensures.0
    c.corner_vertex-u.ensures.0
    c.corner_vertex-v.ensures.0
    c.prev_of-p.ensures.0
    c.prev_of-q.ensures.0
    n1
    p1
    n2
    p2 c.edge_in.ensures
