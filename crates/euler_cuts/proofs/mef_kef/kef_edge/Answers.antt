use Rattle.std.proofs.Common.{rules, ◌≡◌, eqb}
use Rattle.laws.specs.Bools.{pick}
use Rattle.euler_cuts.specs.StepLaws.{kef_edge_steps}
use Rattle.euler_cuts.proofs.mef_kef.kef_edge.Goals as goal

pub returns : goal.returns
returns c = let a = c.args.a in let b = c.args.b in
    let p : c.if-b-m.p.0 ≡ pick (eqb b.next c.mate_of-m.result) a.prev b.prev = search rules in
    let o : c.if-b-m.p.1 ≡ pick (eqb b.next c.mate_of-m.result) a.next b.next = search rules in
    let n : c.if-a-k.n.0 ≡ pick (eqb a.next c.args.k) b.next a.next = search rules in
    let q : c.if-a-k.n.1 ≡ pick (eqb a.next c.args.k) b.prev a.prev = search rules in
    kef_edge_steps _ _ _ _ _
    c.mate_of-m.ensures.0
    p
    n
    q
    o c.edge_out.ensures
