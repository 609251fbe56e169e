use Rattle.std.proofs.Common.{rules, ◌≡◌, eqb}
use Rattle.laws.specs.Bools.{pick}
use Rattle.euler_spurs.specs.StepLaws.{kev_steps}
use Rattle.euler_spurs.proofs.mev_kev.kev_links.Goals as goal

pub returns : goal.returns
returns c = let b = c.half_at-b.result in
    let h : c.if-b-k.rest ≡ pick (eqb b.next c.args.k) 0 b.next = search rules in
    kev_steps _ _ _
    c.mate_of-m.ensures.0
    c.half_at-a.ensures
    c.half_at-b.ensures
    h
    c.loop_first-low.ensures.0
    c.edge_out.ensures
    c.renew_loop.ensures
    c.set_vertex_used.ensures
