use Rattle.std.proofs.Common.{rules, ◌≡◌, eqb}
use Rattle.laws.specs.Bools.{pick}
use Rattle.euler_bridges.specs.StepLaws.{kemr_steps}
use Rattle.euler_bridges.proofs.kemr_mekr.kemr_links.Goals as goal

pub returns : goal.returns
returns c = let a = c.half_at-a.result in let b = c.half_at-b.result in
    let ring : c.if-a-m.ring ≡ pick (eqb a.next c.mate_of-m.result) 0 a.next = search rules in
    let rest : c.if-b-k.rest ≡ pick (eqb b.next c.args.k) 0 b.next = search rules in
    kemr_steps _ _ _ _
    c.mate_of-m.ensures.0
    c.half_at-a.ensures
    c.half_at-b.ensures
    c.loop_face-f.ensures.0
    ring
    rest
    c.loop_first-low.ensures.0
    c.relabel_run.ensures
    c.edge_out.ensures
    c.put_loop.ensures
    c.renew_loop.ensures c.renew_loop-2.ensures
