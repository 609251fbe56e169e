use Rattle.std.proofs.Common.{rules, ◌≡◌, eqb}
use Rattle.laws.specs.Bools.{pick}
use Rattle.euler_bridges.specs.StepLaws.{kemr_undone}
use Rattle.euler_bridges.proofs.kemr_mekr.kemr_inverse.Goals as goal

pub returns : goal.returns
returns c = let a = c.half_at-a.result in let b = c.half_at-b.result in
    let ring : c.if-a-m.h2 ≡ pick (eqb a.next c.mate_of-m.result) 0 a.next = search rules in
    let rest : c.if-b-k.h1 ≡ pick (eqb b.next c.args.k) 0 b.next = search rules in
    kemr_undone _ _ _ _
    c.mate_of-m.ensures.0
    c.half_at-a.ensures
    c.half_at-b.ensures
    rest
    ring
    c.edge_of-e.ensures.0 c.way_of-w.ensures.0
    c.blank.ensures c.with_three-op.ensures c.with_three.ensures
