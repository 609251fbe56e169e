use Rattle.std.proofs.Common.{rules, ◌≡◌, eqb}
use Rattle.laws.specs.Bools.{pick}
use Rattle.euler_spurs.specs.StepLaws.{kev_undone}
use Rattle.euler_spurs.proofs.mev_kev.kev_inverse.Goals as goal

pub returns : goal.returns
returns c = let b = c.half_at-b.result in
    let h : c.if-b-k.h ≡ pick (eqb b.next c.args.k) 0 b.next = search rules in
    kev_undone _ _
    c.args.points.now _
    c.mate_of-m.ensures.0
    c.half_at-a.ensures
    c.half_at-b.ensures
    h
    c.edge_of-e.ensures.0
    c.way_of-w.ensures.0 c.blank.ensures
    c.with_three-corner.ensures c.with_number.ensures
    c.with_number-new.ensures c.with_point.ensures
