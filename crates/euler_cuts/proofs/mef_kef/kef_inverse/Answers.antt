use Rattle.std.proofs.Common.{rules, ◌≡◌, eqb}
use Rattle.laws.specs.Bools.{pick}
use mathlib.Core.Bool.{not, ◌&&◌}
use Rattle.euler_cuts.specs.StepLaws.{kef_undone}
use Rattle.euler_cuts.proofs.mef_kef.kef_inverse.Goals as goal

pub returns : goal.returns
returns c = let a = c.half_at-a.result in let b = c.half_at-b.result in
    let t : c.if-b-m.whole ≡ (eqb b.next c.mate_of-m.result && not (eqb a.next c.args.k)) = search rules in
    let d : c.if-whole.w ≡ pick c.if-b-m.whole 2 0 = search rules in
    kef_undone _ _ _
    c.mate_of-m.ensures.0
    c.half_at-a.ensures
    c.half_at-b.ensures
    c.loop_face-f.ensures.0
    c.rest_of-h1.ensures.0
    c.rest_of-h2.ensures.0
    c.way_of.ensures.0
    (rw (← t) d)
    c.edge_of-e.ensures.0 c.blank.ensures
    c.with_three-op.ensures c.with_three.ensures c.with_number.ensures
