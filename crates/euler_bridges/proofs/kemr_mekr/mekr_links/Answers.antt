use Rattle.std.proofs.Common.{rules, ◌≡◌, eqb}
use Rattle.laws.specs.Bools.{pick}
use Rattle.euler_bridges.specs.StepLaws.{mekr_steps}
use Rattle.euler_bridges.proofs.kemr_mekr.mekr_links.Goals as goal

pub returns : goal.returns
returns c = let a = c.args in
    let from : c.if-h2-eq0.from ≡ pick (eqb a.h2 0) c.mate_of-m.result a.h2 = search rules in
    mekr_steps _ _ _ _ _ _ _
    c.mate_of-m.ensures.0
    from
    c.loop_first-first.ensures.0
    c.loop_first-second.ensures.0
    c.lower.ensures.0
    c.lower-2.ensures.0
    c.lower-low.ensures.0
    c.mekr_edge.ensures
    c.relabel_run.ensures
    c.put_loop.ensures c.renew_loop.ensures
