use Rattle.std.proofs.Common.{rules, refl, Some}
use Rattle.takedown_search.specs.Sought.{seek_by}
use Rattle.takedown_plans.specs.PlanLaws.{edges_ring, edges_spur, edges_crossed}
use Rattle.takedown_plans.proofs.plans.edges_plan.Goals as goal

pub returns-then-ring-ne0 : goal.returns-then-ring-ne0
returns-then-ring-ne0 c =
    edges_ring c.args.sh _ c.args.e _ _ _ c.with_half-on.ensures.0
    (seek_by _ c.seek-ring.ensures.0 (λ k l u b p. search rules)) _ c.if-ring-ne0.true c.ring_plan.ensures

pub returns-then-spur-ne0 : goal.returns-then-spur-ne0
returns-then-spur-ne0 c = let p = c.spur_plan.ensures in
    edges_spur c.args.sh _ c.args.e _ _ _ c.with_half-on.ensures.0
    (seek_by _ c.seek-ring.ensures.0 (λ k l u b p. search rules)) (Some c.spur_plan.result) c.if-ring-ne0.false _
    c.spur_from-spur.ensures.0 c.if-spur-ne0.true (refl, p.0, p.1)

pub returns : goal.returns
returns c =
    edges_crossed c.args.sh _ c.args.e _ _ _ c.with_half-on.ensures.0
    (seek_by _ c.seek-ring.ensures.0 (λ k l u b p. search rules)) _ c.if-ring-ne0.false _
    c.spur_from-spur.ensures.0 c.if-spur-ne0.false _
    (seek_by _ c.seek-k.ensures.0 (λ k l u b p. search rules)) c.cross_plan.ensures
