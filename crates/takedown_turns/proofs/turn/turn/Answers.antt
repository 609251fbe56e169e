use Rattle.std.proofs.Common.{rules, sym, subst, ◌∙◌, arith}
use Rattle.takedown_search.specs.Sought.{seek_by}
use Rattle.takedown_ends.specs.InWords.{InWords}
use Rattle.takedown_turns.specs.TurnLaws.{plan_none, plan_some, turned_none, across_lacks, across_turns, edges_lacks}
use Rattle.takedown_turns.specs.TurnLaws.{edges_turns, bridge_lacks, bridge_turns, last_lacks, last_turns}
use Rattle.takedown_turns.proofs.turn.turn.Goals as goal

pub returns-then-e-ne1 : goal.returns-then-e-ne1
returns-then-e-ne1 c = let a = c.args in
    let o = c.if-e-ne1.true in (
      across_lacks a.sh a.e _ o,
      across_turns a.sh a.e _ o _ _ c.across.ensures.0,
      c.across.ensures.1,
      c.across.ensures.2,
    )

pub returns-in_err-plan : goal.returns-in_err-plan
returns-in_err-plan c = let a = c.args in
    turned_none a.sh a.e a.at _ _ _ _ c.from_residual.ensures
    (edges_lacks a.sh a.e _ c.if-e-ne1.false (seek_by _ c.seek-half.ensures.0 (λ k l u b p. search rules))
    c.if-half-ne0.true (plan_none a.sh _ _ _ c.edges_plan.ensures c.in_err-plan.was))

pub returns-then-half-ne0 : goal.returns-then-half-ne0
returns-then-half-ne0 c = let a = c.args in
    let e = c.carry.ensures in
    let p = plan_some a.sh _ _ _ c.edges_plan.ensures c.in_ok-plan.was in (
      edges_lacks a.sh a.e _ c.if-e-ne1.false (seek_by _ c.seek-half.ensures.0 (λ k l u b p. search rules))
          c.if-half-ne0.true p.0,
      edges_turns a.sh a.e _ c.if-e-ne1.false (seek_by _ c.seek-half.ensures.0 (λ k l u b p. search rules))
          c.if-half-ne0.true _ _ (e.0 ∙ p.1 _),
      omega (arith, e.1),
      subst InWords (sym e.2) p.2,
    )

pub returns-in_err-plan-2 : goal.returns-in_err-plan-2
returns-in_err-plan-2 c = let a = c.args in
    turned_none a.sh a.e a.at _ _ _ _ c.from_residual-in_err-plan-2.ensures
    (bridge_lacks a.sh a.e _ c.if-e-ne1.false (seek_by _ c.seek-half.ensures.0 (λ k l u b p. search rules))
    c.if-half-ne0.false (seek_by _ c.seek-l.ensures.0 (λ k l u b p. search rules)) c.if-l-ne0.true
    (plan_none a.sh _ _ _ c.bridge_plan.ensures c.in_err-plan-2.was))

pub returns-then-l-ne0 : goal.returns-then-l-ne0
returns-then-l-ne0 c = let a = c.args in
    let e = c.carry-then-l-ne0.ensures in
    let p = plan_some a.sh _ _ _ c.bridge_plan.ensures c.in_ok-plan-2.was in (
      bridge_lacks a.sh a.e _ c.if-e-ne1.false (seek_by _ c.seek-half.ensures.0 (λ k l u b p. search rules))
          c.if-half-ne0.false (seek_by _ c.seek-l.ensures.0 (λ k l u b p. search rules)) c.if-l-ne0.true p.0,
      bridge_turns a.sh a.e _ c.if-e-ne1.false (seek_by _ c.seek-half.ensures.0 (λ k l u b p. search rules))
          c.if-half-ne0.false (seek_by _ c.seek-l.ensures.0 (λ k l u b p. search rules)) c.if-l-ne0.true _ _
          (e.0 ∙ p.1 _),
      omega (arith, e.1),
      subst InWords (sym e.2) p.2,
    )

pub returns : goal.returns
returns c = let a = c.args in
    let e = c.last.ensures in (
      last_lacks a.sh a.e _ c.if-e-ne1.false (seek_by _ c.seek-half.ensures.0 (λ k l u b p. search rules))
          c.if-half-ne0.false (seek_by _ c.seek-l.ensures.0 (λ k l u b p. search rules)) c.if-l-ne0.false,
      last_turns a.sh a.e _ c.if-e-ne1.false (seek_by _ c.seek-half.ensures.0 (λ k l u b p. search rules))
          c.if-half-ne0.false (seek_by _ c.seek-l.ensures.0 (λ k l u b p. search rules)) c.if-l-ne0.false _ _ e.0,
      omega (arith, e.1),
      e.2,
    )
