use Rattle.std.proofs.Common.{refl}
use Rattle.refusals.specs.UnlessLaws.{refused_some}
use Rattle.promises.specs.Checked.{entered_good}
use Rattle.sweep_call.specs.ExitLaws.{vector_back, call_not_entered, call_refused, call_done}
use Rattle.sweep_call.proofs.sweep.Goals as goal

pub returns-in-Err : goal.returns-in-Err
returns-in-Err c = call_not_entered _ _ _ _ _ _ _ _ c.in-Err.ensures _ (refused_some _)
    (rw (c.number.ensures, c.rule.ensures) at c.answered.ensures)

pub plan-requires : goal.plan-requires
plan-requires c = entered_good _ _ _ _ _ c.in_default.ensures
    refl _ c.shape_of.ensures

pub slice_bounds-script-end : goal.slice_bounds-script-end
slice_bounds-script-end c = (c.plan.ensures.script _ c.in-Ok.is).fits

pub returns-in-Err-plan : goal.returns-in-Err-plan
returns-in-Err-plan c = call_refused _ _ _ _ _ _ _ _ c.in_default.ensures _ refl _ c.shape_of.ensures _
    (vector_back c.ranges.dx c.ranges.dy c.ranges.dz) _ _ c.plan.ensures _ _ c.in-Err-plan.is
    c.number-in-Err-plan.ensures c.answered-in-Err-plan.ensures

pub returns-in-Ok : goal.returns-in-Ok
returns-in-Ok c = call_done _ _ _ _ _ _ _ _ c.in_default.ensures _ refl _ c.shape_of.ensures _
    (vector_back c.ranges.dx c.ranges.dy c.ranges.dz) _ _ c.plan.ensures _ c.in-Ok.is _ _ _ _ c.run-left.ensures
    c.answered-in-Ok.ensures
