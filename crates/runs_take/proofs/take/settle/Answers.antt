use Rattle.std.proofs.Common.{refl}
use Rattle.runs_take.specs.Turns.{settled_holds, settled_fails, settled_refused}
use Rattle.refusals.specs.UnlessLaws.{refused_some}
use Rattle.runs_take.proofs.take.settle.Goals as goal

pub returns-then-condition_holds : goal.returns-then-condition_holds
returns-then-condition_holds c = rw c.in-Ok.is
    (settled_holds _ _ _ _ _ refl _ c.condition_holds.ensures c.if-condition_holds.true)

pub returns-else-condition_holds : goal.returns-else-condition_holds
returns-else-condition_holds c = rw c.in-Ok.is
    (settled_fails _ _ _ _ _ refl _ c.condition_holds.ensures c.if-condition_holds.false)

pub returns-in-Err : goal.returns-in-Err
returns-in-Err c = rw c.in-Err.is
    (settled_refused _ _ _ _ _ (refused_some c.in-Err.e.refusal) _ c.place_after.ensures)
