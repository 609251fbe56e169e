use Rattle.std.proofs.Common.{refl, sym, ap, ◌∙◌}
use borrow.Author.Tests.{leb-true, leb-false}
use Rattle.refusals.specs.Numbers.{refusal_in}
use Rattle.refusals.specs.UnlessLaws.{refused_some, held, not_held, handed_on}
use Rattle.sweep_call.specs.PlanLaws.{plan_early, plan_few, plan_short, plan_all}
use Rattle.sweep_call.proofs.plan.plan.Goals as goal

pub returns-in_err-face_refusal : goal.returns-in_err-face_refusal
returns-in_err-face_refusal c = plan_early _ _ _ _ _ _ _ _ _ c.in_err-face_refusal.ensures (refused_some _)
    (handed_on _ _ c.from_residual.ensures.1)

pub returns-in_err-script : goal.returns-in_err-script
returns-in_err-script c = let w = ap refusal_in c.in_err-script.was in
    plan_few _ _ _ _ _ _ _ _ _ c.in_ok-face_refusal.ensures refl _ c.write_script.ensures
    (λ a. refused_some _ (sym w ∙ a)) (handed_on _ _ c.from_residual-in_err-script.ensures.1 ∙ sym w)

pub returns-in_err-ensure : goal.returns-in_err-ensure
returns-in_err-ensure c =
    let g = not_held _ _ _ _ c.from_residual-in_err-ensure.ensures.1 c.in_err-ensure.ensures in
    plan_short _ _ _ _ _ _ _ _ _ c.in_ok-face_refusal.ensures refl _ c.write_script.ensures _ c.in_ok-script.was
    (leb-false _ _ g.0) g.1

pub returns : goal.returns
returns c = plan_all _ _ _ _ _ _ _ _ _ c.in_ok-face_refusal.ensures refl _ c.write_script.ensures _ c.in_ok-script.was
    (leb-true _ _ (held _ _ _ c.in_ok-ensure.ensures)) refl
