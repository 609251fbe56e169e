use Rattle.std.proofs.Common.{ap, not, ◌∙◌}
use borrow.Author.Tests.{not-true, not-false, eqb-true, eqb-false, leb-true, leb-false}
use Rattle.refusals.specs.Numbers.{refusal_in}
use Rattle.refusals.specs.UnlessLaws.{held, not_held}
use Rattle.sweep_call.specs.CallLaws.{early_none, early_high, early_free, early_lone, early_last}
use Rattle.sweep_call.proofs.early.face_refusal.Goals as goal

pub returns-in_err-ensure : goal.returns-in_err-ensure
returns-in_err-ensure c = let h = not_held _ _ _ _ c.from_residual.ensures.1 c.in_err-ensure.ensures in
    h.1 ∙ early_none c.args.sh c.args.links.now c.args.points.now c.args.f c.args.v (eqb-true _ 0 (not-false _ h.0))

pub returns-in_err-ensure-2 : goal.returns-in_err-ensure-2
returns-in_err-ensure-2 c =
    let h = not_held _ _ _ _ c.from_residual-in_err-ensure-2.ensures.1 c.in_err-ensure-2.ensures in
    h.1 ∙ early_high c.args.sh c.args.links.now c.args.points.now c.args.f c.args.v
    (eqb-false _ 0 (not-true _ (held _ _ _ c.in_ok-ensure.ensures))) (leb-false _ _ h.0)

pub returns-in_err-ensure-3 : goal.returns-in_err-ensure-3
returns-in_err-ensure-3 c =
    let h = not_held _ _ _ _ c.from_residual-in_err-ensure-3.ensures.1 c.in_err-ensure-3.ensures in
    h.1 ∙ early_free c.args.sh c.args.links.now c.args.points.now c.args.f c.args.v
    (eqb-false _ 0 (not-true _ (held _ _ _ c.in_ok-ensure.ensures)))
    (leb-true _ _ (held _ _ _ c.in_ok-ensure-2.ensures)) _ c.face_solid.ensures.0 (eqb-true _ 0 (not-false _ h.0))

pub returns-in_err-ensure-4 : goal.returns-in_err-ensure-4
returns-in_err-ensure-4 c =
    let h = not_held _ _ _ _ c.from_residual-in_err-ensure-4.ensures.1 c.in_err-ensure-4.ensures in
    h.1 ∙ early_lone c.args.sh c.args.links.now c.args.points.now c.args.f c.args.v
    (eqb-false _ 0 (not-true _ (held _ _ _ c.in_ok-ensure.ensures)))
    (leb-true _ _ (held _ _ _ c.in_ok-ensure-2.ensures)) _ c.face_solid.ensures.0
    (eqb-false _ 0 (not-true _ (held _ _ _ c.in_ok-ensure-3.ensures))) _ c.some_lone.ensures (not-false _ h.0)

pub returns : goal.returns
returns c = ap refusal_in c.ensure-5.ensures
    ∙ early_last c.args.sh c.args.links.now c.args.points.now c.args.f c.args.v
    (eqb-false _ 0 (not-true _ (held _ _ _ c.in_ok-ensure.ensures)))
    (leb-true _ _ (held _ _ _ c.in_ok-ensure-2.ensures)) _ c.face_solid.ensures.0
    (eqb-false _ 0 (not-true _ (held _ _ _ c.in_ok-ensure-3.ensures))) _ _ c.some_lone.ensures
    (not-true _ (held _ _ _ c.in_ok-ensure-4.ensures)) c.all_move.ensures
