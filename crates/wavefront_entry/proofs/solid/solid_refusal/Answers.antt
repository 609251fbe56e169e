use Rattle.refusals.specs.UnlessLaws.{held, not_held}
use Rattle.refusals.specs.Numbers.{refusal_in}
use Rattle.wavefront_entry.specs.SolidLaws.{refused_none, refused_past, refused_free, shaped}
use Rattle.std.proofs.Common.{ap, ◌∙◌}
use borrow.Author.Tests.{not-true, not-false, eqb-true, eqb-false, leb-true, leb-false}
use Rattle.wavefront_entry.proofs.solid.solid_refusal.Goals as goal

pub returns-in_err-ensure : goal.returns-in_err-ensure
returns-in_err-ensure c = let h = not_held _ _ _ _ c.from_residual.ensures.1 c.in_err-ensure.ensures in
    h.1 ∙ refused_none c.args.sh c.args.links.now c.args.s (eqb-true _ 0 (not-false _ h.0))

pub returns-in_err-ensure-2 : goal.returns-in_err-ensure-2
returns-in_err-ensure-2 c =
    let h = not_held _ _ _ _ c.from_residual-in_err-ensure-2.ensures.1 c.in_err-ensure-2.ensures in
    h.1 ∙ refused_past c.args.sh c.args.links.now c.args.s (leb-false _ _ h.0)

pub returns-in_err-ensure-3 : goal.returns-in_err-ensure-3
returns-in_err-ensure-3 c =
    let h = not_held _ _ _ _ c.from_residual-in_err-ensure-3.ensures.1 c.in_err-ensure-3.ensures in
    h.1 ∙ refused_free c.args.sh c.args.links.now c.args.s
    (eqb-false _ 0 (not-true _ (held _ _ _ c.in_ok-ensure.ensures)))
    (leb-true _ _ (held _ _ _ c.in_ok-ensure-2.ensures)) _ c.solid_used.ensures.0 (eqb-true _ 0 (not-false _ h.0))

pub returns : goal.returns
returns c = ap refusal_in c.ensure-4.ensures ∙ shaped c.args.sh c.args.links.now c.args.s
    (eqb-false _ 0 (not-true _ (held _ _ _ c.in_ok-ensure.ensures)))
    (leb-true _ _ (held _ _ _ c.in_ok-ensure-2.ensures)) _ c.solid_used.ensures.0
    (eqb-false _ 0 (not-true _ (held _ _ _ c.in_ok-ensure-3.ensures))) _ c.plain.ensures
