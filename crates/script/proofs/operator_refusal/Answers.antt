use mathlib.Core.Path.{ap, ◌∙◌}
use borrow.Author.Tests.{not-true, not-false, eqb-false}
use Rattle.std.proofs.Common.{eqb-true}
use Rattle.codec.specs.Operands.{largests}
use Rattle.refusals.specs.Numbers.{refusal_in}
use Rattle.script.specs.AnswerLaws.{tested, passed}
use Rattle.script.specs.OperatorLaws.{refusal_code, refusal_count, refusal_ranges}
use Rattle.script.proofs.operator_refusal.Goals as goal

pub returns-in_err-ensure : goal.returns-in_err-ensure
returns-in_err-ensure c = let h = tested _ _ _ c.from_residual.ensures.1 c.in_err-ensure.ensures in
    rw h.1 (refusal_code _ _ c.pattern_of-count.ensures (eqb-true _ 0 (not-false _ h.0)))

pub returns-in_err-ensure-2 : goal.returns-in_err-ensure-2
returns-in_err-ensure-2 c = let h = tested _ _ _ c.from_residual-in_err-ensure-2.ensures.1 c.in_err-ensure-2.ensures in
    let some = eqb-false _ 0 (not-true _ (passed _ _ c.in_ok-ensure.ensures)) in
    rw h.1 (refusal_count _ _ c.pattern_of-count.ensures some (eqb-false _ _ h.0))

pub returns : goal.returns
returns c = let some = eqb-false _ 0 (not-true _ (passed _ _ c.in_ok-ensure.ensures)) in
    ap refusal_in c.ensure-3.ensures
    ∙ refusal_ranges _ _ c.pattern_of-count.ensures _ c.to_wires-numbers.ensures some
    (eqb-true _ _ (passed _ _ c.in_ok-ensure-2.ensures)) _
    (c.largest-most.ensures ∙ ap largests c.widest.ensures) _ c.in_ranges.ensures
