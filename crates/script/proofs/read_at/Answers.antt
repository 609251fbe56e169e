use mathlib.Core.Path.{refl, sym, ◌∙◌}
use borrow.Author.Tests.{not-true, not-false, eqb-false}
use Rattle.std.proofs.Common.{leb-false, eqb-true}
use Rattle.codec.specs.ReadLaws.{small_read}
use Rattle.script.specs.AnswerLaws.{missed, tested, passed, behind_code, behind_cut, behind_range, behind_done}
use Rattle.script.specs.AnswerLaws.{operator_bad, operator_behind, operator_none}
use Rattle.script.proofs.read_at.Goals as goal

pub returns-in_err-number : goal.returns-in_err-number
returns-in_err-number c = let h = missed _ _ _ c.from_residual.ensures.1 c.in_err-number.ensures.value in
    rw h.1 (operator_bad _ _ _ _ (sym c.read_number.ensures ∙ h.0) refl)

pub returns-in_err-ensure : goal.returns-in_err-ensure
returns-in_err-ensure c = let h = tested _ _ _ c.from_residual-in_err-ensure.ensures.1 c.in_err-ensure.ensures in
    rw h.1 (operator_none _ _ _ _ _ _ (sym c.read_number.ensures ∙ c.in_ok-number.ensures.ok_part)
    (leb-false _ _ h.0) refl)

pub returns-in_err-ensure-2 : goal.returns-in_err-ensure-2
returns-in_err-ensure-2 c = let h = tested _ _ _ c.from_residual-in_err-ensure-2.ensures.1 c.in_err-ensure-2.ensures in
    rw h.1 (operator_behind _ _ _ _ _ _ (sym c.read_number.ensures ∙ c.in_ok-number.ensures.ok_part)
    (behind_code _ _ _ _ _ _ c.pattern_of-count.ensures _ (eqb-true _ 0 (not-false _ h.0)) refl))

pub returns-in_err-numbers : goal.returns-in_err-numbers
returns-in_err-numbers c =
    let h = missed _ _ _ c.from_residual-in_err-numbers.ensures.1 c.in_err-numbers.ensures.value in
    let some = eqb-false _ 0 (not-true _ (passed _ _ c.in_ok-ensure-2.ensures)) in
    rw h.1 (operator_behind _ _ _ _ _ _ (sym c.read_number.ensures ∙ c.in_ok-number.ensures.ok_part)
    (behind_cut _ _ _ _ _ _ c.pattern_of-count.ensures _ some (sym c.read_operands.ensures ∙ h.0) refl))

pub returns-in_err-ensure-3 : goal.returns-in_err-ensure-3
returns-in_err-ensure-3 c = let h = tested _ _ _ c.from_residual-in_err-ensure-3.ensures.1 c.in_err-ensure-3.ensures in
    let some = eqb-false _ 0 (not-true _ (passed _ _ c.in_ok-ensure-2.ensures)) in
    rw h.1 (operator_behind _ _ _ _ _ _ (sym c.read_number.ensures ∙ c.in_ok-number.ensures.ok_part)
    (behind_range _ _ _ _ _ _ c.pattern_of-count.ensures _ some _ _
    (sym c.read_operands.ensures ∙ c.in_ok-numbers.ensures.ok_part) _ c.largest-most.ensures _ c.in_ranges.ensures
    h.0 refl))

pub from_wires-args-requires : goal.from_wires-args-requires
from_wires-args-requires c = small_read _ _ _ _ _ (sym c.read_operands.ensures ∙ c.in_ok-numbers.ensures.ok_part)

pub returns : goal.returns
returns c = let some = eqb-false _ 0 (not-true _ (passed _ _ c.in_ok-ensure-2.ensures)) in
    operator_behind _ _ _ _ _ _ (sym c.read_number.ensures ∙ c.in_ok-number.ensures.ok_part)
    (behind_done _ _ _ _ _ _ c.pattern_of-count.ensures _ some _ _
    (sym c.read_operands.ensures ∙ c.in_ok-numbers.ensures.ok_part) _ c.largest-most.ensures _ c.in_ranges.ensures
    (passed _ _ c.in_ok-ensure-3.ensures) _ c.from_wires-args.ensures refl)
