use native.Mathlib.Omega.{arith}
use mathlib.Core.Path.{refl}
use Rattle.std.proofs.Common.{leb-false, leb-true}
use Rattle.script.specs.AnswerLaws.{handed, tested, passed}
use Rattle.script.specs.OperatorLaws.{refusal_some, write_refused, write_short, write_done}
use Rattle.script.proofs.put_front.Goals as goal

pub returns-in_err-operator_refusal : goal.returns-in_err-operator_refusal
returns-in_err-operator_refusal c = let e = c.in_err-operator_refusal.field-0.0 in
    rw (handed e c.from_residual.ensures.1)
    (write_refused _ _ _ c.in_err-operator_refusal.ensures (λ z. omega (arith, refusal_some e)))

pub returns-in_err-ensure : goal.returns-in_err-ensure
returns-in_err-ensure c = let h = tested _ _ _ c.from_residual-in_err-ensure.ensures.1 c.in_err-ensure.ensures in
    rw h.1 (write_short _ _ _ c.in_ok-operator_refusal.ensures refl _ c.operator_size-size.ensures.0
    (leb-false _ _ h.0))

pub returns : goal.returns
returns c = write_done _ _ _ c.in_ok-operator_refusal.ensures refl _ c.operator_size-size.ensures.0
    (leb-true _ _ (passed _ _ c.in_ok-ensure.ensures)) _ c.put_operator.ensures
