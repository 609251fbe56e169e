use Rattle.std.proofs.Common.{refl, sym}
use Rattle.std.proofs.lemmas.Result.{err_from_is_err_and}
use Rattle.runs_take.specs.Outcome.{take_none, take_some, take_bad}
use Rattle.runs_take.proofs.take.take.Goals as goal

pub returns-in_default : goal.returns-in_default
returns-in_default c = let t = take_bad _ _ _ _ (sym c.in_default.ensures) _ refl c.args.args.now in
    record { refusal_value = t.0; next_value = t.1.0; args_after = tt }

pub returns-then-n-gt-LAST_CODE : goal.returns-then-n-gt-LAST_CODE
returns-then-n-gt-LAST_CODE c =
    let t = take_none _ _ _ _ _ _ (sym c.in-Some.ensures) c.if-n-gt-LAST_CODE.true _ refl c.args.args.now in
    record { refusal_value = t.0; next_value = t.1.0; args_after = tt }

pub returns-in_err-next : goal.returns-in_err-next
returns-in_err-next c = let p = err_from_is_err_and c.from_residual.result c.from_residual.ensures.1 in
    let t = take_some _ _ _ _ _ _ (sym c.in-Some.ensures) _ _ c.in_err-next.ensures in
    rw (p.1, p.2) (record { refusal_value = t.0; next_value = t.1.0; args_after = tt })

pub returns : goal.returns
returns c = let t = take_some _ _ _ _ _ _ (sym c.in-Some.ensures) _ _ c.in_ok-next.ensures in
    record { refusal_value = t.0; next_value = t.1.0; args_after = t.1.1 refl }
