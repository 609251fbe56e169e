use borrow.Author.Tests.{not-true, not-false}
use Rattle.std.proofs.Common.{refl, sym, ◌∙◌, ap, not, arith}
use Rattle.std.proofs.lemmas.Result.{err_from_is_err_and}
use Rattle.refusals.specs.UnlessLaws.{refused_some}
use Rattle.runs_steps.specs.Standing.{standing_kept}
use Rattle.runs_steps.specs.StepLaws.{inverse_by, step_refused, step_full, step_done}
use Rattle.runs_steps.proofs.steps.run_step.Goals as goal

pub returns-in_err-code-clause-start_after : goal.returns-in_err-code-clause-start_after
returns-in_err-code-clause-start_after c =
    let p = err_from_is_err_and c.from_residual.result c.from_residual.ensures.1 in
    let t = c.in_err-code.ensures in
    rw (p.1, p.2) (step_refused _ _ _ _ _ _ _ _ t.refusal_value _ t.next_value (refused_some _))

pub returns-then-not-fits_before-clause-start_after : goal.returns-then-not-fits_before-clause-start_after
returns-then-not-fits_before-clause-start_after c = let t = c.in_ok-code.ensures in
    let i = c.inverse_of-inverse.ensures ∙ inverse_by _ _ _ _ _ _ in
    step_full _ _ _ _ _ _ _ _ t.refusal_value _ t.next_value refl _ t.args_after _ i
    (sym c.fits_before.ensures ∙ not-true _ (ap not c.if-not-fits_before.true))

pub returns : goal.returns
returns c = let w = c.put_before-from.ensures in
    let e = c.perform_counted.ensures in
    let t = c.in_ok-code.ensures in
    let i = c.inverse_of-inverse.ensures ∙ inverse_by _ _ _ _ _ _ in record {
      start_after = step_done _ _ _ _ _ _ _ _ t.refusal_value _ t.next_value refl _ t.args_after _ i
          (sym c.fits_before.ensures ∙ not-false _ (ap not c.if-not-fits_before.false)) _ e.links_after.0 _
          e.links_after.1 _ w.value _ w.out_after;
      standing_2 = (
        standing_kept c.requires.standing _ _ _ t.refusal_value refl _ t.args_after _ e.links_after.0 _
            e.links_after.1 _ e.counts_after,
        omega (arith, w.value),
      );
    }
