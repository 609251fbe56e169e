use borrow.Author.Rules.{rules}
use native.Mathlib.Omega.{arith}
use Rattle.zoghvari.specs.ProgramLaws.{taken, program_runs, program_long}
use Rattle.zoghvari.proofs.program.program.Goals as goal

pub returns-then-n-gt-LONGEST : goal.returns-then-n-gt-LONGEST
returns-then-n-gt-LONGEST c = rw (program_long _ _ c.well_formed.0.1.0.1 c.if-n-gt-LONGEST.true)
    (record {
      value = c.too_long.ensures;
      upper_bound = omega arith;
    })

pub slice_bounds-report_run-end : goal.slice_bounds-report_run-end
slice_bounds-report_run-end c = let l = c.well_formed.0.1.0.1 in taken _ _ (omega arith)

pub returns : goal.returns
returns c = rw (program_runs c.args.input _ c.if-n-gt-LONGEST.false)
    (record {
      value = c.report_run.ensures.value;
      upper_bound = c.report_run.ensures.upper_bound;
    })
