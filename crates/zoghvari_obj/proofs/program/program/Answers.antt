use native.Mathlib.Omega.{arith}
use Rattle.zoghvari_obj.specs.ProgramLaws.{program_runs, program_long}
use Rattle.zoghvari_obj.proofs.program.program.Goals as goal

pub returns-then-input-gt-LONGEST : goal.returns-then-input-gt-LONGEST
returns-then-input-gt-LONGEST c = record {
  value = program_long _ _ _ _ (omega arith) c.put_bytes.ensures;
  upper_bound = omega arith;
}

pub returns : goal.returns
returns c = record {
  value = program_runs _ _ _ _ (omega arith) c.put_run.ensures.put;
  upper_bound = c.put_run.ensures.upper_bound;
}
