use native.Mathlib.Omega.{arith}
use Rattle.zoghvari_obj.specs.ProgramLaws.{run_good, run_refused, run_done}
use borrow.Author.Rules.{rules}
use Rattle.zoghvari_obj.proofs.program.put_run_in.Goals as goal

pub returns-then-ran-ne0 : goal.returns-then-ran-ne0
returns-then-ran-ne0 c = record {
  put = run_refused _ _ (search rules) (search rules) _ _ _ _ _ _
      c.clear.ensures
      c.run-ran.ensures (search rules)
      _ _ _ (omega arith) c.put_refusal.ensures.put;
  upper_bound = c.put_refusal.ensures.upper_bound;
}

pub put_part-requires : goal.put_part-requires
put_part-requires c = run_good _ _ (search rules) (search rules) _ _ _ _ _ _
    c.clear.ensures
    c.run-ran.ensures
    (search rules)

pub returns : goal.returns
returns c = record {
  put = run_done _ _ (search rules) (search rules) _ _ _ _ _ _
      c.clear.ensures c.run-ran.ensures
      (search rules)
      _ _ _ (omega arith) c.put_part.ensures.put;
  upper_bound = c.put_part.ensures.upper_bound;
}
