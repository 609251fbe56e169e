use Rattle.zoghvari.specs.ProgramLaws.{cleared_empty, reported}
use Rattle.zoghvari.proofs.program.report_run.Goals as goal

pub returns : goal.returns
returns c = record {
  value = reported _ _ _ _ _ _ _ (cleared_empty _ _ _
      c.clear.ensures)
      c.run-ran.ensures
      c.count-counts.ensures c.text.ensures.value;
  upper_bound = c.text.ensures.upper_bound;
}
