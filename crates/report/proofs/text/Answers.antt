use native.Mathlib.Omega.{arith}
use Rattle.report.specs.TextLaws.{put_text}
use Rattle.report.proofs.text.Goals as goal

pub returns : goal.returns
returns c = record {
  value = put_text _ _ _ _ _ _ _ _ _ c.put_answer_line-at.ensures.value c.put_count_line.ensures.value;
  upper_bound = omega arith;
}
