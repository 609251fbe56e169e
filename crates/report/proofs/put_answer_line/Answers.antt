use native.Mathlib.Omega.{arith}
use Rattle.report.specs.TextLaws.{put_answer}
use Rattle.report.proofs.put_answer_line.Goals as goal

pub returns : goal.returns
returns c = record {
  value = put_answer _ _ _ _ _ _ _ _ _ _ _ _
      c.put_field-a.ensures.value
      c.put_field-b.ensures.value
      c.put_field-d.ensures.value c.put_bytes.ensures;
  upper_bound = omega arith;
}
