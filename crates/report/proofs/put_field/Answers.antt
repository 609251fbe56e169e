use native.Mathlib.Omega.{arith}
use Rattle.report.specs.TextLaws.{put_field}
use Rattle.report.proofs.put_field.Goals as goal

pub returns : goal.returns
returns c = record {
  value = put_field _ _ _ _ _ _ _ _ c.put_bytes-behind.ensures
      c.put_number.ensures.value;
  upper_bound = omega arith;
}
