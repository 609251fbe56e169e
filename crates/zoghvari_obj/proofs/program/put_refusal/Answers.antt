use native.Mathlib.Omega.{arith}
use Rattle.zoghvari_obj.specs.ProgramLaws.{put_line}
use Rattle.zoghvari_obj.proofs.program.put_refusal.Goals as goal

pub returns : goal.returns
returns c = record {
  put = put_line _ _ _ _ _ _ c.put_field-at.ensures.value
      c.put_bytes.ensures;
  upper_bound = omega arith;
}
