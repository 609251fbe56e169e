use Rattle.wavefront_text.specs.LineLaws.{put_own, put_other}
use native.Mathlib.Omega.{arith}
use lib.ListN.{get_or}
use Rattle.wavefront.specs.Obj.{face_line}
use Rattle.wavefront_text.proofs.lines.put_own_face.Goals as goal

pub returns-then-face_solid-s : goal.returns-then-face_solid-s
returns-then-face_solid-s c = record {
  put = put_own c.args.out.now
      _ (face_line c.args.sh
      c.args.links.now
      (λ v. get_or c.args.ranks.now v 0)
      c.args.f)
      _ _ c.args.s
      _ _ c.face_solid.ensures.0 (omega arith)
      c.put_face.ensures.put;
  upper_bound = c.put_face.ensures.upper_bound;
}

pub returns : goal.returns
returns c = record {
  put = put_other c.args.out.now
      (face_line c.args.sh c.args.links.now
      (λ v. get_or c.args.ranks.now v 0)
      c.args.f) _ c.args.s
      _ _ c.face_solid.ensures.0 (λ e. absurd (omega arith));
  upper_bound = omega arith;
}
