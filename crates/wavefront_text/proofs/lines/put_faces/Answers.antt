use Rattle.wavefront_text.specs.LineLaws.{listed_none, listed_next, listed_all, put_length}
use Rattle.wavefront.specs.Obj.{concat_map, passing_to, face_line, own_face}
use lib.ListN.{get_or}
use native.Mathlib.Omega.{arith}
use Rattle.wavefront_text.proofs.lines.put_faces.Goals as goal

pub loop-f-init : goal.loop-f-init
loop-f-init c = (omega arith, listed_none _ _ _ _)

pub put_own_face-place-requires : goal.put_own_face-place-requires
put_own_face-place-requires c = record {
  at_bound = (omega arith, omega arith);
  low = (
    c.requires.1,
    c.requires.2,
  );
}

pub loop-f-preserved : goal.loop-f-preserved
loop-f-preserved c = (
  omega arith,
  listed_next _ _ _ _ _ _ (face_line c.args.sh c.args.links.now (λ v. get_or c.args.ranks.now v 0))
      (own_face c.args.sh
      c.args.links.now
      c.args.s)
      c.loop-f.f
      c.loop-f.invariant.1
      c.put_own_face-place.ensures.put,
)

pub shape_of-out : goal.shape_of-out
shape_of-out c = put_length _ _ _ _ (concat_map (face_line c.args.sh
    c.args.links.now
    (λ v. get_or c.args.ranks.now v 0))
    (passing_to c.loop-f.f (own_face c.args.sh
    c.args.links.now
    c.args.s))) c.loop-f.invariant.1

pub returns : goal.returns
returns c = listed_all _ _ _ _ (face_line c.args.sh
    c.args.links.now
    (λ v. get_or c.args.ranks.now v 0))
    (own_face c.args.sh
    c.args.links.now
    c.args.s) c.loop-f.f _ (omega arith) (omega arith)
    c.loop-f.invariant.1
