use Rattle.std.proofs.Common.{arith, refl}
use Rattle.sweep_reads.specs.CornerLaws.{to_none}
use Rattle.sweep_puts.specs.Laid.{laid_empty, joined_zero}
use Rattle.sweep_puts.specs.FaceLaws.{named_less, moving_at, face_few, face_turn, face_end}
use Rattle.sweep_puts.proofs.faces.put_face.Goals as goal

pub loop-l-init : goal.loop-l-init
loop-l-init c = (omega arith, omega arith, omega arith, refl, to_none _ _ _, laid_empty (joined_zero _))

pub put_part-place-requires : goal.put_part-place-requires
put_part-place-requires c = let w = face_few c.args.sh c.args.links.now c.args.f _ c.loop-l.l _
    c.loop-l-test.true c.loop-l.invariant.4 c.corners_of-c.ensures.0 in record {
      l_bound = (omega arith, omega arith, omega arith, omega arith, omega arith);
      named = named_less w c.requires.named;
      moving = moving_at c.args.sh c.args.links.now c.args.points.now c.args.f _ c.loop-l.l _ c.requires.liftable
          c.loop-l-test.true c.corners_of-c.ensures.0;
    }

pub overflow_add-b : goal.overflow_add-b
overflow_add-b c = let w = face_few c.args.sh c.args.links.now c.args.f _ c.loop-l.l _ c.loop-l-test.true
    c.loop-l.invariant.4 c.corners_of-c.ensures.0 in record { fits = omega (arith, w, c.requires.small) }

pub loop-l-preserved : goal.loop-l-preserved
loop-l-preserved c = face_turn c.args.sh c.args.links.now c.args.points.now c.args.f _ _ _ _ _ _ _ c.loop-l.l _ _ _ _
    c.requires.liftable refl c.loop-l-test.true c.loop-l.invariant c.corners_of-c.ensures.0 c.put_part-place.ensures

pub returns : goal.returns
returns c = face_end c.args.sh c.args.links.now c.args.points.now c.args.f _ _ _ _ _ _ _ _ c.loop-l.invariant
    (omega arith) refl
