use Rattle.std.proofs.Common.{rules, refl, ◌≡◌, eqb}
use native.Mathlib.Omega.{arith}
use Rattle.laws.specs.Bools.{pick}
use Rattle.euler_holes.specs.HolesLaws.{sweep_none, sweep_more, move_none}
use Rattle.euler_holes.proofs.moves.move_faces.Goals as goal

pub returns-then-s-t : goal.returns-then-s-t
returns-then-s-t c = let a = c.args in
    move_none a.sh a.links.now a.s a.t (omega arith)

pub loop-k-init : goal.loop-k-init
loop-k-init c = (refl, sweep_none c.args.sh _ _)

pub loop-k-preserved : goal.loop-k-preserved
loop-k-preserved c =
    let w : c.if-old-s.new
    ≡ pick (eqb c.face_solid-old.result c.args.s) c.args.t c.face_solid-old.result = search rules in (
      omega arith,
      sweep_more c.args.sh _ _ _ _ _ _ _ c.loop-k.invariant.1 c.face_solid-old.ensures.0 w c.set_face_solid.ensures,
    )
