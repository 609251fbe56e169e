use Rattle.std.proofs.Common.{rules, refl, ◌≡◌}
use native.Mathlib.Omega.{arith}
use Rattle.laws.specs.Bools.{pick}
use Rattle.laws.specs.UnionFind.{same_roots_then}
use Rattle.check_shells.specs.ForestLaws.{same_roots_here, forest_short}
use Rattle.euler_holes.specs.Moves.{move_shell}
use Rattle.euler_holes.specs.HolesLaws.{sweep_none, sweep_more, by_root_lem}
use Rattle.euler_holes.proofs.moves.move_shell.Goals as goal

pub loop-k-init : goal.loop-k-init
loop-k-init c = (
  refl,
  c.requires.forest,
  same_roots_here c.requires.forest.down,
  sweep_none c.args.sh _ _,
)

pub loop-k-preserved : goal.loop-k-preserved
loop-k-preserved c = let r = c.same_shell-here.ensures in
    let i = c.loop-k.invariant in
    let w : c.if-here.new ≡ pick c.same_shell-here.result c.args.s c.face_solid-old.result = search rules in (
      omega arith,
      forest_short i.1 r.1,
      same_roots_then i.2 r.1,
      sweep_more
          c.args.sh _ _ _ _ _ _ _ i.3
          c.face_solid-old.ensures.0
          (by_root_lem c.args.sh i.2 _ _ _ _ _ _ r.0 w)
          c.set_face_solid.ensures,
    )

pub returns : goal.returns
unfolding move_shell
returns c = search rules
