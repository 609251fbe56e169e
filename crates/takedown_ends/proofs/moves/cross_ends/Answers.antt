use native.Mathlib.Omega.{arith}
use Rattle.takedown_ends.specs.EndsLaws.{cross_ends_are}
use Rattle.takedown_ends.proofs.moves.cross_ends.Goals as goal

pub returns : goal.returns
returns c = let w = c.requires.1 in (
  cross_ends_are c.args.sh _
      c.args.e _ _ _ _ _ _
      c.mate_of-mate.ensures.0 c.prev_of-before.ensures.0
      c.prev_of-other.ensures.0 c.next_of-next.ensures.0 c.least_run-ring.ensures,
  record {
    solid = w.solid;
    root = w.root;
    spur = omega arith;
    tip =
        c.prev_of-before.ensures.1;
    tip2 = c.prev_of-other.ensures.1;
    tip3 =
        c.prev_of-before.ensures.1;
    tip4 = c.prev_of-other.ensures.1;
  },
)
