use Rattle.takedown_across.specs.PassingLaws.{passage_read}
use native.Mathlib.Omega.{arith}
use Rattle.std.proofs.Common.{rules}
use Rattle.takedown_search.specs.Sought.{seek_by}
use Rattle.takedown_across.proofs.across.passage_of.Goals as goal

pub returns : goal.returns
returns c = (
  passage_read c.args.sh _
      c.args.e _ _ _ _ _ _ _ _
      (seek_by _ c.seek-half.ensures.0 (λ k l u b p. search rules))
      c.loop_of-own.ensures.0
      c.is_ring-ring.ensures
      c.stray_from-stray.ensures.0
      c.next_of-next.ensures.0 c.side_of.ensures.0
      c.choose.ensures.0 c.least_mate.ensures,
  record {
    half = omega (arith, c.seek-half.ensures.1);
    own = c.loop_of-own.ensures.1;
    face =
        c.side_of.ensures.1;
  },
)
