use Rattle.std.proofs.Common.{◌∙◌}
use Rattle.takedown_ends.specs.Walks.{min_lesser}
use Rattle.takedown_ends.specs.EndsLaws.{ring_ends_are}
use Rattle.takedown_ends.proofs.moves.ring_ends.Goals as goal

pub returns : goal.returns
returns c = let w = c.requires.1 in (
  ring_ends_are
      c.args.sh
      _ c.args.e
      _ _ _ _ _ _ _ _ _ _ c.prev_of-before.ensures.0
      c.mate_of.ensures.0
      c.prev_of-other.ensures.0
      (c.min.ensures ∙ min_lesser _ _)
      (c.min-nearer.ensures ∙ min_lesser _ _) c.choose.ensures.0
      c.choose-2.ensures.0 c.choose-3.ensures.0 c.choose-4.ensures.0,
  record {
    solid = w.solid;
    root = w.root;
    spur = c.choose-2.ensures.1;
    tip = w.tip;
    tip2 =
        w.tip2;
    tip3 = c.choose-3.ensures.1;
    tip4 = c.choose-4.ensures.1;
  },
)
