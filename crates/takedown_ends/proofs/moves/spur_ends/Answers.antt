use Rattle.std.proofs.Common.{◌∙◌, arith}
use Rattle.takedown_ends.specs.Walks.{max_greater}
use Rattle.takedown_ends.specs.EndsLaws.{spur_ends_are}
use Rattle.takedown_ends.proofs.moves.spur_ends.Goals as goal

pub returns : goal.returns
returns c = let w = c.requires.1 in (
  spur_ends_are c.args.sh _
      c.args.e _ _ _ _ _ _
      c.prev_of-before.ensures.0
      (c.max.ensures ∙ max_greater _ _)
      c.choose.ensures.0 c.choose-2.ensures.0
      c.choose-3.ensures.0,
  record {
    solid = w.solid;
    root = w.root;
    spur =
        omega (arith, c.max.ensures, w.spur, c.requires.2);
    tip =
        c.prev_of-before.ensures.1;
    tip2 =
        c.choose.ensures.1;
    tip3 = c.choose-2.ensures.1;
    tip4 =
        c.choose-3.ensures.1;
  },
)
