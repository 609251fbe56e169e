use Rattle.check_items.specs.RangeLaws.{loop_range_is}
use Rattle.check_items.proofs.ranges.loop_range.Goals as goal

pub returns : goal.returns
returns c = loop_range_is _ _ _ _ _ _ _ _ c.loop_face-f.ensures.0
    c.loop_first-k.ensures.0
    c.loop_isolated-v.ensures.0 c.goes_with.ensures
    c.goes_with-2.ensures
