use Rattle.check_items.specs.RangeLaws.{half_range_is}
use Rattle.check_items.proofs.ranges.half_range.Goals as goal

pub returns : goal.returns
returns c = half_range_is _ _ _ _ _ _ _ _ _
    c.start_of-v.ensures.0
    c.loop_of-l.ensures.0
    c.next_of-a.ensures.0
    c.prev_of-b.ensures.0
    c.mate_of.ensures.0 c.start_of-m.ensures.0
