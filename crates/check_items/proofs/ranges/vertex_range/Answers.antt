use Rattle.check_items.specs.RangeLaws.{vertex_range_is}
use Rattle.check_items.proofs.ranges.vertex_range.Goals as goal

pub returns : goal.returns
returns c = vertex_range_is _ _ _ _ _ _ _ c.vertex_used-u.ensures.0 c.point_in.ensures
    c.point_free.ensures
