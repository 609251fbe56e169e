use Rattle.check_items.specs.RangeLaws.{solid_range_is}
use Rattle.check_items.proofs.ranges.solid_range.Goals as goal

pub returns : goal.returns
returns c = solid_range_is _ _ _ _ c.solid_used.ensures.0
