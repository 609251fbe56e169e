use Rattle.check_items.specs.RangeLaws.{face_range_is}
use Rattle.check_items.proofs.ranges.face_range.Goals as goal

pub returns : goal.returns
returns c = face_range_is _ _ _ _ _ c.face_solid-s.ensures.0
    c.face_outer-l.ensures.0
