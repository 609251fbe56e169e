use Rattle.sweep_reads.specs.MovedLaws.{moved_at_lem}
use Rattle.sweep_reads.proofs.moved.moved.Goals as goal

pub returns : goal.returns
returns c = moved_at_lem c.coordinate.result _ _ c.sum_of.result c.coordinate.type_inv
    c.coordinate.ensures c.ranges.d c.sum_of.type_inv c.sum_of.ensures
