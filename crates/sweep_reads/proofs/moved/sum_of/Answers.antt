use Rattle.sweep_reads.specs.MovedLaws.{sum_held, sum_is, sum_none}
use Rattle.sweep_reads.proofs.moved.sum_of.Goals as goal

pub overflow_add-result : goal.overflow_add-result
overflow_add-result c = sum_held c.ranges.c c.ranges.d _ c.fits_sum.ensures
    c.if-fits_sum.true

pub returns-then-fits_sum : goal.returns-then-fits_sum
returns-then-fits_sum c = sum_is c.ranges.c c.ranges.d _ c.fits_sum.ensures
    c.if-fits_sum.true

pub returns : goal.returns
returns c = sum_none c.ranges.c c.ranges.d _ c.fits_sum.ensures
    c.if-fits_sum.false
