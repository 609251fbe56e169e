use Rattle.sweep_reads.specs.MovedLaws.{widens, widened, sum_fits, sum_range}
use Rattle.sweep_reads.proofs.moved.fits_sum.Goals as goal

pub overflow_cast-s : goal.overflow_cast-s
overflow_cast-s c = widens c.ranges.c c.ranges.c

pub overflow_cast-s-2 : goal.overflow_cast-s-2
overflow_cast-s-2 c = widens c.ranges.d c.ranges.d

pub overflow_add-s : goal.overflow_add-s
overflow_add-s c = sum_fits c.ranges.c c.ranges.d _ _ (widened c.ranges.c c.ranges.c) (widened c.ranges.d c.ranges.d)

pub returns : goal.returns
returns c = sum_range c.ranges.c c.ranges.d _ _ (widened c.ranges.c c.ranges.c)
    (widened c.ranges.d c.ranges.d)
