use mathlib.Core.Path.{◌∙◌}
use Rattle.sweep_reads.specs.MovedLaws.{fits_at}
use Rattle.sweep_reads.proofs.moved.fits.Goals as goal

pub returns : goal.returns
returns c = c.fits_sum.ensures ∙ fits_at c.coordinate.result _ _ c.coordinate.type_inv
    c.coordinate.ensures c.ranges.d
