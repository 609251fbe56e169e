use mathlib.Core.Path.{ap}
use lib.Dec.{leb}
use Rattle.runs_steps.specs.StepLaws.{fits_far}
use Rattle.runs_steps.proofs.steps.fits_before.Goals as goal

pub returns-then-end-ge27 : goal.returns-then-end-ge27
returns-then-end-ge27 c = fits_far _ _ c.if-end-ge27.true

pub returns : goal.returns
returns c = ap (λ n. leb n c.args.end) c.operator_size.ensures.0
