use mathlib.Core.Path.{ap, ◌∙◌}
use Rattle.codec.specs.Operands.{largests}
use Rattle.runs.proofs.enter.ranges_of.Goals as goal

pub returns : goal.returns
returns c = c.largest.ensures ∙ ap largests c.limits_of.ensures
