use mathlib.Core.Path.{ap, ◌∙◌}
use native.Mathlib.Omega.{arith}
use Rattle.layout.specs.Mate.{mate}
use Rattle.sweep_puts.proofs.ops.down_of.Goals as goal

pub returns : goal.returns
returns c = (c.mate_of.ensures.0 ∙ ap mate c.up_of.ensures.0, omega arith)
