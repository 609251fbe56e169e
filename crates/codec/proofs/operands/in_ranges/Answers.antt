use mathlib.Core.Path.{sym, ◌∙◌}
use Rattle.std.proofs.Common.{rules}
use Rattle.codec.specs.Ranges.{ranges_by}
use Rattle.codec.proofs.operands.in_ranges.Goals as goal

pub returns : goal.returns
returns c = ranges_by _ _ _ _ (c.well_formed.1.1.0.1.0.1 ∙ sym c.well_formed.1.0.1.0.1) (search rules)
