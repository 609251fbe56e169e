use Rattle.std.proofs.Common.{rules}
use Rattle.euler.specs.Surgery.{corner}
use Rattle.euler.proofs.records.is_corner.Goals as goal

pub returns-then-h-eq0 : goal.returns-then-h-eq0
unfolding corner
returns-then-h-eq0 c = search rules

pub returns-else-h-eq0 : goal.returns-else-h-eq0
unfolding corner
returns-else-h-eq0 c = search rules
