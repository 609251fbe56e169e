use Rattle.std.proofs.Common.{rules, ◌∙◌}
use Rattle.layout.specs.Mate.{mate}
use Rattle.takedown_ends.specs.Walks.{mates_met}
use Rattle.takedown_ends.proofs.walks.least_mate.Goals as goal

pub returns : goal.returns
returns c = c.least_met.ensures mate (λ i l k p. search rules) ∙ mates_met _ _ _ _ _ _
