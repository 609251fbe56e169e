use Rattle.std.proofs.Common.{rules, ◌∙◌, min}
use Rattle.layout.specs.Mate.{mate}
use Rattle.takedown_ends.specs.Walks.{run_met}
use Rattle.takedown_ends.proofs.walks.least_run.Goals as goal

pub returns : goal.returns
returns c = c.least_met.ensures (λ i. min i (mate i)) (λ i l k p. search rules) ∙ run_met _ _ _ _ _ _
