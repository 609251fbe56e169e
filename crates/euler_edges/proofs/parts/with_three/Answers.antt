use Rattle.euler_edges.specs.StepLaws.{three_steps}
use Rattle.euler_edges.proofs.parts.with_three.Goals as goal

pub returns : goal.returns
returns c = three_steps _ _ _ _ _ c.with_number-first.ensures c.with_number-second.ensures
    c.with_number.ensures
