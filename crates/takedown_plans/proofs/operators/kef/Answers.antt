use Rattle.takedown_plans.proofs.operators.kef.Goals as goal

pub returns : goal.returns
returns c = rw (c.with_number.ensures, c.blank.ensures)
