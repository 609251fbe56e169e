use Rattle.takedown_plans.proofs.operators.kemr.Goals as goal

pub returns : goal.returns
returns c = rw (c.with_number-2.ensures, c.with_number.ensures, c.blank.ensures)
