use Rattle.takedown_plans.proofs.operators.mekr.Goals as goal

pub returns : goal.returns
returns c = rw (
  c.with_number-2.ensures,
  c.with_number.ensures,
  c.with_number-d.ensures,
  c.with_number-c.ensures,
  c.with_number-b.ensures,
  c.with_number-a.ensures,
  c.blank.ensures,
)
