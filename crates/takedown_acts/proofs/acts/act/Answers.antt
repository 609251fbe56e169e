use Rattle.euler_effects.specs.Performed.{links_performed, points_performed}
use native.Mathlib.Omega.{arith}
use Rattle.takedown_acts.specs.ActLaws.{act_is}
use Rattle.takedown_acts.proofs.acts.act.Goals as goal

pub returns : goal.returns
returns c = let f = c.perform.ensures in (
  act_is _ _ _ _ _ _ _ _ _ _ _ _ _ _ (omega arith) c.inverse_of-inverse.ensures
      c.operator_size-size.ensures.0 c.saturating_sub-start.ensures (links_performed _ _ _ _ f.0)
      (points_performed _ _ _ _ _ f.1) c.put_operator.ensures,
  omega arith,
)
