use native.Mathlib.Omega.{arith}
use Rattle.takedown_turns.specs.TurnLaws.{last_is}
use Rattle.takedown_turns.proofs.turn.last.Goals as goal

pub returns : goal.returns
returns c = (
  last_is _ _ _ _ _ _ c.kvsf.ensures
      c.act-a.ensures.0 c.enter-ends.ensures.0,
  omega (arith, c.act-a.ensures.1),
  c.enter-ends.ensures.1,
)
