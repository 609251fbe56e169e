use native.Mathlib.Omega.{arith}
use Rattle.check_items.specs.JoinLaws.{first_low_lem}
use Rattle.laws.specs.TestLaws.{as_low}
use Rattle.check_items.proofs.joins.first_low.Goals as goal

pub returns : goal.returns
returns c = first_low_lem _ _ _ _ _ c.loop_of.ensures.0 (omega (arith, as_low))
