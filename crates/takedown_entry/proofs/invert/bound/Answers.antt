use native.Mathlib.Omega.{arith}
use Rattle.takedown_entry.proofs.invert.bound.Goals as goal

pub returns : goal.returns
returns c = (omega (arith, c.saturating_sub.ensures), omega (arith, c.saturating_sub.ensures))
