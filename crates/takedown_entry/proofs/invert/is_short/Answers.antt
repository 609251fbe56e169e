use mathlib.Core.Path.{ap}
use Prim.Native.Nat.{◌*◌}
use lib.Dec.{ltb}
use Rattle.takedown_entry.proofs.invert.is_short.Goals as goal

pub returns : goal.returns
returns c = ap (λ m. ltb c.args.start (19 * m)) c.bound-most.ensures.0
