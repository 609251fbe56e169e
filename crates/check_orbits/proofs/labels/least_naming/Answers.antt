use Rattle.std.proofs.Common.{arith}
use Rattle.check_orbits.specs.LabelsLaws.{least_turn, down_out, long_set}
use Rattle.check_orbits.proofs.labels.least_naming.Goals as goal

pub loop-k-preserved : goal.loop-k-preserved
loop-k-preserved c = let inv = c.loop-k.invariant in (
  long_set c.loop-k.least _ _ _ _ inv.0 c.put_entry.ensures,
  least_turn _ _ _ c.loop-k.k _ _ _ inv.1 (omega arith) c.cell-v.ensures.0 (omega arith) c.put_entry.ensures,
)

pub returns : goal.returns
returns c = down_out _ _ _ _ c.loop-k.invariant.1 (omega arith)
