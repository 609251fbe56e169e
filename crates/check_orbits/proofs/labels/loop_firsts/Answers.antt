use Rattle.std.proofs.Common.{arith}
use Rattle.check_orbits.specs.LabelsLaws.{down_turn, down_out, long_set}
use Rattle.check_orbits.proofs.labels.loop_firsts.Goals as goal

pub loop-l-preserved : goal.loop-l-preserved
loop-l-preserved c = let inv = c.loop-l.invariant in (
  long_set c.loop-l.firsts _ _ _ _ inv.0 c.put_entry.ensures,
  down_turn _ _ _ _ _ inv.1 (omega arith) (cc),
)

pub returns : goal.returns
returns c = down_out _ _ _ _ c.loop-l.invariant.1 (omega arith)
