use Rattle.std.proofs.Common.{arith}
use Rattle.runs.specs.MoveLaws.{beyond_moved, part_moved}
use Rattle.runs_move.proofs.move_operators.Goals as goal

pub returns-then-from-source : goal.returns-then-from-source
returns-then-from-source c = rw c.number.ensures (beyond_moved _ _ _ _ (omega (arith, c.if-from-source.true)))

pub returns : goal.returns
returns c = part_moved _ _ _ _ (omega (arith, c.if-from-source.false)) _ c.run_part-r.ensures _ c.due_refusal.ensures
