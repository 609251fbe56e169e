use Rattle.std.proofs.Common.{sym, ◌∙◌}
use Rattle.check_shells.specs.ForestLaws.{climb_turn, climb_end}
use Rattle.check_shells.proofs.forest.find_root.Goals as goal

pub loop-p-preserved : goal.loop-p-preserved
loop-p-preserved c = (
  c.from-p-in-loop-p.ensures,
  climb_turn c.loop-p.invariant.1 _ _ c.loop-p.invariant.0 c.from-k.ensures,
)

pub returns : goal.returns
returns c = (
  climb_end c.loop-p.invariant.1 (sym c.loop-p.invariant.0 ∙ c.loop-p-test.false),
  c.loop-p.invariant.1.low,
  c.loop-p.invariant.1.kept,
)
