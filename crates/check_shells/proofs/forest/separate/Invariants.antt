use Rattle.check_shells.specs.Forest.{Apart}
use Rattle.check_shells.proofs.forest.separate.Given as goal

abbrev pub invariant-loop-i : goal.invariant-loop-i
invariant-loop-i l = Apart l.parent l.i
