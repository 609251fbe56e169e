use Rattle.std.proofs.Common.{refl}
use Rattle.runs_take.specs.Outcome.{few, behind_none, behind_some}
use Rattle.runs_take.proofs.take.take_behind.Goals as goal

pub returns-then-count-eq0 : goal.returns-then-count-eq0
returns-then-count-eq0 c = behind_none _ c.requires.small _ _ _ _ _ c.pattern_of-pattern.ensures _ c.if-count-eq0.true _
    refl _

pub scan_operands-scanned-requires-clause-count_bound : goal.scan_operands-scanned-requires-clause-count_bound
scan_operands-scanned-requires-clause-count_bound c = few _ _ c.pattern_of-pattern.ensures

pub returns : goal.returns
returns c = behind_some _ c.requires.small _ _ _ _ _ c.pattern_of-pattern.ensures _ c.if-count-eq0.false _
    c.scan_operands-scanned.ensures _ c.settle.ensures
