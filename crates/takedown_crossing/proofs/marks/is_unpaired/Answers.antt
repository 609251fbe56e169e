use native.Mathlib.Omega.{arith}
use Rattle.takedown_crossing.specs.Marking.{unpaired_no, unpaired_is, unpaired_range}
use Rattle.takedown_crossing.proofs.marks.is_unpaired.Goals as goal

pub returns-then-k-n : goal.returns-then-k-n
returns-then-k-n c = unpaired_no c.args.n c.args.marks.now c.args.k c.if-k-n.true

pub bounds-marks-m : goal.bounds-marks-m
bounds-marks-m c = omega (
  arith,
  c.mate_of-m.ensures.2,
  (unpaired_range c.args.n c.args.marks.now c.args.k
      c.if-k-n.false).1,
  c.requires.0,
)

pub returns : goal.returns
returns c = unpaired_is c.args.n c.args.marks.now
    c.args.k c.if-k-n.false _ c.mate_of-m.ensures.0
