use borrow.Author.Tests.{lt-leb}
use Rattle.codec.specs.OperandLaws.{range_low, range_high, range_out}
use Rattle.codec.proofs.operands.in_range.Goals as goal

pub returns-then-k-n : goal.returns-then-k-n
returns-then-k-n c = let e = c.from-k.ensures in rw e (range_high _ _ _ (rw e at c.if-k-n.true))

pub returns-else-k-n : goal.returns-else-k-n
returns-else-k-n c = let e = c.from-k.ensures in
    let h = rw e at c.if-k-n.false in
    rw (e, lt-leb _ _ h) (range_low _ _ _ h)

pub returns-else-k-lt15 : goal.returns-else-k-lt15
returns-else-k-lt15 c = range_out _ _ _ c.requires (rw c.from-k.ensures at c.if-k-lt15.false)
