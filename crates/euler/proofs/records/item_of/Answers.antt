use Rattle.std.proofs.Common.{arith}
use Rattle.euler.specs.RecordLaws.{item_number, item_none}
use Rattle.euler.proofs.records.item_of.Goals as goal

pub returns-then-n-le-MOST_HALVES : goal.returns-then-n-le-MOST_HALVES
returns-then-n-le-MOST_HALVES c =
    (item_number c.args.op c.args.i _ c.operand-n.ensures.0 c.if-n-le-MOST_HALVES.true, c.if-n-le-MOST_HALVES.true)

pub returns-else-n-le-MOST_HALVES : goal.returns-else-n-le-MOST_HALVES
returns-else-n-le-MOST_HALVES c =
    (item_none c.args.op c.args.i _ c.operand-n.ensures.0 (omega (arith, c.if-n-le-MOST_HALVES.false)), omega arith)
