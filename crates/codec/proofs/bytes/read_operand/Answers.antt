use Rattle.codec.specs.ReadLaws.{operand_unused, operand_number}
use Rattle.codec.proofs.bytes.read_operand.Goals as goal

pub returns-then-kind-eq-NONE : goal.returns-then-kind-eq-NONE
returns-then-kind-eq-NONE c = operand_unused _ _ _ c.if-kind-eq-NONE.true

pub returns : goal.returns
returns c = operand_number _ _ _ c.if-kind-eq-NONE.false _ c.read_number.ensures
