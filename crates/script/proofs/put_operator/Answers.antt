use native.Mathlib.Omega.{arith}
use Rattle.script.specs.OperatorLaws.{size_is, put_done, put_not}
use Rattle.script.proofs.put_operator.Goals.{then-out-size-via-then-out-size}
use Rattle.script.proofs.put_operator.Goals.{then-out-size-via-else-out-size+then-out-size-2}
use Rattle.script.proofs.put_operator.Goals as goal

pub returns-then-out-size : goal.returns-then-out-size
returns-then-out-size c = put_not _ _ _ (elim c.then-out-size.branch [
  | then-out-size-via-then-out-size w ↦ omega arith
  | then-out-size-via-else-out-size+then-out-size-2 w ↦ omega arith
])

pub write_number-behind-requires : goal.write_number-behind-requires
write_number-behind-requires c = let e = size_is c.args.op _ c.pattern_of.ensures _ c.to_wires-numbers.ensures in
    rw c.from.ensures (omega arith)

pub write_operands-requires : goal.write_operands-requires
write_operands-requires c = let e = size_is c.args.op _ c.pattern_of.ensures _ c.to_wires-numbers.ensures in
    let w = rw c.from.ensures at c.write_number-behind.ensures in omega arith

pub returns : goal.returns
returns c = let w = rw c.from.ensures at c.write_number-behind.ensures in
    put_done _ _ c.pattern_of.ensures _ c.to_wires-numbers.ensures _ _ _ _ _ (omega arith) w.out_after w.value
    c.write_operands.ensures
