use native.Mathlib.Omega.{arith}
use Rattle.numbers.specs.NumberLaws.{groups_size}
use Rattle.script.specs.OperatorLaws.{size_is}
use Rattle.script.proofs.operator_size.Goals as goal

pub overflow_add-result : goal.overflow_add-result
overflow_add-result c = omega (arith, groups_size c.from.result)

pub returns : goal.returns
returns c = let e = size_is c.args.op _ c.pattern_of.ensures _ c.to_wires-numbers.ensures in
    let n = rw c.from.ensures at c.number_size.ensures in
    omega (arith, groups_size c.args.op.code)
