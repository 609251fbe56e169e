use native.Mathlib.Omega.{arith}
use Rattle.numbers.specs.NumberLaws.{groups_size}
use Rattle.script.specs.OperatorLaws.{size_is, put_done}
use Rattle.sweep_puts.proofs.place.put_bytes.Goals as goal

pub write_number-behind-requires : goal.write_number-behind-requires
write_number-behind-requires c = omega (
  arith,
  groups_size c.args.op.code,
)

pub write_operands-requires : goal.write_operands-requires
write_operands-requires c = omega (
  arith,
  groups_size c.args.op.code,
  c.operands_size-size.ensures,
  c.write_number-behind.ensures.value,
)

pub overflow_sub-result : goal.overflow_sub-result
overflow_sub-result c = omega (arith, c.write_number-behind.ensures.value)

pub overflow_add-result : goal.overflow_add-result
overflow_add-result c = record {
  fits = omega (
    arith,
    groups_size c.args.op.code,
    c.write_number-behind.ensures.value,
    c.operands_size-size.ensures,
  );
}

pub returns : goal.returns
returns c = let e = size_is c.args.op _ c.pattern_of-pattern.ensures _
    c.to_wires-numbers.ensures in
    let g = groups_size c.args.op.code in
    let n = c.write_number-behind.ensures.value in
    let o = c.operands_size-size.ensures in record {
      value = (omega (arith, e, n, o.0), omega (arith, g, n, o.1));
      out_after = put_done c.args.op _ c.pattern_of-pattern.ensures _
          c.to_wires-numbers.ensures _ _
          _ _ _ (omega (arith, e, g, o.0, o.1)) c.write_number-behind.ensures.out_after n
          c.write_operands.ensures;
    }
