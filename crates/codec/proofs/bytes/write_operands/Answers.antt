use native.Mathlib.Omega.{arith}
use Rattle.codec.specs.WriteLaws.{size_next, write_turn, write_end}
use Rattle.codec.proofs.bytes.write_operands.Goals as goal

pub write_operand-p-requires : goal.write_operand-p-requires
write_operand-p-requires c = let v = c.loop-i.invariant in
    let e = size_next c.args.kinds c.args.numbers c.loop-i.i v.0 v.1 c.loop-i-test.true in omega arith

pub loop-i-preserved : goal.loop-i-preserved
loop-i-preserved c = let v = c.loop-i.invariant in
    let e = size_next c.args.kinds c.args.numbers c.loop-i.i v.0 v.1 c.loop-i-test.true in (
      v.0,
      v.1,
      omega arith,
      omega arith,
      v.4,
      write_turn _ _ _ v.0 v.1 c.loop-i-test.true _ _ _ _ _ v.5 c.write_operand-p.ensures.out_after
          c.write_operand-p.ensures.value,
    )

pub returns : goal.returns
returns c = let v = c.loop-i.invariant in write_end _ _ _ v.0 v.1 (omega arith) _ _ _ v.5
