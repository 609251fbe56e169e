use native.Mathlib.Omega.{arith}
use Rattle.script.specs.OperatorLaws.{before_filled, before_size, before_done}
use Rattle.script.proofs.put_before.Goals as goal

pub put_operands_before-behind-requires : goal.put_operands_before-behind-requires
put_operands_before-behind-requires c = let e = c.pattern_of-count.ensures in
    let s = before_size c.args.op _ e in
    record {
      kinds_value = rw c.from.ensures (before_filled c.args.op _ e);
      args_len_bound = (omega arith, omega arith);
    }

pub write_before-requires : goal.write_before-requires
write_before-requires c = let s = before_size c.args.op _ c.pattern_of-count.ensures in
    let r = c.put_operands_before-behind.ensures.value in
    rw c.from-2.ensures (omega arith, omega arith)

pub returns : goal.returns
returns c = let o = c.put_operands_before-behind.ensures in
    let w = rw c.from-2.ensures at c.write_before.ensures in
    let both = before_done c.args.op _ c.pattern_of-count.ensures _ _ _ _ _ _ (omega arith) (omega arith) o.value
    o.out_after w.value w.out_after in
    record { value = both.0; out_after = both.1 }
