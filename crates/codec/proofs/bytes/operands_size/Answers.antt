use native.Mathlib.Omega.{arith}
use Rattle.codec.specs.WriteLaws.{size_next, size_end}
use Rattle.codec.proofs.bytes.operands_size.Goals as goal

pub loop-i-preserved : goal.loop-i-preserved
loop-i-preserved c = let v = c.loop-i.invariant in
    let e = size_next c.args.kinds c.args.numbers c.loop-i.i v.0 v.1 c.loop-i-test.true in
    (v.0, v.1, omega arith, omega arith)

pub returns : goal.returns
returns c = let v = c.loop-i.invariant in
    let e = size_end c.args.kinds c.args.numbers c.loop-i.i v.0 v.1 (omega arith) in (omega arith, omega arith)
