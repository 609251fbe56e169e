use native.Mathlib.Omega.{arith}
use Rattle.codec.specs.SignedLaws.{odd_fits, odd_is, even_is}
use lib.Bits.{and_mask}
use Rattle.codec.proofs.operands.unzigzag.Goals as goal

pub overflow_sub-result : goal.overflow_sub-result
overflow_sub-result c = odd_fits c.args.n (omega arith)

pub returns-then-n-eq1 : goal.returns-then-n-eq1
returns-then-n-eq1 c = odd_is _ (omega arith) (rw (and_mask c.args.n 1) at c.if-n-eq1.true)

pub returns : goal.returns
returns c = even_is _ (omega arith) (rw (and_mask c.args.n 1) at c.if-n-eq1.false)
