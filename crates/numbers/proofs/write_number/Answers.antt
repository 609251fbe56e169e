use native.Mathlib.Omega.{arith}
use lib.ListN.{length-set}
use Rattle.numbers.specs.NumberLaws.{size_1, size_2, size_3, wrote_1, wrote_2, wrote_3}
use Rattle.numbers.proofs.write_number.Goals as goal

pub bounds-out-at : goal.bounds-out-at
bounds-out-at c = omega (arith, size_1 _ c.if-n-lt128.true)

pub returns-then-n-lt128 : goal.returns-then-n-lt128
returns-then-n-lt128 c = record {
  value = omega (arith, size_1 _ c.if-n-lt128.true);
  out_after = wrote_1 _ _ _ _ c.if-n-lt128.true c.low_group.ensures;
}

pub bounds-out-at-then-n-lt16384 : goal.bounds-out-at-then-n-lt16384
bounds-out-at-then-n-lt16384 c = omega (arith, size_2 _ c.if-n-lt128.false c.if-n-lt16384.true)

pub bounds-out-at-then-n-lt16384-2 : goal.bounds-out-at-then-n-lt16384-2
bounds-out-at-then-n-lt16384-2 c = simp length-set (omega (arith, size_2 _ c.if-n-lt128.false c.if-n-lt16384.true))

pub returns-then-n-lt16384 : goal.returns-then-n-lt16384
returns-then-n-lt16384 c = record {
  value = omega (arith, size_2 _ c.if-n-lt128.false c.if-n-lt16384.true);
  out_after = wrote_2 _ _ _ _ _ c.if-n-lt128.false c.if-n-lt16384.true
      c.more_group.ensures c.low_group-then-n-lt16384.ensures;
}

pub bounds-out-at-2 : goal.bounds-out-at-2
bounds-out-at-2 c = omega (arith, size_3 _ c.if-n-lt16384.false)

pub bounds-out-at-3 : goal.bounds-out-at-3
bounds-out-at-3 c = simp length-set (omega (arith, size_3 _ c.if-n-lt16384.false))

pub bounds-out-at-4 : goal.bounds-out-at-4
bounds-out-at-4 c = simp length-set (omega (arith, size_3 _ c.if-n-lt16384.false))

pub returns : goal.returns
returns c = record {
  value = omega (arith, size_3 _ c.if-n-lt16384.false);
  out_after = wrote_3 _ _ _ _ _ _ c.if-n-lt16384.false c.more_group-2.ensures
      c.more_group-3.ensures c.low_group-2.ensures;
}
