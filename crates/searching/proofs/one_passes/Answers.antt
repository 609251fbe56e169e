use Rattle.std.specs.Prelude.{◌+◌}
use Rattle.std.proofs.Common.{arith}
use Rattle.searching.proofs.one_passes.Goals as goal

pub returns-then-test : goal.returns-then-test
returns-then-test g c = record {
  found = (c.loop-k.k + 1, omega arith, omega (arith, c.loop-k-test.true), c.if-test.ensures);
}
