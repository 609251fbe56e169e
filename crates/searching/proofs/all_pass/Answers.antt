use Rattle.std.specs.Prelude.{◌+◌}
use Rattle.std.proofs.Common.{arith}
use Rattle.searching.proofs.all_pass.Goals as goal

pub returns-then-not-test : goal.returns-then-not-test
returns-then-not-test g c = record {
  found = (c.loop-k.k + 1, omega arith, omega (arith, c.loop-k-test.true), c.if-not-test.ensures);
}
