use Rattle.std.proofs.Common.{arith}
use Rattle.searching.specs.SearchingLaws.{none_to}
use Rattle.searching.proofs.least.Given as given
use Rattle.searching.proofs.least.Goals as goal

pub loop-k-init : goal.loop-k-init
loop-k-init g c = (omega arith, λ j a b. absurd (omega (arith, a, b)))

pub test-requires : goal.test-requires
test-requires g c = c.requires _ c.loop-k.invariant.0 c.loop-k-test.true

pub returns-then-test : goal.returns-then-test
returns-then-test g c = record {
  found = (c.loop-k.invariant.0, c.loop-k-test.true, c.if-test.ensures, c.loop-k.invariant.1);
}

-- no number lies behind MAX
pub returns-then-k : goal.returns-then-k
returns-then-k g c = record {
  found = λ j a b.
      none_to (given.F-post g c.args.test) _ c.loop-k.invariant.1 c.if-test.ensures j a
      (omega (arith, b, c.if-k.true, c.ranges.n));
}

pub loop-k-preserved : goal.loop-k-preserved
loop-k-preserved g c = (
  omega (arith, c.loop-k.invariant.0),
  λ j a b.
      none_to (given.F-post g c.args.test) _ c.loop-k.invariant.1 c.if-test.ensures j a (omega (arith, b)),
)

pub returns : goal.returns
returns g c = record { found = λ j a b. c.loop-k.invariant.1 j a (omega (arith, b, c.loop-k-test.false)) }
