use Rattle.std.proofs.Common.{arith, get_or}
use Rattle.laws.specs.TestLaws.{as_far}
use Rattle.check_rules.specs.LabelsLaws.{vertex_free, vertex_miscounted, vertex_isolated, vertex_starting}
use Rattle.check_rules.proofs.labels.vertex_either.Goals as goal

pub returns-then-u-eq0 : goal.returns-then-u-eq0
returns-then-u-eq0 c = vertex_free _ _ _ _ _ (omega arith)

pub returns-then-u-k : goal.returns-then-u-k
returns-then-u-k c = vertex_miscounted _ _ _ _ _ (omega arith) (omega arith)

pub returns-then-c-eq1 : goal.returns-then-c-eq1
returns-then-c-eq1 c = vertex_isolated _ _ _ _ _ _ (omega arith) (omega arith) (omega (arith, as_far))

pub returns : goal.returns
returns c = vertex_starting _ _ _ _ _ (get_or c.args.isolated.now c.args.n 0) c.from-k.result
    (omega arith) (omega arith) (omega arith) (omega arith)
