use Rattle.std.proofs.Common.{rules, arith, ◌≤◌}
use Rattle.bounds.specs.Bounds.{most_items}
use Rattle.euler_counts.specs.CountLaws.{raise_in, raise_out}
use Rattle.euler_counts.proofs.counts.raise_count.Goals as goal

pub returns-then-contains : goal.returns-then-contains
returns-then-contains c =
    let l : 1 ≤ c.args.f = search rules in
    let u : c.args.f ≤ most_items = search rules in
    raise_in c.args.counts.now _ _ l u (omega arith) c.saturating_add.ensures

pub returns-else-contains : goal.returns-else-contains
returns-else-contains c = raise_out _ _ (search rules)
