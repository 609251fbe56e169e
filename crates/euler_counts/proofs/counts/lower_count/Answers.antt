use Rattle.std.proofs.Common.{rules, ◌≤◌}
use Rattle.bounds.specs.Bounds.{most_items}
use Rattle.euler_counts.specs.CountLaws.{low_in, low_out}
use Rattle.euler_counts.proofs.counts.lower_count.Goals as goal

pub returns-then-contains : goal.returns-then-contains
returns-then-contains c =
    let l : 1 ≤ c.args.f = search rules in
    let u : c.args.f ≤ most_items = search rules in
    low_in c.args.counts.now _ _ l u c.saturating_sub.ensures

pub returns-else-contains : goal.returns-else-contains
returns-else-contains c = low_out _ _ (search rules)
