use Rattle.euler_counted.specs.Moved.{killed_links, killed_points, killed_counts}
use Rattle.euler_counted.proofs.counted.perform_counted.Goals as goal

pub returns-in-2 : goal.returns-in-2
returns-in-2 c = let e = c.in-2.is in
    let a = c.item_at.ensures.0 in
    let d = c.kill_counted.ensures in
    let t = killed_counts _ _ _ _ _ e a _ _ d.2 in
    record {
      links_after = (killed_links _ _ _ _ _ e a _ d.0, killed_points _ _ _ _ _ e a _ _ d.1);
      counts_after = t;
    }
