use Rattle.euler_counted.specs.Moved.{counts_steps}
use Rattle.euler_counted.proofs.counted.move_counted.Goals as goal

pub returns : goal.returns
returns c = let t =
    counts_steps _ _ _ _ _ _ _ _ _ _ _ c.moved_loop-l.ensures.0 c.loop_face-old.ensures.0
    c.perform.ensures.0 c.lower_count.ensures c.loop_face.ensures.0 c.raise_count.ensures in
    record {
      links_after = (c.perform.ensures.0, c.perform.ensures.1);
      counts_after = t;
    }
