use Rattle.check_items.specs.JoinLaws.{half_links_is}
use Rattle.check_items.proofs.joins.half_links.Goals as goal

pub returns : goal.returns
returns c = half_links_is _ _ _ _ _ _ _ _ _ _ _ _ _ _ _
    c.start_of-v.ensures.0
    c.loop_of-l.ensures.0
    c.next_of-a.ensures.0
    c.prev_of-b.ensures.0
    c.loop_first-first.ensures.0
    c.prev_of-back.ensures.0
    c.next_of-forth.ensures.0
    c.mate_of.ensures.0 c.start_of-end.ensures.0
    c.start_of-start.ensures.0 c.loop_of-next_loop.ensures.0 c.first_low-low.ensures
