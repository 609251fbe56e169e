use Rattle.euler_splits.proofs.semv_jekv.insert_after.Goals as goal

pub returns : goal.returns
returns c = rw (c.set_between.ensures, c.put_half.ensures, c.next_of-o.ensures.0)
