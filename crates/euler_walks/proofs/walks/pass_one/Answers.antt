use Rattle.euler_walks.proofs.walks.pass_one.Goals as goal

pub returns : goal.returns
returns c = record {
  links_after = c.set_loop.ensures;
  value = c.next_of-next.ensures;
}
