use Rattle.kernel.proofs.zoghvari_read.Goals as goal

pub returns : goal.returns
returns c = c.read_operator.ensures
