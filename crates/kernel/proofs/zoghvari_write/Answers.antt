use Rattle.kernel.proofs.zoghvari_write.Goals as goal

pub returns : goal.returns
returns c = c.write_operator.ensures
