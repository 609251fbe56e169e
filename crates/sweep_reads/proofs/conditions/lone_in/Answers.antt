use Rattle.sweep_reads.proofs.conditions.lone_in.Goals as goal

pub returns : goal.returns
returns c = cc
