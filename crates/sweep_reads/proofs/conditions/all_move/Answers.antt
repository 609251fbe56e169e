use Rattle.searching.specs.SearchingLaws.{all_by}
use Rattle.std.proofs.Common.{rules}
use Rattle.sweep_reads.proofs.conditions.all_move.Goals as goal

pub returns : goal.returns
returns c = all_by _ c.all_pass.ensures (λ k l u b p. search rules)
