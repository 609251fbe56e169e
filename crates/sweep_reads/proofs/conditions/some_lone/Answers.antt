use Rattle.searching.specs.SearchingLaws.{one_by}
use Rattle.std.proofs.Common.{rules}
use Rattle.sweep_reads.proofs.conditions.some_lone.Goals as goal

pub returns : goal.returns
returns c = one_by _ c.one_passes.ensures (λ k l u b p. search rules)
