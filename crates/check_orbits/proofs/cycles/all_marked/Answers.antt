use Rattle.std.proofs.Common.{rules}
use Rattle.searching.specs.SearchingLaws.{all_by}
use Rattle.laws.specs.Marks.{all_marked}
use Rattle.check_orbits.proofs.cycles.all_marked.Goals as goal

pub returns : goal.returns
unfolding all_marked
returns c = all_by _ c.all_pass.ensures (λ k l u b p. search rules)
