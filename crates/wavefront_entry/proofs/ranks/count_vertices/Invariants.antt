use Rattle.wavefront_entry.specs.RankLaws.{is_marked, CountedTo}
use Rattle.bounds.specs.Bounds.{item_places}
use Rattle.laws.specs.Sums.{count_to}
use lib.ListN.{length}
use mathlib.Core.Path.{◌≡◌}
use Rattle.wavefront_entry.proofs.ranks.count_vertices.Given as goal

abbrev pub invariant-loop-v : goal.invariant-loop-v
invariant-loop-v l = (length l.initial.ranks ≡ item_places)
    × (l.last ≡ count_to l.v (is_marked l.initial.ranks)) × CountedTo l.initial.ranks l.v l.ranks
