use Rattle.std.proofs.Common.{rules}
use Rattle.searching.specs.SearchingLaws.{count_by}
use Rattle.table.specs.CountLaws.{tally_is}
use Rattle.table.proofs.count.tally_of.Goals as goal

pub returns : goal.returns
returns c = tally_is c.args.sh c.args.links.now _ _ _ _ _ _ _
    (count_by _ c.count-solids.ensures (λ k l u b p. search rules))
    (count_by _ c.count-faces.ensures (λ k l u b p. search rules))
    (count_by _ c.count-loops.ensures (λ k l u b p. search rules))
    (count_by _ c.count-edges.ensures (λ k l u b p. search rules))
    (count_by _ c.count-vertices.ensures (λ k l u b p. search rules))
    (count_by _ c.count-rings.ensures (λ k l u b p. search rules))
    c.holes_of-holes.ensures
