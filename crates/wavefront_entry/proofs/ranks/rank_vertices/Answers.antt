use Rattle.wavefront_entry.specs.RankLaws.{ranked_all}
use Rattle.wavefront_entry.proofs.ranks.rank_vertices.Goals as goal

pub returns : goal.returns
returns c = ranked_all _ _ _ _ _ c.requires.vertices
    c.mark_vertices.ensures c.count_vertices.ensures
