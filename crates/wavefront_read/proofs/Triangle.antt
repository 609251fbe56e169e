-- An instance that goes through the assumptions of `text_shows`: the triangle with two sides.
use Rattle.std.specs.Prelude.{refl}
use Rattle.laws.specs.Search.{all_to, least_from}
use Rattle.laws.specs.Sums.{sum_to}
use Rattle.laws.specs.Walks.{meets}
use Rattle.laws.specs.Closure.{across, pass, rounds, linkedb}
use Rattle.layout.specs.Layout.{shape_of}
use Rattle.layout.specs.Mate.{mate}
use Rattle.check_items.specs.Rules.{solid_range, face_range, loop_range, half_range, vertex_range, rule1, solid_names}
use Rattle.check_items.specs.Rules.{face_names, loop_names, half_names, rule2, loop_either, rule3, half_links}
use Rattle.check_items.specs.Rules.{first_names}
use Rattle.check_items.specs.Rules.{half_in_loop, rule4, vertex_either, half_at_vertex, rule5, half_sides, face_linked}
use Rattle.check_items.specs.Rules.{rule6}
use Rattle.check_items.specs.Rules.{broken_rule}
use Rattle.table.specs.Sizes.{sizes_fit}
use Rattle.table.specs.Check.{check_of}
use Rattle.wavefront.specs.Obj.{no_ring_nor_lone, three_sided, solid_refusal}
use Rattle.wavefront_read.specs.Shown.{TextShows}
use Rattle.wavefront_read.specs.Instances.{triangle_links, triangle_points}
use Rattle.wavefront_read.proofs.TextShows.{text_shows}

-- it passes the check and solid 1 is not refused
pub triangle : TextShows (shape_of triangle_links) triangle_links triangle_points 1
unfolding check_of sizes_fit broken_rule rule1 rule2 rule3 rule4 rule5 rule6 solid_range face_range loop_range
    half_range
    vertex_range solid_names face_names loop_names half_names loop_either half_links first_names half_in_loop
    vertex_either
    half_at_vertex half_sides face_linked all_to least_from sum_to meets linkedb rounds pass across mate
    no_ring_nor_lone
    three_sided solid_refusal
triangle = text_shows triangle_links triangle_points refl 1 refl
