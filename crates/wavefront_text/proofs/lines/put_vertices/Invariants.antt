use Rattle.wavefront.specs.Obj.{concat_map, passing_to, vertex_line}
use Rattle.text.specs.Put.{Put}
use Rattle.layout.specs.Items.{some}
use lib.ListN.{get_or}
use Prim.Native.Nat.{◌*◌, ◌≤◌}
use Rattle.wavefront_text.proofs.lines.put_vertices.Given as goal

abbrev pub invariant-loop-v : goal.invariant-loop-v
invariant-loop-v l = (l.at ≤ 26 * l.v)
    × Put l.initial.out 0 (concat_map (vertex_line l.points) (passing_to l.v (λ u. some (get_or l.ranks u 0)))) l.at
    l.out
