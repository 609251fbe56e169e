use Rattle.wavefront.specs.Obj.{concat_map, passing_to, face_line, own_face}
use Rattle.text.specs.Put.{Put}
use lib.ListN.{get_or}
use Prim.Native.Nat.{◌+◌, ◌*◌, ◌≤◌}
use Rattle.wavefront_text.proofs.lines.put_faces.Given as goal

abbrev pub invariant-loop-f : goal.invariant-loop-f
invariant-loop-f l = (l.place ≤ l.at + 40962 * l.f)
    × Put l.initial.out l.at
    (concat_map (face_line l.sh l.links (λ v. get_or l.ranks v 0)) (passing_to l.f (own_face l.sh l.links l.s)))
    l.place l.out
