use Rattle.wavefront.specs.Obj.{concat_map, lap, corner_word}
use Rattle.text.specs.Put.{Put}
use Rattle.layout.specs.Layout.{prev_of}
use Rattle.std.proofs.Common.{length, get_or, ◌-◌, ◌+◌, ◌*◌, ◌≤◌}
use Rattle.std.proofs.lemmas.List.Edits.{sets}
use Rattle.wavefront_text.proofs.lines.put_face.Given as goal

abbrev pub invariant-loop : goal.invariant-loop
invariant-loop l = (l.place ≤ l.initial.place + 5 * l.counter) × (l.k ≤ 65536)
    × Put l.out l.place (concat_map (corner_word l.sh l.links (λ v. get_or l.ranks v 0))
    (lap (prev_of l.sh l.links) l.first (l.end - l.counter) l.k))
    (l.initial.place + length (concat_map (corner_word l.sh l.links (λ v. get_or l.ranks v 0))
    (lap (prev_of l.sh l.links) l.first l.end l.initial.k)))
    (sets l.initial.out l.initial.place (concat_map (corner_word l.sh l.links (λ v. get_or l.ranks v 0))
    (lap (prev_of l.sh l.links) l.first l.end l.initial.k)))
