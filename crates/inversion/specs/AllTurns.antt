-- Every kind of turn, put together.
use Rattle.std.proofs.Common.{⊎_elim}
use Rattle.layout.specs.Items.{face_in}
use Rattle.laws.specs.Bools.{split, ask}
use Rattle.euler.specs.Queries.{faces_in}
use Rattle.takedown.specs.Inversion.{solid_at, edges_left, ring_half, spur_half, ring_of}
use Rattle.inversion.specs.Lacks.{face_left, loop_left, edge_left}
use Rattle.inversion.specs.Turn.{TurnsMade}
use Rattle.inversion.specs.TurnAcross.{turn_across}
use Rattle.inversion.specs.TurnRing.{turn_ring}
use Rattle.inversion.specs.TurnSpur.{turn_spur}
use Rattle.inversion.specs.TurnCross.{turn_cross}
use Rattle.inversion.specs.TurnBridge.{turn_bridge}
use Rattle.inversion.specs.TurnLast.{turn_last}

pub turns_made : TurnsMade
turns_made sh x p g enough sn =
    split (faces_in sh x (solid_at sh x)) 1
    (λ one. ⊎_elim
    (λ left. split (ring_half sh x (solid_at sh x)) 0
    (λ none. split (spur_half sh x (solid_at sh x)) 0 (λ z. turn_cross g
    (loop_left sh x enough one left none z) sn one left none z)
    (λ d. turn_spur g sn one left none d))
    (λ d. turn_ring g (face_left sh x enough one left d) sn one left d))
    (λ left. split (ring_of sh x (face_in sh x (solid_at sh x))) 0 (λ z. turn_last g sn one left z)
    (λ d. turn_bridge g (edge_left sh x enough one left d) sn one left d))
    (ask (edges_left sh x (solid_at sh x))))
    (λ many. turn_across g sn many)
