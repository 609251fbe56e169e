-- Slips in the take-down.
use Rattle.std.specs.Prelude.{ℕ, List, [], ◌∷◌, eqb, ℤ, pos, replicate}
use Rattle.laws.specs.Sums.{bit}
use Rattle.layout.specs.Layout.{shape_of}
use Rattle.euler.specs.Exec.{links_after}
use Rattle.runs.specs.Run.{State, state}
use Rattle.takedown.specs.Inversion.{Inverted, kemr, rmov, free_loop, Work, links_in, act, moved_ring, turn_ring}
use Rattle.takedown.specs.Inversion.{ring_at}
use Rattle.takedown.specs.Inversion.{lack_at, invert_by, begin, inverted_by, invert_of}
use Rattle.evidence_cases.specs.Tables.{links_b, links_d, links_e, points_zero, points_at}
use Rattle.evidence_slips.specs.Slip.{Slip, row}

-- ---- tables

-- a circle that fills its table: two faces, one edge, one vertex
abbrev links_circle : List ℕ
links_circle =
    1 ∷ 2 ∷ 2 ∷ 1 ∷ 1 ∷ 1 ∷ 1 ∷ 1 ∷ 1 ∷ 2 ∷ 1 ∷ 1 ∷ 0 ∷ 2 ∷ 2 ∷ 0 ∷ 1 ∷ 1 ∷ 1 ∷ 1 ∷ 1 ∷ 2 ∷ 2 ∷ 2 ∷ 3 ∷ []

-- a torus of two edges with no free face: after kemr 1 2 one is called for
abbrev links_torus : List ℕ
links_torus =
    1 ∷ 1 ∷ 2 ∷ 2 ∷ 1 ∷ 1 ∷ 1 ∷ 1 ∷ 1 ∷ 1 ∷ 0 ∷ 0 ∷ 0 ∷ 0 ∷ 1 ∷ 1 ∷ 3 ∷ 4 ∷ 1 ∷ 1 ∷ 4 ∷ 3 ∷ 1 ∷ 1 ∷ 2 ∷ 1 ∷ 1 ∷ 1
    ∷ 1 ∷ 2 ∷ 5 ∷ []

-- a circle between two faces; face 2 has the ring 2, which is lone, and the outer loop 3
abbrev links_ringed : List ℕ
links_ringed =
    1 ∷ 2 ∷ 3 ∷ 1 ∷ 2 ∷ 1 ∷ 1 ∷ 1 ∷ 1 ∷ 3 ∷ 1 ∷ 1 ∷ 0 ∷ 2 ∷ 0 ∷ 2 ∷ 2 ∷ 2 ∷ 0 ∷ 1 ∷ 1 ∷ 1 ∷ 1 ∷ 1 ∷ 3 ∷ 2 ∷ 2 ∷ 3 ∷ 1
    ∷ []

-- e with one face and three loops: loop 3 is free, and no face
abbrev links_faceless : List ℕ
links_faceless =
    1 ∷ 1 ∷ 3 ∷ 1 ∷ 1 ∷ 1 ∷ 1 ∷ 1 ∷ 1 ∷ 1 ∷ 0 ∷ 1 ∷ 2 ∷ 0 ∷ 0 ∷ 0 ∷ 0 ∷ 1 ∷ 1 ∷ 1 ∷ 1 ∷ 1 ∷ 2 ∷ 2 ∷ 2 ∷ 3 ∷ []

-- e with three faces and three loops: its ring is 3, and face 2 is the least free
abbrev links_third : List ℕ
links_third =
    1 ∷ 3 ∷ 3 ∷ 1 ∷ 1 ∷ 1 ∷ 1 ∷ 1 ∷ 0 ∷ 0 ∷ 0 ∷ 0 ∷ 1 ∷ 1 ∷ 0 ∷ 0 ∷ 0 ∷ 0 ∷ 1 ∷ 2 ∷ 0 ∷ 1 ∷ 1 ∷ 1 ∷ 1 ∷ 1 ∷ 3 ∷ 2 ∷ 2
    ∷ 3 ∷ []

-- solid 1 has a lone ring, which calls for an edge; solid 2 has the only one
abbrev links_edgeless : List ℕ
links_edgeless =
    2 ∷ 2 ∷ 3 ∷ 1 ∷ 4 ∷ 1 ∷ 1 ∷ 1 ∷ 1 ∷ 2 ∷ 3 ∷ 1 ∷ 0 ∷ 1 ∷ 1 ∷ 0 ∷ 2 ∷ 2 ∷ 1 ∷ 0 ∷ 3 ∷ 3 ∷ 2 ∷ 2 ∷ 4 ∷ 3 ∷ 1 ∷ 1
    ∷ 1 ∷ 1 ∷ 2 ∷ 2 ∷ []

-- ---- states

-- n vertices at 0 0 0
abbrev zeros : ℕ → List ℤ
zeros n = replicate n (pos 0)

-- a table with n log bytes free, and nothing in the log
abbrev free : List ℕ → List ℤ → ℕ → State
free x p n = state x p (replicate n 238) n

-- b with exactly the bytes that the bound asks for, 19; d, which fills its table, with its 76
abbrev state_b : State
state_b = free links_b points_zero 19

abbrev state_d : State
state_d = free links_d (points_at (pos 100)) 76

-- the circle and the torus, each with its bytes
abbrev state_circle : State
state_circle = free links_circle (zeros 3) 57

abbrev state_torus : State
state_torus = free links_torus (zeros 3) 76

-- the ringed circle and the ring 3, the work not begun
abbrev work_ringed : Work
work_ringed = begin (free links_ringed (zeros 6) 3)

abbrev work_third : Work
work_third = begin (free links_third (zeros 3) 11)

-- ---- what is asked

-- the answer: refusal, operators done, start
abbrev answered : Inverted → List ℕ
answered r = r.answer.refusal ∷ r.answer.done ∷ r.answer.start ∷ []

-- the log
abbrev logged : Work → List ℕ
logged w = w.state.log

-- ---- the rows

abbrev pub takedown_rows : List Slip
takedown_rows =
    -- a full table refused, though no step calls for a number: d
    row (answered (invert_of state_d)) (10 ∷ 0 ∷ 76 ∷ [])
    -- operators carried out and not counted: d
    ∷ row ((invert_of state_d).answer.done ∷ []) (0 ∷ [])
    -- the rings of a face that goes move to the face of their own number, not to the root: rmov 2 2, not rmov 2 1
    ∷ row (links_in (moved_ring (shape_of links_ringed) 2 2 1 work_ringed))
    (links_in (act (shape_of links_ringed) work_ringed (rmov 2 2)))
    -- one turn fewer than edges and vertices: the circle needs both turns
    ∷ row (invert_of state_circle).links
    (inverted_by state_circle (invert_by 1 (shape_of links_circle) (begin state_circle))).links
    -- the first step not taken back with 10: kemr 1 2 on the torus
    ∷ row (invert_of state_torus).links (links_after (shape_of links_torus) links_torus (kemr 1 2))
    -- with 10 the operator that was taken back counts as done
    ∷ row (answered (invert_of state_torus)) (10 ∷ 1 ∷ 76 ∷ [])
    -- with 10 the start is where the steps had stopped
    ∷ row (answered (invert_of state_torus)) (10 ∷ 0 ∷ 69 ∷ [])
    -- 9 where the log has exactly the bytes asked for: b
    ∷ row (answered (invert_of state_b)) (9 ∷ 0 ∷ 19 ∷ [])
    -- where a ring becomes a face, a free loop asked for: e has a free face and no free loop
    ∷ row (bit (lack_at (shape_of links_e) links_e) ∷ []) (bit (eqb (free_loop (shape_of links_e) links_e) 0) ∷ [])
    -- and the other way: a free loop and no free face
    ∷ row (bit (lack_at (shape_of links_faceless) links_faceless) ∷ [])
    (bit (eqb (free_loop (shape_of links_faceless) links_faceless) 0) ∷ [])
    -- the edge that mekr calls for not asked for
    ∷ row (bit (lack_at (shape_of links_edgeless) links_edgeless) ∷ []) (0 ∷ [])
    -- a ring becomes the face of its own number, not the least free one: mfkrh 3 3 0, not mfkrh 3 2 0
    ∷ row (logged (ring_at (shape_of links_third) 2 work_third))
    (logged (turn_ring (shape_of links_third) 2 3 3 work_third))
    ∷ []
