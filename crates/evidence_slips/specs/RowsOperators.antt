-- Slips in the operators: ways, refusals, what they do to links and points, the words of vertices, inverses.
use Rattle.std.specs.Prelude.{ℕ, List, [], ◌∷◌, pos, set}
use Rattle.script.specs.declared.Operator.{Operator}
use Rattle.script.specs.Operator.{operator_bytes}
use Rattle.layout.specs.declared.shape.Shape.{Shape}
use Rattle.layout.specs.Layout.{shape_of}
use Rattle.euler.specs.Surgery.{half_by, operator, relabel_run, first_from}
use Rattle.euler.specs.Queries.{loops_in}
use Rattle.euler.specs.Steps.{EdgeIn, Relabel, Renew, half, after}
use Rattle.euler.specs.EdgeOperators.{mev_steps, mev_links, kef_steps, kef_links}
use Rattle.euler.specs.Exec.{refusal_of, marks_after, links_after, points_after, inverse}
use Rattle.euler.specs.Valence.{two, less_at, more_at}
use Rattle.evidence_cases.specs.Tables.{links_b, links_c, links_d, links_e, points_zero, points_at}
use Rattle.evidence_slips.specs.Slip.{Slip, row, signed}

-- ---- tables

-- c, with edge 2 and vertex 3 free
abbrev links_spur : List ℕ
links_spur =
    1 ∷ 1 ∷ 1 ∷ 2 ∷ 3 ∷ 1 ∷ 1 ∷ 1 ∷ 1 ∷ 1 ∷ 0 ∷ 1 ∷ 1 ∷ 2 ∷ 2 ∷ 2 ∷ 1 ∷ 1 ∷ 1 ∷ 0 ∷ 0 ∷ 0 ∷ 0 ∷ 0 ∷ 0 ∷ 0 ∷ 0 ∷ 2 ∷ 2
    ∷ 0 ∷ []

-- the same, its edge divided by vertex 3
abbrev links_path : List ℕ
links_path =
    1 ∷ 1 ∷ 1 ∷ 2 ∷ 3 ∷ 1 ∷ 1 ∷ 1 ∷ 1 ∷ 1 ∷ 0 ∷ 1 ∷ 1 ∷ 3 ∷ 2 ∷ 3 ∷ 1 ∷ 1 ∷ 4 ∷ 3 ∷ 1 ∷ 4 ∷ 1 ∷ 2 ∷ 1 ∷ 2 ∷ 3 ∷ 2 ∷ 2
    ∷ 3 ∷ []

-- their shapes
abbrev shape_b : Shape
shape_b = shape_of links_b

abbrev shape_c : Shape
shape_c = shape_of links_c

abbrev shape_d : Shape
shape_d = shape_of links_d

abbrev shape_e : Shape
shape_e = shape_of links_e

abbrev shape_spur : Shape
shape_spur = shape_of links_spur

abbrev shape_path : Shape
shape_path = shape_of links_path

-- ---- operators

-- b: mvsf 1 1 1 1 0 0 0
abbrev mvsf_b : Operator
mvsf_b = operator 1 (1 ∷ 1 ∷ 1 ∷ 1 ∷ 0 ∷ 0 ∷ 0 ∷ [])

-- c: mev 1 0 1 2 0 100 0 0
abbrev mev_c : Operator
mev_c = operator 3 (1 ∷ 0 ∷ 1 ∷ 2 ∷ 0 ∷ 100 ∷ 0 ∷ 0 ∷ [])

-- kev 1
abbrev kev_one : Operator
kev_one = operator 4 (1 ∷ [])

-- mef 1 0 0 1 2 2 1
abbrev mef_way_one : Operator
mef_way_one = operator 5 (1 ∷ 0 ∷ 0 ∷ 1 ∷ 2 ∷ 2 ∷ 1 ∷ [])

-- semv 1 2 3 0 50 0 0
abbrev semv_one : Operator
semv_one = operator 11 (1 ∷ 2 ∷ 3 ∷ 0 ∷ 50 ∷ 0 ∷ 0 ∷ [])

-- jekv 1
abbrev jekv_one : Operator
jekv_one = operator 12 (1 ∷ [])

-- ---- the rows

-- ways, refusals, loops counted, inverses, points
abbrev pub table_rows : List Slip
table_rows =
    -- ways 0 and 1 exchanged: of edge 3 way 0 would name 6, and way 1 name 5
    row (half_by 3 0 ∷ half_by 3 1 ∷ []) (6 ∷ 5 ∷ [])
    -- 6 and 7 exchanged: on b, kev 1 of a free half-edge and mvsf of numbers in use
    ∷ row (refusal_of shape_b links_b kev_one ∷ refusal_of shape_b links_b mvsf_b ∷ []) (7 ∷ 6 ∷ [])
    -- the last loop not counted: face 1 of e would have one loop
    ∷ row (loops_in shape_e links_e 1 ∷ []) (1 ∷ [])
    -- counting begun at 1: face 1 of b would have two loops, and face 2, which is free, one
    ∷ row (loops_in shape_b links_b 1 ∷ loops_in shape_b links_b 2 ∷ []) (2 ∷ 1 ∷ [])
    -- mef in way 1 undone from the side of way 0: kef 2 and not kef 1
    ∷ row (operator_bytes (inverse shape_b links_b points_zero mef_way_one)) (6 ∷ 2 ∷ [])
    -- a killed vertex keeps its point: kev 1 on c
    ∷ row (signed (points_after shape_c links_c (points_at (pos 100)) kev_one)) (signed (points_at (pos 100)))
    ∷ []

-- edges that go in or come out; the slip is another step in a step's place
abbrev pub edge_rows : List Slip
edge_rows =
    -- kef's walk ends one early: by kef 4 on d, half-edge 1 would go on to name the killed loop
    row (kef_links shape_d links_d 4) (after shape_d (set (kef_steps shape_d links_d 4) 0 (Relabel 1 1 1)) links_d)
    -- mev just after h: half-edge 3 would come after 1, and its mate 4 before 2
    ∷ row (mev_links shape_spur links_spur 1 1 3 3)
    (after shape_spur (set (mev_steps shape_spur links_spur 1 1 3 3) 0 (EdgeIn 3 (half 1 1 4 1) (half 3 1 2 3)))
    links_spur)
    -- mev looks for first from the old first or k on, not from k's mate: in way 1 on b it would be 2
    ∷ row (mev_links shape_b links_b 1 0 2 2)
    (after shape_b (set (mev_steps shape_b links_b 1 0 2 2) 1 (Renew 1 2 2 0)) links_b)
    -- the search for first leaves out the number to begin with: in c, from 1 on, it would be 2
    ∷ row (first_from shape_c links_c 1 1 2 ∷ []) (2 ∷ [])
    -- a run ends where it begins: from 1 up to before 2 in c, none would be given loop 2
    ∷ row (relabel_run shape_c links_c 1 2 2) links_c
    ∷ []

-- the words of vertices
abbrev pub valence_rows : List Slip
valence_rows =
    -- jekv takes both from the vertex that k starts at, not from the killed one
    row (links_after shape_path links_path jekv_one)
    (less_at shape_path (marks_after shape_path links_path jekv_one) (two 1 1))
    -- semv counts one half-edge at the new vertex, not two
    ∷ row (links_after shape_spur links_spur semv_one)
    (more_at shape_spur (marks_after shape_spur links_spur semv_one) (two 3 0))
    -- semv adds both to the vertex of its first operand's number, not to the new one
    ∷ row (links_after shape_spur links_spur semv_one)
    (more_at shape_spur (marks_after shape_spur links_spur semv_one) (two 1 1))
    -- mev counts both halves at the new vertex, and none where it begins
    ∷ row (links_after shape_b links_b mev_c) (more_at shape_b (marks_after shape_b links_b mev_c) (two 2 2))
    ∷ []
