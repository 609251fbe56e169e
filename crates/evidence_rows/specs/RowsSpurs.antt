-- Checked examples: mev and kev. The words come from the model in tests/model, by rows.py.
use Rattle.std.specs.Prelude.{List, [], ◌∷◌, pos, negsuc}
use Rattle.euler.specs.Exec.{Table}
use Rattle.evidence_rows.specs.Row.{Row, table, operation, accepts, refuses}

-- an isolated loop: mvsf 1 1 1 1 11 -12 13
abbrev seed : Table
seed = table (1 ∷ 2 ∷ 2 ∷ 3 ∷ 4 ∷ 1 ∷ 1 ∷ 1 ∷ 0 ∷ 0 ∷ 1 ∷ 0 ∷ 1 ∷ 0 ∷ 0 ∷ 0 ∷ 0 ∷ 0 ∷ 0 ∷ 0 ∷ 0 ∷ 0 ∷ 0 ∷ 0 ∷ 0 ∷ 0 ∷ 0 ∷ 0 ∷ 0 ∷ 0 ∷ 0 ∷ 0 ∷ 0 ∷ 0 ∷ 0 ∷ 0 ∷ 0 ∷ 0 ∷ 0 ∷ 0 ∷ 1 ∷ 0 ∷ 0 ∷ 0 ∷ []) (pos 11 ∷ negsuc 11 ∷ pos 13 ∷ pos 0 ∷ pos 0 ∷ pos 0 ∷ pos 0 ∷ pos 0 ∷ pos 0 ∷ pos 0 ∷ pos 0 ∷ pos 0 ∷ [])

-- an edge: mvsf 1 1 1 1 11 -12 13; mev 1 0 1 2 0 21 -22 23
abbrev edge : Table
edge = table (1 ∷ 2 ∷ 2 ∷ 3 ∷ 4 ∷ 1 ∷ 1 ∷ 1 ∷ 0 ∷ 0 ∷ 1 ∷ 1 ∷ 0 ∷ 0 ∷ 0 ∷ 0 ∷ 1 ∷ 1 ∷ 2 ∷ 2 ∷ 2 ∷ 1 ∷ 1 ∷ 1 ∷ 0 ∷ 0 ∷ 0 ∷ 0 ∷ 0 ∷ 0 ∷ 0 ∷ 0 ∷ 0 ∷ 0 ∷ 0 ∷ 0 ∷ 0 ∷ 0 ∷ 0 ∷ 0 ∷ 2 ∷ 2 ∷ 0 ∷ 0 ∷ []) (pos 11 ∷ negsuc 11 ∷ pos 13 ∷ pos 21 ∷ negsuc 21 ∷ pos 23 ∷ pos 0 ∷ pos 0 ∷ pos 0 ∷ pos 0 ∷ pos 0 ∷ pos 0 ∷ [])

-- two edges in a line, loop 1 is 1 3 4 2: mvsf 1 1 1 1 11 -12 13; mev 1 0 1 2 0 21 -22 23; mev 1 2 2 3 0 31 -32 33
abbrev line : Table
line = table (1 ∷ 2 ∷ 2 ∷ 3 ∷ 4 ∷ 1 ∷ 1 ∷ 1 ∷ 0 ∷ 0 ∷ 1 ∷ 1 ∷ 0 ∷ 0 ∷ 0 ∷ 0 ∷ 1 ∷ 1 ∷ 3 ∷ 2 ∷ 2 ∷ 1 ∷ 1 ∷ 4 ∷ 2 ∷ 1 ∷ 4 ∷ 1 ∷ 3 ∷ 1 ∷ 2 ∷ 3 ∷ 0 ∷ 0 ∷ 0 ∷ 0 ∷ 0 ∷ 0 ∷ 0 ∷ 0 ∷ 2 ∷ 3 ∷ 2 ∷ 0 ∷ []) (pos 11 ∷ negsuc 11 ∷ pos 13 ∷ pos 21 ∷ negsuc 21 ∷ pos 23 ∷ pos 31 ∷ negsuc 31 ∷ pos 33 ∷ pos 0 ∷ pos 0 ∷ pos 0 ∷ [])

-- an edge of a high number: mvsf 1 1 1 1 11 -12 13; mev 1 0 3 2 0 21 -22 23
abbrev late : Table
late = table (1 ∷ 2 ∷ 2 ∷ 3 ∷ 4 ∷ 1 ∷ 1 ∷ 1 ∷ 0 ∷ 0 ∷ 1 ∷ 5 ∷ 0 ∷ 0 ∷ 0 ∷ 0 ∷ 0 ∷ 0 ∷ 0 ∷ 0 ∷ 0 ∷ 0 ∷ 0 ∷ 0 ∷ 0 ∷ 0 ∷ 0 ∷ 0 ∷ 0 ∷ 0 ∷ 0 ∷ 0 ∷ 1 ∷ 1 ∷ 6 ∷ 6 ∷ 2 ∷ 1 ∷ 5 ∷ 5 ∷ 2 ∷ 2 ∷ 0 ∷ 0 ∷ []) (pos 11 ∷ negsuc 11 ∷ pos 13 ∷ pos 21 ∷ negsuc 21 ∷ pos 23 ∷ pos 0 ∷ pos 0 ∷ pos 0 ∷ pos 0 ∷ pos 0 ∷ pos 0 ∷ [])

-- two loops of one half-edge: mvsf 1 1 1 1 11 -12 13; mef 1 0 0 1 2 2 0
abbrev circle : Table
circle = table (1 ∷ 2 ∷ 2 ∷ 3 ∷ 4 ∷ 1 ∷ 1 ∷ 1 ∷ 1 ∷ 2 ∷ 1 ∷ 1 ∷ 0 ∷ 2 ∷ 2 ∷ 0 ∷ 1 ∷ 1 ∷ 1 ∷ 1 ∷ 1 ∷ 2 ∷ 2 ∷ 2 ∷ 0 ∷ 0 ∷ 0 ∷ 0 ∷ 0 ∷ 0 ∷ 0 ∷ 0 ∷ 0 ∷ 0 ∷ 0 ∷ 0 ∷ 0 ∷ 0 ∷ 0 ∷ 0 ∷ 3 ∷ 0 ∷ 0 ∷ 0 ∷ []) (pos 11 ∷ negsuc 11 ∷ pos 13 ∷ pos 0 ∷ pos 0 ∷ pos 0 ∷ pos 0 ∷ pos 0 ∷ pos 0 ∷ pos 0 ∷ pos 0 ∷ pos 0 ∷ [])

-- loop 2 is 2 3 4: mvsf 1 1 1 1 11 -12 13; mef 1 0 0 1 2 2 0; mev 2 2 2 2 0 21 -22 23
abbrev spur : Table
spur = table (1 ∷ 2 ∷ 2 ∷ 3 ∷ 4 ∷ 1 ∷ 1 ∷ 1 ∷ 1 ∷ 2 ∷ 1 ∷ 1 ∷ 0 ∷ 2 ∷ 2 ∷ 0 ∷ 1 ∷ 1 ∷ 1 ∷ 1 ∷ 1 ∷ 2 ∷ 3 ∷ 4 ∷ 1 ∷ 2 ∷ 4 ∷ 2 ∷ 2 ∷ 2 ∷ 2 ∷ 3 ∷ 0 ∷ 0 ∷ 0 ∷ 0 ∷ 0 ∷ 0 ∷ 0 ∷ 0 ∷ 4 ∷ 2 ∷ 0 ∷ 0 ∷ []) (pos 11 ∷ negsuc 11 ∷ pos 13 ∷ pos 21 ∷ negsuc 21 ∷ pos 23 ∷ pos 0 ∷ pos 0 ∷ pos 0 ∷ pos 0 ∷ pos 0 ∷ pos 0 ∷ [])

-- loop 1 is 2 3, loop 2 is 1 4: mvsf 1 1 1 1 11 -12 13; mev 1 0 1 2 0 21 -22 23; mef 1 1 2 2 2 2 0
abbrev two_faces : Table
two_faces = table (1 ∷ 2 ∷ 2 ∷ 3 ∷ 4 ∷ 1 ∷ 1 ∷ 1 ∷ 1 ∷ 2 ∷ 1 ∷ 2 ∷ 0 ∷ 2 ∷ 1 ∷ 0 ∷ 1 ∷ 2 ∷ 4 ∷ 4 ∷ 2 ∷ 1 ∷ 3 ∷ 3 ∷ 1 ∷ 1 ∷ 2 ∷ 2 ∷ 2 ∷ 2 ∷ 1 ∷ 1 ∷ 0 ∷ 0 ∷ 0 ∷ 0 ∷ 0 ∷ 0 ∷ 0 ∷ 0 ∷ 3 ∷ 3 ∷ 0 ∷ 0 ∷ []) (pos 11 ∷ negsuc 11 ∷ pos 13 ∷ pos 21 ∷ negsuc 21 ∷ pos 23 ∷ pos 0 ∷ pos 0 ∷ pos 0 ∷ pos 0 ∷ pos 0 ∷ pos 0 ∷ [])

-- an isolated ring: mvsf 1 1 1 1 11 -12 13; mev 1 0 1 2 0 21 -22 23; kemr 1 2
abbrev lone_ring : Table
lone_ring = table (1 ∷ 2 ∷ 2 ∷ 3 ∷ 4 ∷ 1 ∷ 1 ∷ 1 ∷ 0 ∷ 0 ∷ 1 ∷ 0 ∷ 1 ∷ 1 ∷ 0 ∷ 2 ∷ 0 ∷ 0 ∷ 0 ∷ 0 ∷ 0 ∷ 0 ∷ 0 ∷ 0 ∷ 0 ∷ 0 ∷ 0 ∷ 0 ∷ 0 ∷ 0 ∷ 0 ∷ 0 ∷ 0 ∷ 0 ∷ 0 ∷ 0 ∷ 0 ∷ 0 ∷ 0 ∷ 0 ∷ 1 ∷ 1 ∷ 0 ∷ 0 ∷ []) (pos 11 ∷ negsuc 11 ∷ pos 13 ∷ pos 21 ∷ negsuc 21 ∷ pos 23 ∷ pos 0 ∷ pos 0 ∷ pos 0 ∷ pos 0 ∷ pos 0 ∷ pos 0 ∷ [])

-- an isolated outer loop, ring 2 is 1 2: mvsf 1 1 1 1 11 -12 13; mev 1 0 1 2 0 21 -22 23; kemr 1 2; mev 2 0 1 3 0 31 -32 33
abbrev lone_outer : Table
lone_outer = table (1 ∷ 2 ∷ 2 ∷ 3 ∷ 4 ∷ 1 ∷ 1 ∷ 1 ∷ 0 ∷ 0 ∷ 1 ∷ 0 ∷ 1 ∷ 1 ∷ 1 ∷ 0 ∷ 2 ∷ 2 ∷ 2 ∷ 2 ∷ 3 ∷ 2 ∷ 1 ∷ 1 ∷ 0 ∷ 0 ∷ 0 ∷ 0 ∷ 0 ∷ 0 ∷ 0 ∷ 0 ∷ 0 ∷ 0 ∷ 0 ∷ 0 ∷ 0 ∷ 0 ∷ 0 ∷ 0 ∷ 1 ∷ 2 ∷ 2 ∷ 0 ∷ []) (pos 11 ∷ negsuc 11 ∷ pos 13 ∷ pos 21 ∷ negsuc 21 ∷ pos 23 ∷ pos 31 ∷ negsuc 31 ∷ pos 33 ∷ pos 0 ∷ pos 0 ∷ pos 0 ∷ [])

-- mev and kev
abbrev pub spurs_rows : List Row
spurs_rows =
    -- mev 1 0 1 2 0 21 -22 23: at an isolated loop
    accepts seed (operation 3 8 (pos 1 ∷ pos 0 ∷ pos 1 ∷ pos 2 ∷ pos 0 ∷ pos 21 ∷ negsuc 21 ∷ pos 23 ∷ []))
    (table (1 ∷ 2 ∷ 2 ∷ 3 ∷ 4 ∷ 1 ∷ 1 ∷ 1 ∷ 0 ∷ 0 ∷ 1 ∷ 1 ∷ 0 ∷ 0 ∷ 0 ∷ 0 ∷ 1 ∷ 1 ∷ 2 ∷ 2 ∷ 2 ∷ 1 ∷ 1 ∷ 1 ∷ 0 ∷ 0 ∷ 0 ∷ 0 ∷ 0 ∷ 0 ∷ 0 ∷ 0 ∷ 0 ∷ 0 ∷ 0 ∷ 0 ∷ 0 ∷ 0 ∷ 0 ∷ 0 ∷ 2 ∷ 2 ∷ 0 ∷ 0 ∷ []) (pos 11 ∷ negsuc 11 ∷ pos 13 ∷ pos 21 ∷ negsuc 21 ∷ pos 23 ∷ pos 0 ∷ pos 0 ∷ pos 0 ∷ pos 0 ∷ pos 0 ∷ pos 0 ∷ []))
    (operation 4 1 (pos 1 ∷ pos 0 ∷ pos 0 ∷ pos 0 ∷ pos 0 ∷ pos 0 ∷ pos 0 ∷ pos 0 ∷ []))
    -- mev 1 0 3 4 1 41 -42 43: way 1 there: first is 2e - 1 all the same
    ∷ accepts seed (operation 3 8 (pos 1 ∷ pos 0 ∷ pos 3 ∷ pos 4 ∷ pos 1 ∷ pos 41 ∷ negsuc 41 ∷ pos 43 ∷ []))
    (table (1 ∷ 2 ∷ 2 ∷ 3 ∷ 4 ∷ 1 ∷ 1 ∷ 1 ∷ 0 ∷ 0 ∷ 1 ∷ 5 ∷ 0 ∷ 0 ∷ 0 ∷ 0 ∷ 0 ∷ 0 ∷ 0 ∷ 0 ∷ 0 ∷ 0 ∷ 0 ∷ 0 ∷ 0 ∷ 0 ∷ 0 ∷ 0 ∷ 0 ∷ 0 ∷ 0 ∷ 0 ∷ 4 ∷ 1 ∷ 6 ∷ 6 ∷ 1 ∷ 1 ∷ 5 ∷ 5 ∷ 2 ∷ 0 ∷ 0 ∷ 2 ∷ []) (pos 11 ∷ negsuc 11 ∷ pos 13 ∷ pos 0 ∷ pos 0 ∷ pos 0 ∷ pos 0 ∷ pos 0 ∷ pos 0 ∷ pos 41 ∷ negsuc 41 ∷ pos 43 ∷ []))
    (operation 4 1 (pos 6 ∷ pos 0 ∷ pos 0 ∷ pos 0 ∷ pos 0 ∷ pos 0 ∷ pos 0 ∷ pos 0 ∷ []))
    -- mev 1 2 2 3 0 31 -32 33: before h
    ∷ accepts edge (operation 3 8 (pos 1 ∷ pos 2 ∷ pos 2 ∷ pos 3 ∷ pos 0 ∷ pos 31 ∷ negsuc 31 ∷ pos 33 ∷ []))
    (table (1 ∷ 2 ∷ 2 ∷ 3 ∷ 4 ∷ 1 ∷ 1 ∷ 1 ∷ 0 ∷ 0 ∷ 1 ∷ 1 ∷ 0 ∷ 0 ∷ 0 ∷ 0 ∷ 1 ∷ 1 ∷ 3 ∷ 2 ∷ 2 ∷ 1 ∷ 1 ∷ 4 ∷ 2 ∷ 1 ∷ 4 ∷ 1 ∷ 3 ∷ 1 ∷ 2 ∷ 3 ∷ 0 ∷ 0 ∷ 0 ∷ 0 ∷ 0 ∷ 0 ∷ 0 ∷ 0 ∷ 2 ∷ 3 ∷ 2 ∷ 0 ∷ []) (pos 11 ∷ negsuc 11 ∷ pos 13 ∷ pos 21 ∷ negsuc 21 ∷ pos 23 ∷ pos 31 ∷ negsuc 31 ∷ pos 33 ∷ pos 0 ∷ pos 0 ∷ pos 0 ∷ []))
    (operation 4 1 (pos 3 ∷ pos 0 ∷ pos 0 ∷ pos 0 ∷ pos 0 ∷ pos 0 ∷ pos 0 ∷ pos 0 ∷ []))
    -- mev 1 1 2 3 1 31 -32 33: before h, way 1
    ∷ accepts edge (operation 3 8 (pos 1 ∷ pos 1 ∷ pos 2 ∷ pos 3 ∷ pos 1 ∷ pos 31 ∷ negsuc 31 ∷ pos 33 ∷ []))
    (table (1 ∷ 2 ∷ 2 ∷ 3 ∷ 4 ∷ 1 ∷ 1 ∷ 1 ∷ 0 ∷ 0 ∷ 1 ∷ 1 ∷ 0 ∷ 0 ∷ 0 ∷ 0 ∷ 1 ∷ 1 ∷ 2 ∷ 3 ∷ 2 ∷ 1 ∷ 4 ∷ 1 ∷ 3 ∷ 1 ∷ 1 ∷ 4 ∷ 1 ∷ 1 ∷ 3 ∷ 2 ∷ 0 ∷ 0 ∷ 0 ∷ 0 ∷ 0 ∷ 0 ∷ 0 ∷ 0 ∷ 3 ∷ 2 ∷ 2 ∷ 0 ∷ []) (pos 11 ∷ negsuc 11 ∷ pos 13 ∷ pos 21 ∷ negsuc 21 ∷ pos 23 ∷ pos 31 ∷ negsuc 31 ∷ pos 33 ∷ pos 0 ∷ pos 0 ∷ pos 0 ∷ []))
    (operation 4 1 (pos 4 ∷ pos 0 ∷ pos 0 ∷ pos 0 ∷ pos 0 ∷ pos 0 ∷ pos 0 ∷ pos 0 ∷ []))
    -- mev 1 4 3 4 0 41 -42 43: in a loop of four
    ∷ accepts line (operation 3 8 (pos 1 ∷ pos 4 ∷ pos 3 ∷ pos 4 ∷ pos 0 ∷ pos 41 ∷ negsuc 41 ∷ pos 43 ∷ []))
    (table (1 ∷ 2 ∷ 2 ∷ 3 ∷ 4 ∷ 1 ∷ 1 ∷ 1 ∷ 0 ∷ 0 ∷ 1 ∷ 1 ∷ 0 ∷ 0 ∷ 0 ∷ 0 ∷ 1 ∷ 1 ∷ 3 ∷ 2 ∷ 2 ∷ 1 ∷ 1 ∷ 4 ∷ 2 ∷ 1 ∷ 5 ∷ 1 ∷ 3 ∷ 1 ∷ 2 ∷ 6 ∷ 3 ∷ 1 ∷ 6 ∷ 3 ∷ 4 ∷ 1 ∷ 4 ∷ 5 ∷ 2 ∷ 3 ∷ 3 ∷ 2 ∷ []) (pos 11 ∷ negsuc 11 ∷ pos 13 ∷ pos 21 ∷ negsuc 21 ∷ pos 23 ∷ pos 31 ∷ negsuc 31 ∷ pos 33 ∷ pos 41 ∷ negsuc 41 ∷ pos 43 ∷ []))
    (operation 4 1 (pos 5 ∷ pos 0 ∷ pos 0 ∷ pos 0 ∷ pos 0 ∷ pos 0 ∷ pos 0 ∷ pos 0 ∷ []))
    -- mev 1 5 1 3 1 31 -32 33: the new ones are the least
    ∷ accepts late (operation 3 8 (pos 1 ∷ pos 5 ∷ pos 1 ∷ pos 3 ∷ pos 1 ∷ pos 31 ∷ negsuc 31 ∷ pos 33 ∷ []))
    (table (1 ∷ 2 ∷ 2 ∷ 3 ∷ 4 ∷ 1 ∷ 1 ∷ 1 ∷ 0 ∷ 0 ∷ 1 ∷ 1 ∷ 0 ∷ 0 ∷ 0 ∷ 0 ∷ 3 ∷ 1 ∷ 5 ∷ 2 ∷ 1 ∷ 1 ∷ 1 ∷ 6 ∷ 0 ∷ 0 ∷ 0 ∷ 0 ∷ 0 ∷ 0 ∷ 0 ∷ 0 ∷ 1 ∷ 1 ∷ 6 ∷ 1 ∷ 2 ∷ 1 ∷ 2 ∷ 5 ∷ 3 ∷ 2 ∷ 2 ∷ 0 ∷ []) (pos 11 ∷ negsuc 11 ∷ pos 13 ∷ pos 21 ∷ negsuc 21 ∷ pos 23 ∷ pos 31 ∷ negsuc 31 ∷ pos 33 ∷ pos 0 ∷ pos 0 ∷ pos 0 ∷ []))
    (operation 4 1 (pos 2 ∷ pos 0 ∷ pos 0 ∷ pos 0 ∷ pos 0 ∷ pos 0 ∷ pos 0 ∷ pos 0 ∷ []))
    -- mev 2 2 2 2 0 21 -22 23: at a loop of one half-edge
    ∷ accepts circle (operation 3 8 (pos 2 ∷ pos 2 ∷ pos 2 ∷ pos 2 ∷ pos 0 ∷ pos 21 ∷ negsuc 21 ∷ pos 23 ∷ []))
    (table (1 ∷ 2 ∷ 2 ∷ 3 ∷ 4 ∷ 1 ∷ 1 ∷ 1 ∷ 1 ∷ 2 ∷ 1 ∷ 1 ∷ 0 ∷ 2 ∷ 2 ∷ 0 ∷ 1 ∷ 1 ∷ 1 ∷ 1 ∷ 1 ∷ 2 ∷ 3 ∷ 4 ∷ 1 ∷ 2 ∷ 4 ∷ 2 ∷ 2 ∷ 2 ∷ 2 ∷ 3 ∷ 0 ∷ 0 ∷ 0 ∷ 0 ∷ 0 ∷ 0 ∷ 0 ∷ 0 ∷ 4 ∷ 2 ∷ 0 ∷ 0 ∷ []) (pos 11 ∷ negsuc 11 ∷ pos 13 ∷ pos 21 ∷ negsuc 21 ∷ pos 23 ∷ pos 0 ∷ pos 0 ∷ pos 0 ∷ pos 0 ∷ pos 0 ∷ pos 0 ∷ []))
    (operation 4 1 (pos 3 ∷ pos 0 ∷ pos 0 ∷ pos 0 ∷ pos 0 ∷ pos 0 ∷ pos 0 ∷ pos 0 ∷ []))
    -- mev 2 0 2 3 1 31 -32 33: at an isolated ring
    ∷ accepts lone_ring (operation 3 8 (pos 2 ∷ pos 0 ∷ pos 2 ∷ pos 3 ∷ pos 1 ∷ pos 31 ∷ negsuc 31 ∷ pos 33 ∷ []))
    (table (1 ∷ 2 ∷ 2 ∷ 3 ∷ 4 ∷ 1 ∷ 1 ∷ 1 ∷ 0 ∷ 0 ∷ 1 ∷ 0 ∷ 1 ∷ 1 ∷ 3 ∷ 0 ∷ 0 ∷ 0 ∷ 0 ∷ 0 ∷ 0 ∷ 0 ∷ 0 ∷ 0 ∷ 3 ∷ 2 ∷ 4 ∷ 4 ∷ 2 ∷ 2 ∷ 3 ∷ 3 ∷ 0 ∷ 0 ∷ 0 ∷ 0 ∷ 0 ∷ 0 ∷ 0 ∷ 0 ∷ 1 ∷ 2 ∷ 2 ∷ 0 ∷ []) (pos 11 ∷ negsuc 11 ∷ pos 13 ∷ pos 21 ∷ negsuc 21 ∷ pos 23 ∷ pos 31 ∷ negsuc 31 ∷ pos 33 ∷ pos 0 ∷ pos 0 ∷ pos 0 ∷ []))
    (operation 4 1 (pos 4 ∷ pos 0 ∷ pos 0 ∷ pos 0 ∷ pos 0 ∷ pos 0 ∷ pos 0 ∷ pos 0 ∷ []))
    -- kev 1: the loop is isolated again
    ∷ accepts edge (operation 4 1 (pos 1 ∷ pos 0 ∷ pos 0 ∷ pos 0 ∷ pos 0 ∷ pos 0 ∷ pos 0 ∷ pos 0 ∷ []))
    (table (1 ∷ 2 ∷ 2 ∷ 3 ∷ 4 ∷ 1 ∷ 1 ∷ 1 ∷ 0 ∷ 0 ∷ 1 ∷ 0 ∷ 1 ∷ 0 ∷ 0 ∷ 0 ∷ 0 ∷ 0 ∷ 0 ∷ 0 ∷ 0 ∷ 0 ∷ 0 ∷ 0 ∷ 0 ∷ 0 ∷ 0 ∷ 0 ∷ 0 ∷ 0 ∷ 0 ∷ 0 ∷ 0 ∷ 0 ∷ 0 ∷ 0 ∷ 0 ∷ 0 ∷ 0 ∷ 0 ∷ 1 ∷ 0 ∷ 0 ∷ 0 ∷ []) (pos 11 ∷ negsuc 11 ∷ pos 13 ∷ pos 0 ∷ pos 0 ∷ pos 0 ∷ pos 0 ∷ pos 0 ∷ pos 0 ∷ pos 0 ∷ pos 0 ∷ pos 0 ∷ []))
    (operation 3 8 (pos 1 ∷ pos 0 ∷ pos 1 ∷ pos 2 ∷ pos 0 ∷ pos 21 ∷ negsuc 21 ∷ pos 23 ∷ []))
    -- kev 2: isolated at the other vertex
    ∷ accepts edge (operation 4 1 (pos 2 ∷ pos 0 ∷ pos 0 ∷ pos 0 ∷ pos 0 ∷ pos 0 ∷ pos 0 ∷ pos 0 ∷ []))
    (table (1 ∷ 2 ∷ 2 ∷ 3 ∷ 4 ∷ 1 ∷ 1 ∷ 1 ∷ 0 ∷ 0 ∷ 1 ∷ 0 ∷ 2 ∷ 0 ∷ 0 ∷ 0 ∷ 0 ∷ 0 ∷ 0 ∷ 0 ∷ 0 ∷ 0 ∷ 0 ∷ 0 ∷ 0 ∷ 0 ∷ 0 ∷ 0 ∷ 0 ∷ 0 ∷ 0 ∷ 0 ∷ 0 ∷ 0 ∷ 0 ∷ 0 ∷ 0 ∷ 0 ∷ 0 ∷ 0 ∷ 0 ∷ 1 ∷ 0 ∷ 0 ∷ []) (pos 0 ∷ pos 0 ∷ pos 0 ∷ pos 21 ∷ negsuc 21 ∷ pos 23 ∷ pos 0 ∷ pos 0 ∷ pos 0 ∷ pos 0 ∷ pos 0 ∷ pos 0 ∷ []))
    (operation 3 8 (pos 1 ∷ pos 0 ∷ pos 1 ∷ pos 1 ∷ pos 1 ∷ pos 11 ∷ negsuc 11 ∷ pos 13 ∷ []))
    -- kev 3: the end of a line
    ∷ accepts line (operation 4 1 (pos 3 ∷ pos 0 ∷ pos 0 ∷ pos 0 ∷ pos 0 ∷ pos 0 ∷ pos 0 ∷ pos 0 ∷ []))
    (table (1 ∷ 2 ∷ 2 ∷ 3 ∷ 4 ∷ 1 ∷ 1 ∷ 1 ∷ 0 ∷ 0 ∷ 1 ∷ 1 ∷ 0 ∷ 0 ∷ 0 ∷ 0 ∷ 1 ∷ 1 ∷ 2 ∷ 2 ∷ 2 ∷ 1 ∷ 1 ∷ 1 ∷ 0 ∷ 0 ∷ 0 ∷ 0 ∷ 0 ∷ 0 ∷ 0 ∷ 0 ∷ 0 ∷ 0 ∷ 0 ∷ 0 ∷ 0 ∷ 0 ∷ 0 ∷ 0 ∷ 2 ∷ 2 ∷ 0 ∷ 0 ∷ []) (pos 11 ∷ negsuc 11 ∷ pos 13 ∷ pos 21 ∷ negsuc 21 ∷ pos 23 ∷ pos 0 ∷ pos 0 ∷ pos 0 ∷ pos 0 ∷ pos 0 ∷ pos 0 ∷ []))
    (operation 3 8 (pos 1 ∷ pos 2 ∷ pos 2 ∷ pos 3 ∷ pos 0 ∷ pos 31 ∷ negsuc 31 ∷ pos 33 ∷ []))
    -- kev 2: the other end, where first was
    ∷ accepts line (operation 4 1 (pos 2 ∷ pos 0 ∷ pos 0 ∷ pos 0 ∷ pos 0 ∷ pos 0 ∷ pos 0 ∷ pos 0 ∷ []))
    (table (1 ∷ 2 ∷ 2 ∷ 3 ∷ 4 ∷ 1 ∷ 1 ∷ 1 ∷ 0 ∷ 0 ∷ 1 ∷ 3 ∷ 0 ∷ 0 ∷ 0 ∷ 0 ∷ 0 ∷ 0 ∷ 0 ∷ 0 ∷ 0 ∷ 0 ∷ 0 ∷ 0 ∷ 2 ∷ 1 ∷ 4 ∷ 4 ∷ 3 ∷ 1 ∷ 3 ∷ 3 ∷ 0 ∷ 0 ∷ 0 ∷ 0 ∷ 0 ∷ 0 ∷ 0 ∷ 0 ∷ 0 ∷ 2 ∷ 2 ∷ 0 ∷ []) (pos 0 ∷ pos 0 ∷ pos 0 ∷ pos 21 ∷ negsuc 21 ∷ pos 23 ∷ pos 31 ∷ negsuc 31 ∷ pos 33 ∷ pos 0 ∷ pos 0 ∷ pos 0 ∷ []))
    (operation 3 8 (pos 1 ∷ pos 3 ∷ pos 1 ∷ pos 1 ∷ pos 1 ∷ pos 11 ∷ negsuc 11 ∷ pos 13 ∷ []))
    -- kev 3: a loop of one half-edge is left
    ∷ accepts spur (operation 4 1 (pos 3 ∷ pos 0 ∷ pos 0 ∷ pos 0 ∷ pos 0 ∷ pos 0 ∷ pos 0 ∷ pos 0 ∷ []))
    (table (1 ∷ 2 ∷ 2 ∷ 3 ∷ 4 ∷ 1 ∷ 1 ∷ 1 ∷ 1 ∷ 2 ∷ 1 ∷ 1 ∷ 0 ∷ 2 ∷ 2 ∷ 0 ∷ 1 ∷ 1 ∷ 1 ∷ 1 ∷ 1 ∷ 2 ∷ 2 ∷ 2 ∷ 0 ∷ 0 ∷ 0 ∷ 0 ∷ 0 ∷ 0 ∷ 0 ∷ 0 ∷ 0 ∷ 0 ∷ 0 ∷ 0 ∷ 0 ∷ 0 ∷ 0 ∷ 0 ∷ 3 ∷ 0 ∷ 0 ∷ 0 ∷ []) (pos 11 ∷ negsuc 11 ∷ pos 13 ∷ pos 0 ∷ pos 0 ∷ pos 0 ∷ pos 0 ∷ pos 0 ∷ pos 0 ∷ pos 0 ∷ pos 0 ∷ pos 0 ∷ []))
    (operation 3 8 (pos 2 ∷ pos 2 ∷ pos 2 ∷ pos 2 ∷ pos 0 ∷ pos 21 ∷ negsuc 21 ∷ pos 23 ∷ []))
    -- kev 2: in a ring
    ∷ accepts lone_outer (operation 4 1 (pos 2 ∷ pos 0 ∷ pos 0 ∷ pos 0 ∷ pos 0 ∷ pos 0 ∷ pos 0 ∷ pos 0 ∷ []))
    (table (1 ∷ 2 ∷ 2 ∷ 3 ∷ 4 ∷ 1 ∷ 1 ∷ 1 ∷ 0 ∷ 0 ∷ 1 ∷ 0 ∷ 1 ∷ 1 ∷ 0 ∷ 3 ∷ 0 ∷ 0 ∷ 0 ∷ 0 ∷ 0 ∷ 0 ∷ 0 ∷ 0 ∷ 0 ∷ 0 ∷ 0 ∷ 0 ∷ 0 ∷ 0 ∷ 0 ∷ 0 ∷ 0 ∷ 0 ∷ 0 ∷ 0 ∷ 0 ∷ 0 ∷ 0 ∷ 0 ∷ 1 ∷ 0 ∷ 1 ∷ 0 ∷ []) (pos 11 ∷ negsuc 11 ∷ pos 13 ∷ pos 0 ∷ pos 0 ∷ pos 0 ∷ pos 31 ∷ negsuc 31 ∷ pos 33 ∷ pos 0 ∷ pos 0 ∷ pos 0 ∷ []))
    (operation 3 8 (pos 2 ∷ pos 0 ∷ pos 1 ∷ pos 2 ∷ pos 1 ∷ pos 21 ∷ negsuc 21 ∷ pos 23 ∷ []))
    -- 8, mev 1 0 2 3 0 31 -32 33: corner 0 of a loop that is not isolated
    ∷ refuses edge (operation 3 8 (pos 1 ∷ pos 0 ∷ pos 2 ∷ pos 3 ∷ pos 0 ∷ pos 31 ∷ negsuc 31 ∷ pos 33 ∷ [])) 8
    -- 8, mev 1 1 3 3 0 31 -32 33: h of another loop
    ∷ refuses two_faces (operation 3 8 (pos 1 ∷ pos 1 ∷ pos 3 ∷ pos 3 ∷ pos 0 ∷ pos 31 ∷ negsuc 31 ∷ pos 33 ∷ [])) 8
    -- 8, mev 1 1 2 4 0 41 -42 43: h of another loop, l isolated
    ∷ refuses lone_outer (operation 3 8 (pos 1 ∷ pos 1 ∷ pos 2 ∷ pos 4 ∷ pos 0 ∷ pos 41 ∷ negsuc 41 ∷ pos 43 ∷ [])) 8
    -- 7, mev 1 0 2 2 0 31 -32 33: v in use, and no corner
    ∷ refuses edge (operation 3 8 (pos 1 ∷ pos 0 ∷ pos 2 ∷ pos 2 ∷ pos 0 ∷ pos 31 ∷ negsuc 31 ∷ pos 33 ∷ [])) 7
    -- 8, kev 1: next is of another edge
    ∷ refuses line (operation 4 1 (pos 1 ∷ pos 0 ∷ pos 0 ∷ pos 0 ∷ pos 0 ∷ pos 0 ∷ pos 0 ∷ pos 0 ∷ [])) 8
    -- 8, kev 4: next is of another edge, the way back
    ∷ refuses line (operation 4 1 (pos 4 ∷ pos 0 ∷ pos 0 ∷ pos 0 ∷ pos 0 ∷ pos 0 ∷ pos 0 ∷ pos 0 ∷ [])) 8
    -- 8, kev 1: next is k
    ∷ refuses circle (operation 4 1 (pos 1 ∷ pos 0 ∷ pos 0 ∷ pos 0 ∷ pos 0 ∷ pos 0 ∷ pos 0 ∷ pos 0 ∷ [])) 8
    -- 8, kev 1: the mate is in another loop
    ∷ refuses two_faces (operation 4 1 (pos 1 ∷ pos 0 ∷ pos 0 ∷ pos 0 ∷ pos 0 ∷ pos 0 ∷ pos 0 ∷ pos 0 ∷ [])) 8
    -- 5, mev 3 2 2 3 0 31 -32 33: l out of range
    ∷ refuses edge (operation 3 8 (pos 3 ∷ pos 2 ∷ pos 2 ∷ pos 3 ∷ pos 0 ∷ pos 31 ∷ negsuc 31 ∷ pos 33 ∷ [])) 5
    -- 5, mev 0 2 2 3 0 31 -32 33: l 0
    ∷ refuses edge (operation 3 8 (pos 0 ∷ pos 2 ∷ pos 2 ∷ pos 3 ∷ pos 0 ∷ pos 31 ∷ negsuc 31 ∷ pos 33 ∷ [])) 5
    -- 6, mev 2 2 2 3 0 31 -32 33: l free
    ∷ refuses edge (operation 3 8 (pos 2 ∷ pos 2 ∷ pos 2 ∷ pos 3 ∷ pos 0 ∷ pos 31 ∷ negsuc 31 ∷ pos 33 ∷ [])) 6
    -- 5, mev 1 7 2 3 0 31 -32 33: h out of range
    ∷ refuses edge (operation 3 8 (pos 1 ∷ pos 7 ∷ pos 2 ∷ pos 3 ∷ pos 0 ∷ pos 31 ∷ negsuc 31 ∷ pos 33 ∷ [])) 5
    -- 6, mev 1 3 2 3 0 31 -32 33: h free
    ∷ refuses edge (operation 3 8 (pos 1 ∷ pos 3 ∷ pos 2 ∷ pos 3 ∷ pos 0 ∷ pos 31 ∷ negsuc 31 ∷ pos 33 ∷ [])) 6
    -- 5, mev 1 2 4 3 0 31 -32 33: e out of range
    ∷ refuses edge (operation 3 8 (pos 1 ∷ pos 2 ∷ pos 4 ∷ pos 3 ∷ pos 0 ∷ pos 31 ∷ negsuc 31 ∷ pos 33 ∷ [])) 5
    -- 5, mev 1 2 0 3 0 31 -32 33: e 0
    ∷ refuses edge (operation 3 8 (pos 1 ∷ pos 2 ∷ pos 0 ∷ pos 3 ∷ pos 0 ∷ pos 31 ∷ negsuc 31 ∷ pos 33 ∷ [])) 5
    -- 7, mev 1 2 1 3 0 31 -32 33: e in use
    ∷ refuses edge (operation 3 8 (pos 1 ∷ pos 2 ∷ pos 1 ∷ pos 3 ∷ pos 0 ∷ pos 31 ∷ negsuc 31 ∷ pos 33 ∷ [])) 7
    -- 5, mev 1 2 2 5 0 31 -32 33: v out of range
    ∷ refuses edge (operation 3 8 (pos 1 ∷ pos 2 ∷ pos 2 ∷ pos 5 ∷ pos 0 ∷ pos 31 ∷ negsuc 31 ∷ pos 33 ∷ [])) 5
    -- 5, mev 1 2 2 0 0 31 -32 33: v 0
    ∷ refuses edge (operation 3 8 (pos 1 ∷ pos 2 ∷ pos 2 ∷ pos 0 ∷ pos 0 ∷ pos 31 ∷ negsuc 31 ∷ pos 33 ∷ [])) 5
    -- 7, mev 1 2 2 1 0 31 -32 33: v in use
    ∷ refuses edge (operation 3 8 (pos 1 ∷ pos 2 ∷ pos 2 ∷ pos 1 ∷ pos 0 ∷ pos 31 ∷ negsuc 31 ∷ pos 33 ∷ [])) 7
    -- 5, mev 1 2 2 3 2 31 -32 33: w out of range
    ∷ refuses edge (operation 3 8 (pos 1 ∷ pos 2 ∷ pos 2 ∷ pos 3 ∷ pos 2 ∷ pos 31 ∷ negsuc 31 ∷ pos 33 ∷ [])) 5
    -- 5, mev 1 2 2 3 0 50001 -32 33: x out of range
    ∷ refuses edge (operation 3 8 (pos 1 ∷ pos 2 ∷ pos 2 ∷ pos 3 ∷ pos 0 ∷ pos 50001 ∷ negsuc 31 ∷ pos 33 ∷ [])) 5
    -- 5, mev 1 2 2 3 0 31 -50001 33: y out of range
    ∷ refuses edge (operation 3 8 (pos 1 ∷ pos 2 ∷ pos 2 ∷ pos 3 ∷ pos 0 ∷ pos 31 ∷ negsuc 50000 ∷ pos 33 ∷ [])) 5
    -- 5, mev 1 2 2 3 0 31 -32 50001: z out of range
    ∷ refuses edge (operation 3 8 (pos 1 ∷ pos 2 ∷ pos 2 ∷ pos 3 ∷ pos 0 ∷ pos 31 ∷ negsuc 31 ∷ pos 50001 ∷ [])) 5
    -- 5, mev 2 2 2 3 0 31 -32 50001: l free and z out of range
    ∷ refuses edge (operation 3 8 (pos 2 ∷ pos 2 ∷ pos 2 ∷ pos 3 ∷ pos 0 ∷ pos 31 ∷ negsuc 31 ∷ pos 50001 ∷ [])) 5
    -- 6, mev 2 2 2 1 0 31 -32 33: l free and v in use
    ∷ refuses edge (operation 3 8 (pos 2 ∷ pos 2 ∷ pos 2 ∷ pos 1 ∷ pos 0 ∷ pos 31 ∷ negsuc 31 ∷ pos 33 ∷ [])) 6
    -- 5, kev 7: k out of range
    ∷ refuses edge (operation 4 1 (pos 7 ∷ pos 0 ∷ pos 0 ∷ pos 0 ∷ pos 0 ∷ pos 0 ∷ pos 0 ∷ pos 0 ∷ [])) 5
    -- 5, kev 0: k 0
    ∷ refuses edge (operation 4 1 (pos 0 ∷ pos 0 ∷ pos 0 ∷ pos 0 ∷ pos 0 ∷ pos 0 ∷ pos 0 ∷ pos 0 ∷ [])) 5
    -- 6, kev 3: k free
    ∷ refuses edge (operation 4 1 (pos 3 ∷ pos 0 ∷ pos 0 ∷ pos 0 ∷ pos 0 ∷ pos 0 ∷ pos 0 ∷ pos 0 ∷ [])) 6
    ∷ []
