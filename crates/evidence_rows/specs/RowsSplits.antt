-- Checked examples: semv and jekv. The words come from the model in tests/model, by rows.py.
use Rattle.std.specs.Prelude.{List, [], ◌∷◌, pos, negsuc}
use Rattle.euler.specs.Exec.{Table}
use Rattle.evidence_rows.specs.Row.{Row, table, operation, accepts, refuses}

-- an edge: mvsf 1 1 1 1 11 -12 13; mev 1 0 1 2 0 21 -22 23
abbrev edge : Table
edge = table (1 ∷ 2 ∷ 2 ∷ 3 ∷ 4 ∷ 1 ∷ 1 ∷ 1 ∷ 0 ∷ 0 ∷ 1 ∷ 1 ∷ 0 ∷ 0 ∷ 0 ∷ 0 ∷ 1 ∷ 1 ∷ 2 ∷ 2 ∷ 2 ∷ 1 ∷ 1 ∷ 1 ∷ 0 ∷ 0 ∷ 0 ∷ 0 ∷ 0 ∷ 0 ∷ 0 ∷ 0 ∷ 0 ∷ 0 ∷ 0 ∷ 0 ∷ 0 ∷ 0 ∷ 0 ∷ 0 ∷ 2 ∷ 2 ∷ 0 ∷ 0 ∷ []) (pos 11 ∷ negsuc 11 ∷ pos 13 ∷ pos 21 ∷ negsuc 21 ∷ pos 23 ∷ pos 0 ∷ pos 0 ∷ pos 0 ∷ pos 0 ∷ pos 0 ∷ pos 0 ∷ [])

-- an edge of a high number: mvsf 1 1 1 1 11 -12 13; mev 1 0 3 2 0 21 -22 23
abbrev late : Table
late = table (1 ∷ 2 ∷ 2 ∷ 3 ∷ 4 ∷ 1 ∷ 1 ∷ 1 ∷ 0 ∷ 0 ∷ 1 ∷ 5 ∷ 0 ∷ 0 ∷ 0 ∷ 0 ∷ 0 ∷ 0 ∷ 0 ∷ 0 ∷ 0 ∷ 0 ∷ 0 ∷ 0 ∷ 0 ∷ 0 ∷ 0 ∷ 0 ∷ 0 ∷ 0 ∷ 0 ∷ 0 ∷ 1 ∷ 1 ∷ 6 ∷ 6 ∷ 2 ∷ 1 ∷ 5 ∷ 5 ∷ 2 ∷ 2 ∷ 0 ∷ 0 ∷ []) (pos 11 ∷ negsuc 11 ∷ pos 13 ∷ pos 21 ∷ negsuc 21 ∷ pos 23 ∷ pos 0 ∷ pos 0 ∷ pos 0 ∷ pos 0 ∷ pos 0 ∷ pos 0 ∷ [])

-- two edges in a line, loop 1 is 1 3 4 2: mvsf 1 1 1 1 11 -12 13; mev 1 0 1 2 0 21 -22 23; mev 1 2 2 3 0 31 -32 33
abbrev line : Table
line = table (1 ∷ 2 ∷ 2 ∷ 3 ∷ 4 ∷ 1 ∷ 1 ∷ 1 ∷ 0 ∷ 0 ∷ 1 ∷ 1 ∷ 0 ∷ 0 ∷ 0 ∷ 0 ∷ 1 ∷ 1 ∷ 3 ∷ 2 ∷ 2 ∷ 1 ∷ 1 ∷ 4 ∷ 2 ∷ 1 ∷ 4 ∷ 1 ∷ 3 ∷ 1 ∷ 2 ∷ 3 ∷ 0 ∷ 0 ∷ 0 ∷ 0 ∷ 0 ∷ 0 ∷ 0 ∷ 0 ∷ 2 ∷ 3 ∷ 2 ∷ 0 ∷ []) (pos 11 ∷ negsuc 11 ∷ pos 13 ∷ pos 21 ∷ negsuc 21 ∷ pos 23 ∷ pos 31 ∷ negsuc 31 ∷ pos 33 ∷ pos 0 ∷ pos 0 ∷ pos 0 ∷ [])

-- three edges at a vertex, loop 1 is 1 3 4 5 6 2: mvsf 1 1 1 1 11 -12 13; mev 1 0 1 2 0 21 -22 23; mev 1 2 2 3 0 31 -32 33; mev 1 2 3 4 0 41 -42 43
abbrev fork : Table
fork = table (1 ∷ 2 ∷ 2 ∷ 3 ∷ 4 ∷ 1 ∷ 1 ∷ 1 ∷ 0 ∷ 0 ∷ 1 ∷ 1 ∷ 0 ∷ 0 ∷ 0 ∷ 0 ∷ 1 ∷ 1 ∷ 3 ∷ 2 ∷ 2 ∷ 1 ∷ 1 ∷ 6 ∷ 2 ∷ 1 ∷ 4 ∷ 1 ∷ 3 ∷ 1 ∷ 5 ∷ 3 ∷ 2 ∷ 1 ∷ 6 ∷ 4 ∷ 4 ∷ 1 ∷ 2 ∷ 5 ∷ 2 ∷ 4 ∷ 2 ∷ 2 ∷ []) (pos 11 ∷ negsuc 11 ∷ pos 13 ∷ pos 21 ∷ negsuc 21 ∷ pos 23 ∷ pos 31 ∷ negsuc 31 ∷ pos 33 ∷ pos 41 ∷ negsuc 41 ∷ pos 43 ∷ [])

-- two loops of one half-edge: mvsf 1 1 1 1 11 -12 13; mef 1 0 0 1 2 2 0
abbrev circle : Table
circle = table (1 ∷ 2 ∷ 2 ∷ 3 ∷ 4 ∷ 1 ∷ 1 ∷ 1 ∷ 1 ∷ 2 ∷ 1 ∷ 1 ∷ 0 ∷ 2 ∷ 2 ∷ 0 ∷ 1 ∷ 1 ∷ 1 ∷ 1 ∷ 1 ∷ 2 ∷ 2 ∷ 2 ∷ 0 ∷ 0 ∷ 0 ∷ 0 ∷ 0 ∷ 0 ∷ 0 ∷ 0 ∷ 0 ∷ 0 ∷ 0 ∷ 0 ∷ 0 ∷ 0 ∷ 0 ∷ 0 ∷ 3 ∷ 0 ∷ 0 ∷ 0 ∷ []) (pos 11 ∷ negsuc 11 ∷ pos 13 ∷ pos 0 ∷ pos 0 ∷ pos 0 ∷ pos 0 ∷ pos 0 ∷ pos 0 ∷ pos 0 ∷ pos 0 ∷ pos 0 ∷ [])

-- loop 1 is 1 3, loop 2 is 2 4: mvsf 1 1 1 1 11 -12 13; mef 1 0 0 1 2 2 0; semv 1 2 2 0 21 -22 23
abbrev divided : Table
divided = table (1 ∷ 2 ∷ 2 ∷ 3 ∷ 4 ∷ 1 ∷ 1 ∷ 1 ∷ 1 ∷ 2 ∷ 1 ∷ 1 ∷ 0 ∷ 2 ∷ 2 ∷ 0 ∷ 1 ∷ 1 ∷ 3 ∷ 3 ∷ 2 ∷ 2 ∷ 4 ∷ 4 ∷ 2 ∷ 1 ∷ 1 ∷ 1 ∷ 1 ∷ 2 ∷ 2 ∷ 2 ∷ 0 ∷ 0 ∷ 0 ∷ 0 ∷ 0 ∷ 0 ∷ 0 ∷ 0 ∷ 3 ∷ 3 ∷ 0 ∷ 0 ∷ []) (pos 11 ∷ negsuc 11 ∷ pos 13 ∷ pos 21 ∷ negsuc 21 ∷ pos 23 ∷ pos 0 ∷ pos 0 ∷ pos 0 ∷ pos 0 ∷ pos 0 ∷ pos 0 ∷ [])

-- loop 1 is 2 3, loop 2 is 1 4: mvsf 1 1 1 1 11 -12 13; mev 1 0 1 2 0 21 -22 23; mef 1 1 2 2 2 2 0
abbrev two_faces : Table
two_faces = table (1 ∷ 2 ∷ 2 ∷ 3 ∷ 4 ∷ 1 ∷ 1 ∷ 1 ∷ 1 ∷ 2 ∷ 1 ∷ 2 ∷ 0 ∷ 2 ∷ 1 ∷ 0 ∷ 1 ∷ 2 ∷ 4 ∷ 4 ∷ 2 ∷ 1 ∷ 3 ∷ 3 ∷ 1 ∷ 1 ∷ 2 ∷ 2 ∷ 2 ∷ 2 ∷ 1 ∷ 1 ∷ 0 ∷ 0 ∷ 0 ∷ 0 ∷ 0 ∷ 0 ∷ 0 ∷ 0 ∷ 3 ∷ 3 ∷ 0 ∷ 0 ∷ []) (pos 11 ∷ negsuc 11 ∷ pos 13 ∷ pos 21 ∷ negsuc 21 ∷ pos 23 ∷ pos 0 ∷ pos 0 ∷ pos 0 ∷ pos 0 ∷ pos 0 ∷ pos 0 ∷ [])

-- semv and jekv
abbrev pub splits_rows : List Row
splits_rows =
    -- semv 1 2 3 0 31 -32 33: next of k is its mate
    accepts edge (operation 11 7 (pos 1 ∷ pos 2 ∷ pos 3 ∷ pos 0 ∷ pos 31 ∷ negsuc 31 ∷ pos 33 ∷ pos 0 ∷ []))
    (table (1 ∷ 2 ∷ 2 ∷ 3 ∷ 4 ∷ 1 ∷ 1 ∷ 1 ∷ 0 ∷ 0 ∷ 1 ∷ 1 ∷ 0 ∷ 0 ∷ 0 ∷ 0 ∷ 1 ∷ 1 ∷ 3 ∷ 2 ∷ 3 ∷ 1 ∷ 1 ∷ 4 ∷ 3 ∷ 1 ∷ 4 ∷ 1 ∷ 2 ∷ 1 ∷ 2 ∷ 3 ∷ 0 ∷ 0 ∷ 0 ∷ 0 ∷ 0 ∷ 0 ∷ 0 ∷ 0 ∷ 2 ∷ 2 ∷ 3 ∷ 0 ∷ []) (pos 11 ∷ negsuc 11 ∷ pos 13 ∷ pos 21 ∷ negsuc 21 ∷ pos 23 ∷ pos 31 ∷ negsuc 31 ∷ pos 33 ∷ pos 0 ∷ pos 0 ∷ pos 0 ∷ []))
    (operation 12 1 (pos 1 ∷ pos 0 ∷ pos 0 ∷ pos 0 ∷ pos 0 ∷ pos 0 ∷ pos 0 ∷ pos 0 ∷ []))
    -- semv 2 2 3 1 31 -32 33: next of k is its mate, from the other end, way 1
    ∷ accepts edge (operation 11 7 (pos 2 ∷ pos 2 ∷ pos 3 ∷ pos 1 ∷ pos 31 ∷ negsuc 31 ∷ pos 33 ∷ pos 0 ∷ []))
    (table (1 ∷ 2 ∷ 2 ∷ 3 ∷ 4 ∷ 1 ∷ 1 ∷ 1 ∷ 0 ∷ 0 ∷ 1 ∷ 1 ∷ 0 ∷ 0 ∷ 0 ∷ 0 ∷ 3 ∷ 1 ∷ 2 ∷ 3 ∷ 2 ∷ 1 ∷ 4 ∷ 1 ∷ 1 ∷ 1 ∷ 1 ∷ 4 ∷ 3 ∷ 1 ∷ 3 ∷ 2 ∷ 0 ∷ 0 ∷ 0 ∷ 0 ∷ 0 ∷ 0 ∷ 0 ∷ 0 ∷ 2 ∷ 2 ∷ 3 ∷ 0 ∷ []) (pos 11 ∷ negsuc 11 ∷ pos 13 ∷ pos 21 ∷ negsuc 21 ∷ pos 23 ∷ pos 31 ∷ negsuc 31 ∷ pos 33 ∷ pos 0 ∷ pos 0 ∷ pos 0 ∷ []))
    (operation 12 1 (pos 2 ∷ pos 0 ∷ pos 0 ∷ pos 0 ∷ pos 0 ∷ pos 0 ∷ pos 0 ∷ pos 0 ∷ []))
    -- semv 1 2 2 0 21 -22 23: a loop of one half-edge
    ∷ accepts circle (operation 11 7 (pos 1 ∷ pos 2 ∷ pos 2 ∷ pos 0 ∷ pos 21 ∷ negsuc 21 ∷ pos 23 ∷ pos 0 ∷ []))
    (table (1 ∷ 2 ∷ 2 ∷ 3 ∷ 4 ∷ 1 ∷ 1 ∷ 1 ∷ 1 ∷ 2 ∷ 1 ∷ 1 ∷ 0 ∷ 2 ∷ 2 ∷ 0 ∷ 1 ∷ 1 ∷ 3 ∷ 3 ∷ 2 ∷ 2 ∷ 4 ∷ 4 ∷ 2 ∷ 1 ∷ 1 ∷ 1 ∷ 1 ∷ 2 ∷ 2 ∷ 2 ∷ 0 ∷ 0 ∷ 0 ∷ 0 ∷ 0 ∷ 0 ∷ 0 ∷ 0 ∷ 3 ∷ 3 ∷ 0 ∷ 0 ∷ []) (pos 11 ∷ negsuc 11 ∷ pos 13 ∷ pos 21 ∷ negsuc 21 ∷ pos 23 ∷ pos 0 ∷ pos 0 ∷ pos 0 ∷ pos 0 ∷ pos 0 ∷ pos 0 ∷ []))
    (operation 12 1 (pos 1 ∷ pos 0 ∷ pos 0 ∷ pos 0 ∷ pos 0 ∷ pos 0 ∷ pos 0 ∷ pos 0 ∷ []))
    -- semv 2 2 2 1 21 -22 23: a loop of one half-edge, way 1
    ∷ accepts circle (operation 11 7 (pos 2 ∷ pos 2 ∷ pos 2 ∷ pos 1 ∷ pos 21 ∷ negsuc 21 ∷ pos 23 ∷ pos 0 ∷ []))
    (table (1 ∷ 2 ∷ 2 ∷ 3 ∷ 4 ∷ 1 ∷ 1 ∷ 1 ∷ 1 ∷ 2 ∷ 1 ∷ 1 ∷ 0 ∷ 2 ∷ 2 ∷ 0 ∷ 2 ∷ 1 ∷ 3 ∷ 3 ∷ 1 ∷ 2 ∷ 4 ∷ 4 ∷ 1 ∷ 1 ∷ 1 ∷ 1 ∷ 2 ∷ 2 ∷ 2 ∷ 2 ∷ 0 ∷ 0 ∷ 0 ∷ 0 ∷ 0 ∷ 0 ∷ 0 ∷ 0 ∷ 3 ∷ 3 ∷ 0 ∷ 0 ∷ []) (pos 11 ∷ negsuc 11 ∷ pos 13 ∷ pos 21 ∷ negsuc 21 ∷ pos 23 ∷ pos 0 ∷ pos 0 ∷ pos 0 ∷ pos 0 ∷ pos 0 ∷ pos 0 ∷ []))
    (operation 12 1 (pos 2 ∷ pos 0 ∷ pos 0 ∷ pos 0 ∷ pos 0 ∷ pos 0 ∷ pos 0 ∷ pos 0 ∷ []))
    -- semv 1 3 4 0 41 -42 43: next of k is of another edge
    ∷ accepts line (operation 11 7 (pos 1 ∷ pos 3 ∷ pos 4 ∷ pos 0 ∷ pos 41 ∷ negsuc 41 ∷ pos 43 ∷ pos 0 ∷ []))
    (table (1 ∷ 2 ∷ 2 ∷ 3 ∷ 4 ∷ 1 ∷ 1 ∷ 1 ∷ 0 ∷ 0 ∷ 1 ∷ 1 ∷ 0 ∷ 0 ∷ 0 ∷ 0 ∷ 1 ∷ 1 ∷ 5 ∷ 2 ∷ 4 ∷ 1 ∷ 1 ∷ 6 ∷ 2 ∷ 1 ∷ 4 ∷ 5 ∷ 3 ∷ 1 ∷ 6 ∷ 3 ∷ 4 ∷ 1 ∷ 3 ∷ 1 ∷ 2 ∷ 1 ∷ 2 ∷ 4 ∷ 2 ∷ 3 ∷ 2 ∷ 3 ∷ []) (pos 11 ∷ negsuc 11 ∷ pos 13 ∷ pos 21 ∷ negsuc 21 ∷ pos 23 ∷ pos 31 ∷ negsuc 31 ∷ pos 33 ∷ pos 41 ∷ negsuc 41 ∷ pos 43 ∷ []))
    (operation 12 1 (pos 1 ∷ pos 0 ∷ pos 0 ∷ pos 0 ∷ pos 0 ∷ pos 0 ∷ pos 0 ∷ pos 0 ∷ []))
    -- semv 3 3 4 1 41 -42 43: at the end of a line
    ∷ accepts line (operation 11 7 (pos 3 ∷ pos 3 ∷ pos 4 ∷ pos 1 ∷ pos 41 ∷ negsuc 41 ∷ pos 43 ∷ pos 0 ∷ []))
    (table (1 ∷ 2 ∷ 2 ∷ 3 ∷ 4 ∷ 1 ∷ 1 ∷ 1 ∷ 0 ∷ 0 ∷ 1 ∷ 1 ∷ 0 ∷ 0 ∷ 0 ∷ 0 ∷ 1 ∷ 1 ∷ 3 ∷ 2 ∷ 2 ∷ 1 ∷ 1 ∷ 4 ∷ 2 ∷ 1 ∷ 6 ∷ 1 ∷ 4 ∷ 1 ∷ 2 ∷ 5 ∷ 3 ∷ 1 ∷ 4 ∷ 6 ∷ 4 ∷ 1 ∷ 5 ∷ 3 ∷ 2 ∷ 3 ∷ 2 ∷ 3 ∷ []) (pos 11 ∷ negsuc 11 ∷ pos 13 ∷ pos 21 ∷ negsuc 21 ∷ pos 23 ∷ pos 31 ∷ negsuc 31 ∷ pos 33 ∷ pos 41 ∷ negsuc 41 ∷ pos 43 ∷ []))
    (operation 12 1 (pos 3 ∷ pos 0 ∷ pos 0 ∷ pos 0 ∷ pos 0 ∷ pos 0 ∷ pos 0 ∷ pos 0 ∷ []))
    -- semv 3 3 3 0 31 -32 33: the halves in two faces
    ∷ accepts two_faces (operation 11 7 (pos 3 ∷ pos 3 ∷ pos 3 ∷ pos 0 ∷ pos 31 ∷ negsuc 31 ∷ pos 33 ∷ pos 0 ∷ []))
    (table (1 ∷ 2 ∷ 2 ∷ 3 ∷ 4 ∷ 1 ∷ 1 ∷ 1 ∷ 1 ∷ 2 ∷ 1 ∷ 2 ∷ 0 ∷ 2 ∷ 1 ∷ 0 ∷ 1 ∷ 2 ∷ 6 ∷ 4 ∷ 2 ∷ 1 ∷ 3 ∷ 5 ∷ 1 ∷ 1 ∷ 5 ∷ 2 ∷ 3 ∷ 2 ∷ 1 ∷ 6 ∷ 3 ∷ 1 ∷ 2 ∷ 3 ∷ 2 ∷ 2 ∷ 4 ∷ 1 ∷ 3 ∷ 3 ∷ 3 ∷ 0 ∷ []) (pos 11 ∷ negsuc 11 ∷ pos 13 ∷ pos 21 ∷ negsuc 21 ∷ pos 23 ∷ pos 31 ∷ negsuc 31 ∷ pos 33 ∷ pos 0 ∷ pos 0 ∷ pos 0 ∷ []))
    (operation 12 1 (pos 3 ∷ pos 0 ∷ pos 0 ∷ pos 0 ∷ pos 0 ∷ pos 0 ∷ pos 0 ∷ pos 0 ∷ []))
    -- semv 6 1 3 1 31 -32 33: the new ones are the least
    ∷ accepts late (operation 11 7 (pos 6 ∷ pos 1 ∷ pos 3 ∷ pos 1 ∷ pos 31 ∷ negsuc 31 ∷ pos 33 ∷ pos 0 ∷ []))
    (table (1 ∷ 2 ∷ 2 ∷ 3 ∷ 4 ∷ 1 ∷ 1 ∷ 1 ∷ 0 ∷ 0 ∷ 1 ∷ 1 ∷ 0 ∷ 0 ∷ 0 ∷ 0 ∷ 1 ∷ 1 ∷ 5 ∷ 2 ∷ 3 ∷ 1 ∷ 1 ∷ 6 ∷ 0 ∷ 0 ∷ 0 ∷ 0 ∷ 0 ∷ 0 ∷ 0 ∷ 0 ∷ 3 ∷ 1 ∷ 6 ∷ 1 ∷ 2 ∷ 1 ∷ 2 ∷ 5 ∷ 2 ∷ 2 ∷ 3 ∷ 0 ∷ []) (pos 11 ∷ negsuc 11 ∷ pos 13 ∷ pos 21 ∷ negsuc 21 ∷ pos 23 ∷ pos 31 ∷ negsuc 31 ∷ pos 33 ∷ pos 0 ∷ pos 0 ∷ pos 0 ∷ []))
    (operation 12 1 (pos 6 ∷ pos 0 ∷ pos 0 ∷ pos 0 ∷ pos 0 ∷ pos 0 ∷ pos 0 ∷ pos 0 ∷ []))
    -- jekv 1: next of n is its mate
    ∷ accepts line (operation 12 1 (pos 1 ∷ pos 0 ∷ pos 0 ∷ pos 0 ∷ pos 0 ∷ pos 0 ∷ pos 0 ∷ pos 0 ∷ []))
    (table (1 ∷ 2 ∷ 2 ∷ 3 ∷ 4 ∷ 1 ∷ 1 ∷ 1 ∷ 0 ∷ 0 ∷ 1 ∷ 1 ∷ 0 ∷ 0 ∷ 0 ∷ 0 ∷ 1 ∷ 1 ∷ 2 ∷ 2 ∷ 3 ∷ 1 ∷ 1 ∷ 1 ∷ 0 ∷ 0 ∷ 0 ∷ 0 ∷ 0 ∷ 0 ∷ 0 ∷ 0 ∷ 0 ∷ 0 ∷ 0 ∷ 0 ∷ 0 ∷ 0 ∷ 0 ∷ 0 ∷ 2 ∷ 0 ∷ 2 ∷ 0 ∷ []) (pos 11 ∷ negsuc 11 ∷ pos 13 ∷ pos 0 ∷ pos 0 ∷ pos 0 ∷ pos 31 ∷ negsuc 31 ∷ pos 33 ∷ pos 0 ∷ pos 0 ∷ pos 0 ∷ []))
    (operation 11 7 (pos 1 ∷ pos 2 ∷ pos 2 ∷ pos 0 ∷ pos 21 ∷ negsuc 21 ∷ pos 23 ∷ pos 0 ∷ []))
    -- jekv 4: the other end, first is killed
    ∷ accepts line (operation 12 1 (pos 4 ∷ pos 0 ∷ pos 0 ∷ pos 0 ∷ pos 0 ∷ pos 0 ∷ pos 0 ∷ pos 0 ∷ []))
    (table (1 ∷ 2 ∷ 2 ∷ 3 ∷ 4 ∷ 1 ∷ 1 ∷ 1 ∷ 0 ∷ 0 ∷ 1 ∷ 3 ∷ 0 ∷ 0 ∷ 0 ∷ 0 ∷ 0 ∷ 0 ∷ 0 ∷ 0 ∷ 0 ∷ 0 ∷ 0 ∷ 0 ∷ 1 ∷ 1 ∷ 4 ∷ 4 ∷ 3 ∷ 1 ∷ 3 ∷ 3 ∷ 0 ∷ 0 ∷ 0 ∷ 0 ∷ 0 ∷ 0 ∷ 0 ∷ 0 ∷ 2 ∷ 0 ∷ 2 ∷ 0 ∷ []) (pos 11 ∷ negsuc 11 ∷ pos 13 ∷ pos 0 ∷ pos 0 ∷ pos 0 ∷ pos 31 ∷ negsuc 31 ∷ pos 33 ∷ pos 0 ∷ pos 0 ∷ pos 0 ∷ []))
    (operation 11 7 (pos 4 ∷ pos 1 ∷ pos 2 ∷ pos 1 ∷ pos 21 ∷ negsuc 21 ∷ pos 23 ∷ pos 0 ∷ []))
    -- jekv 1: next of n is k
    ∷ accepts divided (operation 12 1 (pos 1 ∷ pos 0 ∷ pos 0 ∷ pos 0 ∷ pos 0 ∷ pos 0 ∷ pos 0 ∷ pos 0 ∷ []))
    (table (1 ∷ 2 ∷ 2 ∷ 3 ∷ 4 ∷ 1 ∷ 1 ∷ 1 ∷ 1 ∷ 2 ∷ 1 ∷ 1 ∷ 0 ∷ 2 ∷ 2 ∷ 0 ∷ 1 ∷ 1 ∷ 1 ∷ 1 ∷ 1 ∷ 2 ∷ 2 ∷ 2 ∷ 0 ∷ 0 ∷ 0 ∷ 0 ∷ 0 ∷ 0 ∷ 0 ∷ 0 ∷ 0 ∷ 0 ∷ 0 ∷ 0 ∷ 0 ∷ 0 ∷ 0 ∷ 0 ∷ 3 ∷ 0 ∷ 0 ∷ 0 ∷ []) (pos 11 ∷ negsuc 11 ∷ pos 13 ∷ pos 0 ∷ pos 0 ∷ pos 0 ∷ pos 0 ∷ pos 0 ∷ pos 0 ∷ pos 0 ∷ pos 0 ∷ pos 0 ∷ []))
    (operation 11 7 (pos 1 ∷ pos 2 ∷ pos 2 ∷ pos 0 ∷ pos 21 ∷ negsuc 21 ∷ pos 23 ∷ pos 0 ∷ []))
    -- jekv 3: next of n is k, first is killed
    ∷ accepts divided (operation 12 1 (pos 3 ∷ pos 0 ∷ pos 0 ∷ pos 0 ∷ pos 0 ∷ pos 0 ∷ pos 0 ∷ pos 0 ∷ []))
    (table (1 ∷ 2 ∷ 2 ∷ 3 ∷ 4 ∷ 1 ∷ 1 ∷ 1 ∷ 1 ∷ 2 ∷ 1 ∷ 3 ∷ 0 ∷ 2 ∷ 4 ∷ 0 ∷ 0 ∷ 0 ∷ 0 ∷ 0 ∷ 0 ∷ 0 ∷ 0 ∷ 0 ∷ 2 ∷ 1 ∷ 3 ∷ 3 ∷ 2 ∷ 2 ∷ 4 ∷ 4 ∷ 0 ∷ 0 ∷ 0 ∷ 0 ∷ 0 ∷ 0 ∷ 0 ∷ 0 ∷ 0 ∷ 3 ∷ 0 ∷ 0 ∷ []) (pos 0 ∷ pos 0 ∷ pos 0 ∷ pos 21 ∷ negsuc 21 ∷ pos 23 ∷ pos 0 ∷ pos 0 ∷ pos 0 ∷ pos 0 ∷ pos 0 ∷ pos 0 ∷ []))
    (operation 11 7 (pos 3 ∷ pos 1 ∷ pos 1 ∷ pos 0 ∷ pos 11 ∷ negsuc 11 ∷ pos 13 ∷ pos 0 ∷ []))
    -- jekv 3: the halves in two faces
    ∷ accepts two_faces (operation 12 1 (pos 3 ∷ pos 0 ∷ pos 0 ∷ pos 0 ∷ pos 0 ∷ pos 0 ∷ pos 0 ∷ pos 0 ∷ []))
    (table (1 ∷ 2 ∷ 2 ∷ 3 ∷ 4 ∷ 1 ∷ 1 ∷ 1 ∷ 1 ∷ 2 ∷ 1 ∷ 3 ∷ 0 ∷ 2 ∷ 4 ∷ 0 ∷ 0 ∷ 0 ∷ 0 ∷ 0 ∷ 0 ∷ 0 ∷ 0 ∷ 0 ∷ 1 ∷ 1 ∷ 3 ∷ 3 ∷ 1 ∷ 2 ∷ 4 ∷ 4 ∷ 0 ∷ 0 ∷ 0 ∷ 0 ∷ 0 ∷ 0 ∷ 0 ∷ 0 ∷ 3 ∷ 0 ∷ 0 ∷ 0 ∷ []) (pos 11 ∷ negsuc 11 ∷ pos 13 ∷ pos 0 ∷ pos 0 ∷ pos 0 ∷ pos 0 ∷ pos 0 ∷ pos 0 ∷ pos 0 ∷ pos 0 ∷ pos 0 ∷ []))
    (operation 11 7 (pos 3 ∷ pos 1 ∷ pos 2 ∷ pos 1 ∷ pos 21 ∷ negsuc 21 ∷ pos 23 ∷ pos 0 ∷ []))
    -- 8, jekv 1: n is the mate
    ∷ refuses edge (operation 12 1 (pos 1 ∷ pos 0 ∷ pos 0 ∷ pos 0 ∷ pos 0 ∷ pos 0 ∷ pos 0 ∷ pos 0 ∷ [])) 8
    -- 8, jekv 1: n is k
    ∷ refuses circle (operation 12 1 (pos 1 ∷ pos 0 ∷ pos 0 ∷ pos 0 ∷ pos 0 ∷ pos 0 ∷ pos 0 ∷ pos 0 ∷ [])) 8
    -- 8, jekv 1: three edges at the vertex
    ∷ refuses fork (operation 12 1 (pos 1 ∷ pos 0 ∷ pos 0 ∷ pos 0 ∷ pos 0 ∷ pos 0 ∷ pos 0 ∷ pos 0 ∷ [])) 8
    -- 8, jekv 3: n is the mate, at the end of a line
    ∷ refuses fork (operation 12 1 (pos 3 ∷ pos 0 ∷ pos 0 ∷ pos 0 ∷ pos 0 ∷ pos 0 ∷ pos 0 ∷ pos 0 ∷ [])) 8
    -- 5, semv 7 2 3 0 31 -32 33: k out of range
    ∷ refuses edge (operation 11 7 (pos 7 ∷ pos 2 ∷ pos 3 ∷ pos 0 ∷ pos 31 ∷ negsuc 31 ∷ pos 33 ∷ pos 0 ∷ [])) 5
    -- 5, semv 0 2 3 0 31 -32 33: k 0
    ∷ refuses edge (operation 11 7 (pos 0 ∷ pos 2 ∷ pos 3 ∷ pos 0 ∷ pos 31 ∷ negsuc 31 ∷ pos 33 ∷ pos 0 ∷ [])) 5
    -- 6, semv 3 2 3 0 31 -32 33: k free
    ∷ refuses edge (operation 11 7 (pos 3 ∷ pos 2 ∷ pos 3 ∷ pos 0 ∷ pos 31 ∷ negsuc 31 ∷ pos 33 ∷ pos 0 ∷ [])) 6
    -- 5, semv 1 4 3 0 31 -32 33: e out of range
    ∷ refuses edge (operation 11 7 (pos 1 ∷ pos 4 ∷ pos 3 ∷ pos 0 ∷ pos 31 ∷ negsuc 31 ∷ pos 33 ∷ pos 0 ∷ [])) 5
    -- 5, semv 1 0 3 0 31 -32 33: e 0
    ∷ refuses edge (operation 11 7 (pos 1 ∷ pos 0 ∷ pos 3 ∷ pos 0 ∷ pos 31 ∷ negsuc 31 ∷ pos 33 ∷ pos 0 ∷ [])) 5
    -- 7, semv 1 1 3 0 31 -32 33: e in use
    ∷ refuses edge (operation 11 7 (pos 1 ∷ pos 1 ∷ pos 3 ∷ pos 0 ∷ pos 31 ∷ negsuc 31 ∷ pos 33 ∷ pos 0 ∷ [])) 7
    -- 5, semv 1 2 5 0 31 -32 33: v out of range
    ∷ refuses edge (operation 11 7 (pos 1 ∷ pos 2 ∷ pos 5 ∷ pos 0 ∷ pos 31 ∷ negsuc 31 ∷ pos 33 ∷ pos 0 ∷ [])) 5
    -- 5, semv 1 2 0 0 31 -32 33: v 0
    ∷ refuses edge (operation 11 7 (pos 1 ∷ pos 2 ∷ pos 0 ∷ pos 0 ∷ pos 31 ∷ negsuc 31 ∷ pos 33 ∷ pos 0 ∷ [])) 5
    -- 7, semv 1 2 1 0 31 -32 33: v in use
    ∷ refuses edge (operation 11 7 (pos 1 ∷ pos 2 ∷ pos 1 ∷ pos 0 ∷ pos 31 ∷ negsuc 31 ∷ pos 33 ∷ pos 0 ∷ [])) 7
    -- 5, semv 1 2 3 2 31 -32 33: w out of range
    ∷ refuses edge (operation 11 7 (pos 1 ∷ pos 2 ∷ pos 3 ∷ pos 2 ∷ pos 31 ∷ negsuc 31 ∷ pos 33 ∷ pos 0 ∷ [])) 5
    -- 5, semv 1 2 3 0 50001 -32 33: x out of range
    ∷ refuses edge (operation 11 7 (pos 1 ∷ pos 2 ∷ pos 3 ∷ pos 0 ∷ pos 50001 ∷ negsuc 31 ∷ pos 33 ∷ pos 0 ∷ [])) 5
    -- 5, semv 1 2 3 0 31 -50001 33: y out of range
    ∷ refuses edge (operation 11 7 (pos 1 ∷ pos 2 ∷ pos 3 ∷ pos 0 ∷ pos 31 ∷ negsuc 50000 ∷ pos 33 ∷ pos 0 ∷ [])) 5
    -- 5, semv 1 2 3 0 31 -32 50001: z out of range
    ∷ refuses edge (operation 11 7 (pos 1 ∷ pos 2 ∷ pos 3 ∷ pos 0 ∷ pos 31 ∷ negsuc 31 ∷ pos 50001 ∷ pos 0 ∷ [])) 5
    -- 5, semv 3 2 3 0 31 -32 50001: k free and z out of range
    ∷ refuses edge (operation 11 7 (pos 3 ∷ pos 2 ∷ pos 3 ∷ pos 0 ∷ pos 31 ∷ negsuc 31 ∷ pos 50001 ∷ pos 0 ∷ [])) 5
    -- 6, semv 3 2 1 0 31 -32 33: k free and v in use
    ∷ refuses edge (operation 11 7 (pos 3 ∷ pos 2 ∷ pos 1 ∷ pos 0 ∷ pos 31 ∷ negsuc 31 ∷ pos 33 ∷ pos 0 ∷ [])) 6
    -- 5, jekv 7: k out of range
    ∷ refuses line (operation 12 1 (pos 7 ∷ pos 0 ∷ pos 0 ∷ pos 0 ∷ pos 0 ∷ pos 0 ∷ pos 0 ∷ pos 0 ∷ [])) 5
    -- 5, jekv 0: k 0
    ∷ refuses line (operation 12 1 (pos 0 ∷ pos 0 ∷ pos 0 ∷ pos 0 ∷ pos 0 ∷ pos 0 ∷ pos 0 ∷ pos 0 ∷ [])) 5
    -- 6, jekv 5: k free
    ∷ refuses line (operation 12 1 (pos 5 ∷ pos 0 ∷ pos 0 ∷ pos 0 ∷ pos 0 ∷ pos 0 ∷ pos 0 ∷ pos 0 ∷ [])) 6
    ∷ []
