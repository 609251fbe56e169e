-- Checked examples: rmov. The words come from the model in tests/model, by rows.py.
use Rattle.std.specs.Prelude.{List, [], ◌∷◌, pos, negsuc}
use Rattle.euler.specs.Exec.{Table}
use Rattle.evidence_rows.specs.Row.{Row, table, operation, accepts, refuses}

-- the two faces share ring 2's edge only: mvsf 1 1 1 1 0 0 0; mev 1 0 1 2 0 9 0 0; kemr 1 2; mef 2 0 0 1 2 3 0
abbrev witness : Table
witness = table (1 ∷ 2 ∷ 3 ∷ 1 ∷ 2 ∷ 1 ∷ 1 ∷ 1 ∷ 1 ∷ 3 ∷ 1 ∷ 0 ∷ 1 ∷ 1 ∷ 1 ∷ 0 ∷ 2 ∷ 2 ∷ 0 ∷ 2 ∷ 2 ∷ 1 ∷ 1 ∷ 2 ∷ 3 ∷ 2 ∷ 2 ∷ 1 ∷ 3 ∷ []) (pos 0 ∷ pos 0 ∷ pos 0 ∷ pos 9 ∷ pos 0 ∷ pos 0 ∷ [])

-- an isolated ring: mvsf 1 1 1 1 11 -12 13; mev 1 0 1 2 0 21 -22 23; kemr 1 2
abbrev lone_ring : Table
lone_ring = table (2 ∷ 3 ∷ 4 ∷ 2 ∷ 3 ∷ 1 ∷ 0 ∷ 1 ∷ 1 ∷ 0 ∷ 0 ∷ 0 ∷ 0 ∷ 1 ∷ 0 ∷ 1 ∷ 1 ∷ 0 ∷ 2 ∷ 0 ∷ 0 ∷ 0 ∷ 0 ∷ 0 ∷ 0 ∷ 0 ∷ 0 ∷ 0 ∷ 0 ∷ 0 ∷ 0 ∷ 0 ∷ 0 ∷ 0 ∷ 0 ∷ 0 ∷ 0 ∷ 0 ∷ 0 ∷ 0 ∷ 0 ∷ 1 ∷ 1 ∷ 0 ∷ []) (pos 11 ∷ negsuc 11 ∷ pos 13 ∷ pos 21 ∷ negsuc 21 ∷ pos 23 ∷ pos 0 ∷ pos 0 ∷ pos 0 ∷ [])

-- loop 1 is 2 3, loop 2 is 1 4: mvsf 1 1 1 1 11 -12 13; mev 1 0 1 2 0 21 -22 23; mef 1 1 2 2 2 2 0
abbrev two_faces : Table
two_faces = table (2 ∷ 3 ∷ 4 ∷ 2 ∷ 3 ∷ 1 ∷ 0 ∷ 1 ∷ 1 ∷ 1 ∷ 2 ∷ 0 ∷ 0 ∷ 1 ∷ 2 ∷ 0 ∷ 2 ∷ 1 ∷ 0 ∷ 0 ∷ 0 ∷ 0 ∷ 0 ∷ 0 ∷ 0 ∷ 1 ∷ 2 ∷ 4 ∷ 4 ∷ 2 ∷ 1 ∷ 3 ∷ 3 ∷ 1 ∷ 1 ∷ 2 ∷ 2 ∷ 2 ∷ 2 ∷ 1 ∷ 1 ∷ 3 ∷ 3 ∷ 0 ∷ []) (pos 11 ∷ negsuc 11 ∷ pos 13 ∷ pos 21 ∷ negsuc 21 ∷ pos 23 ∷ pos 0 ∷ pos 0 ∷ pos 0 ∷ [])

-- loop 1 is 1, isolated ring 2, face 2 beside loop 1: mvsf 1 1 1 1 11 -12 13; mev 1 0 1 2 0 21 -22 23; kemr 1 2; mef 1 0 0 1 2 3 0
abbrev outer_shared : Table
outer_shared = table (2 ∷ 3 ∷ 4 ∷ 2 ∷ 3 ∷ 1 ∷ 0 ∷ 1 ∷ 1 ∷ 1 ∷ 3 ∷ 0 ∷ 0 ∷ 1 ∷ 1 ∷ 0 ∷ 1 ∷ 0 ∷ 2 ∷ 2 ∷ 2 ∷ 0 ∷ 0 ∷ 0 ∷ 0 ∷ 1 ∷ 1 ∷ 1 ∷ 1 ∷ 1 ∷ 3 ∷ 2 ∷ 2 ∷ 0 ∷ 0 ∷ 0 ∷ 0 ∷ 0 ∷ 0 ∷ 0 ∷ 0 ∷ 3 ∷ 1 ∷ 0 ∷ []) (pos 11 ∷ negsuc 11 ∷ pos 13 ∷ pos 21 ∷ negsuc 21 ∷ pos 23 ∷ pos 0 ∷ pos 0 ∷ pos 0 ∷ [])

-- isolated outer loop 2, ring 1 is 1, isolated ring 4, face 2 beside ring 1: mvsf 1 1 1 1 11 -12 13; mev 1 0 1 2 0 21 -22 23; kemr 1 2; mef 1 0 0 1 2 3 0; mev 2 0 2 3 0 31 -32 33; kemr 3 4; rmov 2 1
abbrev by_ring : Table
by_ring = table (2 ∷ 3 ∷ 4 ∷ 2 ∷ 3 ∷ 1 ∷ 0 ∷ 1 ∷ 2 ∷ 1 ∷ 3 ∷ 0 ∷ 0 ∷ 1 ∷ 1 ∷ 0 ∷ 1 ∷ 0 ∷ 2 ∷ 2 ∷ 2 ∷ 0 ∷ 1 ∷ 0 ∷ 3 ∷ 1 ∷ 1 ∷ 1 ∷ 1 ∷ 1 ∷ 3 ∷ 2 ∷ 2 ∷ 0 ∷ 0 ∷ 0 ∷ 0 ∷ 0 ∷ 0 ∷ 0 ∷ 0 ∷ 3 ∷ 1 ∷ 1 ∷ []) (pos 11 ∷ negsuc 11 ∷ pos 13 ∷ pos 21 ∷ negsuc 21 ∷ pos 23 ∷ pos 31 ∷ negsuc 31 ∷ pos 33 ∷ [])

-- face 2 between the faces 1 and 3: mvsf 1 1 1 1 11 -12 13; mev 1 0 1 2 0 21 -22 23; kemr 1 2; mef 1 0 0 1 2 3 0; mef 3 2 2 2 3 4 0
abbrev chain : Table
chain = table (2 ∷ 3 ∷ 4 ∷ 2 ∷ 3 ∷ 1 ∷ 0 ∷ 1 ∷ 1 ∷ 1 ∷ 3 ∷ 1 ∷ 4 ∷ 1 ∷ 1 ∷ 0 ∷ 1 ∷ 0 ∷ 2 ∷ 2 ∷ 2 ∷ 0 ∷ 3 ∷ 4 ∷ 0 ∷ 1 ∷ 1 ∷ 1 ∷ 1 ∷ 1 ∷ 3 ∷ 3 ∷ 3 ∷ 1 ∷ 3 ∷ 2 ∷ 2 ∷ 1 ∷ 4 ∷ 4 ∷ 4 ∷ 5 ∷ 1 ∷ 0 ∷ []) (pos 11 ∷ negsuc 11 ∷ pos 13 ∷ pos 21 ∷ negsuc 21 ∷ pos 23 ∷ pos 0 ∷ pos 0 ∷ pos 0 ∷ [])

-- ring 2 and loop 1 of face 1 beside face 2: mvsf 1 1 1 1 11 -12 13; mev 1 0 1 2 0 21 -22 23; kemr 1 2; mef 2 0 0 1 2 3 0; mef 1 0 0 2 3 4 0; kfmrh 2 3
abbrev both : Table
both = table (2 ∷ 3 ∷ 4 ∷ 2 ∷ 3 ∷ 1 ∷ 0 ∷ 1 ∷ 1 ∷ 1 ∷ 3 ∷ 0 ∷ 0 ∷ 1 ∷ 3 ∷ 0 ∷ 1 ∷ 1 ∷ 0 ∷ 2 ∷ 2 ∷ 0 ∷ 2 ∷ 4 ∷ 0 ∷ 2 ∷ 2 ∷ 1 ∷ 1 ∷ 2 ∷ 3 ∷ 2 ∷ 2 ∷ 1 ∷ 1 ∷ 3 ∷ 3 ∷ 1 ∷ 4 ∷ 4 ∷ 4 ∷ 3 ∷ 3 ∷ 0 ∷ []) (pos 11 ∷ negsuc 11 ∷ pos 13 ∷ pos 21 ∷ negsuc 21 ∷ pos 23 ∷ pos 0 ∷ pos 0 ∷ pos 0 ∷ [])

-- an isolated ring, and another solid: mvsf 1 1 1 1 11 -12 13; mev 1 0 1 2 0 21 -22 23; kemr 1 2; mvsf 2 3 3 3 31 -32 33
abbrev beside : Table
beside = table (2 ∷ 3 ∷ 4 ∷ 2 ∷ 3 ∷ 1 ∷ 1 ∷ 1 ∷ 1 ∷ 0 ∷ 0 ∷ 2 ∷ 3 ∷ 1 ∷ 0 ∷ 1 ∷ 1 ∷ 0 ∷ 2 ∷ 3 ∷ 0 ∷ 3 ∷ 0 ∷ 0 ∷ 0 ∷ 0 ∷ 0 ∷ 0 ∷ 0 ∷ 0 ∷ 0 ∷ 0 ∷ 0 ∷ 0 ∷ 0 ∷ 0 ∷ 0 ∷ 0 ∷ 0 ∷ 0 ∷ 0 ∷ 1 ∷ 1 ∷ 1 ∷ []) (pos 11 ∷ negsuc 11 ∷ pos 13 ∷ pos 21 ∷ negsuc 21 ∷ pos 23 ∷ pos 31 ∷ negsuc 31 ∷ pos 33 ∷ [])

-- rmov
abbrev pub rings_rows : List Row
rings_rows =
    -- 8, rmov 2 2: only an edge of the moved ring
    refuses witness (operation 13 2 (pos 2 ∷ pos 2 ∷ pos 0 ∷ pos 0 ∷ pos 0 ∷ pos 0 ∷ pos 0 ∷ pos 0 ∷ [])) 8
    -- rmov 2 1: its own face: it becomes outer
    ∷ accepts witness (operation 13 2 (pos 2 ∷ pos 1 ∷ pos 0 ∷ pos 0 ∷ pos 0 ∷ pos 0 ∷ pos 0 ∷ pos 0 ∷ []))
    (table (1 ∷ 2 ∷ 3 ∷ 1 ∷ 2 ∷ 1 ∷ 1 ∷ 2 ∷ 1 ∷ 3 ∷ 1 ∷ 0 ∷ 1 ∷ 1 ∷ 1 ∷ 0 ∷ 2 ∷ 2 ∷ 0 ∷ 2 ∷ 2 ∷ 1 ∷ 1 ∷ 2 ∷ 3 ∷ 2 ∷ 2 ∷ 1 ∷ 3 ∷ []) (pos 0 ∷ pos 0 ∷ pos 0 ∷ pos 9 ∷ pos 0 ∷ pos 0 ∷ []))
    (operation 13 2 (pos 1 ∷ pos 1 ∷ pos 0 ∷ pos 0 ∷ pos 0 ∷ pos 0 ∷ pos 0 ∷ pos 0 ∷ []))
    -- rmov 2 1: its own face, both isolated
    ∷ accepts lone_ring (operation 13 2 (pos 2 ∷ pos 1 ∷ pos 0 ∷ pos 0 ∷ pos 0 ∷ pos 0 ∷ pos 0 ∷ pos 0 ∷ []))
    (table (2 ∷ 3 ∷ 4 ∷ 2 ∷ 3 ∷ 1 ∷ 0 ∷ 1 ∷ 2 ∷ 0 ∷ 0 ∷ 0 ∷ 0 ∷ 1 ∷ 0 ∷ 1 ∷ 1 ∷ 0 ∷ 2 ∷ 0 ∷ 0 ∷ 0 ∷ 0 ∷ 0 ∷ 0 ∷ 0 ∷ 0 ∷ 0 ∷ 0 ∷ 0 ∷ 0 ∷ 0 ∷ 0 ∷ 0 ∷ 0 ∷ 0 ∷ 0 ∷ 0 ∷ 0 ∷ 0 ∷ 0 ∷ 1 ∷ 1 ∷ 0 ∷ []) (pos 11 ∷ negsuc 11 ∷ pos 13 ∷ pos 21 ∷ negsuc 21 ∷ pos 23 ∷ pos 0 ∷ pos 0 ∷ pos 0 ∷ []))
    (operation 13 2 (pos 1 ∷ pos 1 ∷ pos 0 ∷ pos 0 ∷ pos 0 ∷ pos 0 ∷ pos 0 ∷ pos 0 ∷ []))
    -- rmov 2 1: its own face
    ∷ accepts outer_shared (operation 13 2 (pos 2 ∷ pos 1 ∷ pos 0 ∷ pos 0 ∷ pos 0 ∷ pos 0 ∷ pos 0 ∷ pos 0 ∷ []))
    (table (2 ∷ 3 ∷ 4 ∷ 2 ∷ 3 ∷ 1 ∷ 0 ∷ 1 ∷ 2 ∷ 1 ∷ 3 ∷ 0 ∷ 0 ∷ 1 ∷ 1 ∷ 0 ∷ 1 ∷ 0 ∷ 2 ∷ 2 ∷ 2 ∷ 0 ∷ 0 ∷ 0 ∷ 0 ∷ 1 ∷ 1 ∷ 1 ∷ 1 ∷ 1 ∷ 3 ∷ 2 ∷ 2 ∷ 0 ∷ 0 ∷ 0 ∷ 0 ∷ 0 ∷ 0 ∷ 0 ∷ 0 ∷ 3 ∷ 1 ∷ 0 ∷ []) (pos 11 ∷ negsuc 11 ∷ pos 13 ∷ pos 21 ∷ negsuc 21 ∷ pos 23 ∷ pos 0 ∷ pos 0 ∷ pos 0 ∷ []))
    (operation 13 2 (pos 1 ∷ pos 1 ∷ pos 0 ∷ pos 0 ∷ pos 0 ∷ pos 0 ∷ pos 0 ∷ pos 0 ∷ []))
    -- rmov 2 2: another face, by the outer loop's edge
    ∷ accepts outer_shared (operation 13 2 (pos 2 ∷ pos 2 ∷ pos 0 ∷ pos 0 ∷ pos 0 ∷ pos 0 ∷ pos 0 ∷ pos 0 ∷ []))
    (table (2 ∷ 3 ∷ 4 ∷ 2 ∷ 3 ∷ 1 ∷ 0 ∷ 1 ∷ 1 ∷ 1 ∷ 3 ∷ 0 ∷ 0 ∷ 1 ∷ 1 ∷ 0 ∷ 2 ∷ 0 ∷ 2 ∷ 2 ∷ 2 ∷ 0 ∷ 0 ∷ 0 ∷ 0 ∷ 1 ∷ 1 ∷ 1 ∷ 1 ∷ 1 ∷ 3 ∷ 2 ∷ 2 ∷ 0 ∷ 0 ∷ 0 ∷ 0 ∷ 0 ∷ 0 ∷ 0 ∷ 0 ∷ 3 ∷ 1 ∷ 0 ∷ []) (pos 11 ∷ negsuc 11 ∷ pos 13 ∷ pos 21 ∷ negsuc 21 ∷ pos 23 ∷ pos 0 ∷ pos 0 ∷ pos 0 ∷ []))
    (operation 13 2 (pos 2 ∷ pos 1 ∷ pos 0 ∷ pos 0 ∷ pos 0 ∷ pos 0 ∷ pos 0 ∷ pos 0 ∷ []))
    -- rmov 4 2: another face, by another ring's edge
    ∷ accepts by_ring (operation 13 2 (pos 4 ∷ pos 2 ∷ pos 0 ∷ pos 0 ∷ pos 0 ∷ pos 0 ∷ pos 0 ∷ pos 0 ∷ []))
    (table (2 ∷ 3 ∷ 4 ∷ 2 ∷ 3 ∷ 1 ∷ 0 ∷ 1 ∷ 2 ∷ 1 ∷ 3 ∷ 0 ∷ 0 ∷ 1 ∷ 1 ∷ 0 ∷ 1 ∷ 0 ∷ 2 ∷ 2 ∷ 2 ∷ 0 ∷ 2 ∷ 0 ∷ 3 ∷ 1 ∷ 1 ∷ 1 ∷ 1 ∷ 1 ∷ 3 ∷ 2 ∷ 2 ∷ 0 ∷ 0 ∷ 0 ∷ 0 ∷ 0 ∷ 0 ∷ 0 ∷ 0 ∷ 3 ∷ 1 ∷ 1 ∷ []) (pos 11 ∷ negsuc 11 ∷ pos 13 ∷ pos 21 ∷ negsuc 21 ∷ pos 23 ∷ pos 31 ∷ negsuc 31 ∷ pos 33 ∷ []))
    (operation 13 2 (pos 4 ∷ pos 1 ∷ pos 0 ∷ pos 0 ∷ pos 0 ∷ pos 0 ∷ pos 0 ∷ pos 0 ∷ []))
    -- rmov 1 1: the old outer loop again
    ∷ accepts by_ring (operation 13 2 (pos 1 ∷ pos 1 ∷ pos 0 ∷ pos 0 ∷ pos 0 ∷ pos 0 ∷ pos 0 ∷ pos 0 ∷ []))
    (table (2 ∷ 3 ∷ 4 ∷ 2 ∷ 3 ∷ 1 ∷ 0 ∷ 1 ∷ 1 ∷ 1 ∷ 3 ∷ 0 ∷ 0 ∷ 1 ∷ 1 ∷ 0 ∷ 1 ∷ 0 ∷ 2 ∷ 2 ∷ 2 ∷ 0 ∷ 1 ∷ 0 ∷ 3 ∷ 1 ∷ 1 ∷ 1 ∷ 1 ∷ 1 ∷ 3 ∷ 2 ∷ 2 ∷ 0 ∷ 0 ∷ 0 ∷ 0 ∷ 0 ∷ 0 ∷ 0 ∷ 0 ∷ 3 ∷ 1 ∷ 1 ∷ []) (pos 11 ∷ negsuc 11 ∷ pos 13 ∷ pos 21 ∷ negsuc 21 ∷ pos 23 ∷ pos 31 ∷ negsuc 31 ∷ pos 33 ∷ []))
    (operation 13 2 (pos 2 ∷ pos 1 ∷ pos 0 ∷ pos 0 ∷ pos 0 ∷ pos 0 ∷ pos 0 ∷ pos 0 ∷ []))
    -- rmov 2 2: another face, by an edge outside and one of its own
    ∷ accepts both (operation 13 2 (pos 2 ∷ pos 2 ∷ pos 0 ∷ pos 0 ∷ pos 0 ∷ pos 0 ∷ pos 0 ∷ pos 0 ∷ []))
    (table (2 ∷ 3 ∷ 4 ∷ 2 ∷ 3 ∷ 1 ∷ 0 ∷ 1 ∷ 1 ∷ 1 ∷ 3 ∷ 0 ∷ 0 ∷ 1 ∷ 3 ∷ 0 ∷ 2 ∷ 1 ∷ 0 ∷ 2 ∷ 2 ∷ 0 ∷ 2 ∷ 4 ∷ 0 ∷ 2 ∷ 2 ∷ 1 ∷ 1 ∷ 2 ∷ 3 ∷ 2 ∷ 2 ∷ 1 ∷ 1 ∷ 3 ∷ 3 ∷ 1 ∷ 4 ∷ 4 ∷ 4 ∷ 3 ∷ 3 ∷ 0 ∷ []) (pos 11 ∷ negsuc 11 ∷ pos 13 ∷ pos 21 ∷ negsuc 21 ∷ pos 23 ∷ pos 0 ∷ pos 0 ∷ pos 0 ∷ []))
    (operation 13 2 (pos 2 ∷ pos 1 ∷ pos 0 ∷ pos 0 ∷ pos 0 ∷ pos 0 ∷ pos 0 ∷ pos 0 ∷ []))
    -- rmov 2 2: the face next to it
    ∷ accepts chain (operation 13 2 (pos 2 ∷ pos 2 ∷ pos 0 ∷ pos 0 ∷ pos 0 ∷ pos 0 ∷ pos 0 ∷ pos 0 ∷ []))
    (table (2 ∷ 3 ∷ 4 ∷ 2 ∷ 3 ∷ 1 ∷ 0 ∷ 1 ∷ 1 ∷ 1 ∷ 3 ∷ 1 ∷ 4 ∷ 1 ∷ 1 ∷ 0 ∷ 2 ∷ 0 ∷ 2 ∷ 2 ∷ 2 ∷ 0 ∷ 3 ∷ 4 ∷ 0 ∷ 1 ∷ 1 ∷ 1 ∷ 1 ∷ 1 ∷ 3 ∷ 3 ∷ 3 ∷ 1 ∷ 3 ∷ 2 ∷ 2 ∷ 1 ∷ 4 ∷ 4 ∷ 4 ∷ 5 ∷ 1 ∷ 0 ∷ []) (pos 11 ∷ negsuc 11 ∷ pos 13 ∷ pos 21 ∷ negsuc 21 ∷ pos 23 ∷ pos 0 ∷ pos 0 ∷ pos 0 ∷ []))
    (operation 13 2 (pos 2 ∷ pos 1 ∷ pos 0 ∷ pos 0 ∷ pos 0 ∷ pos 0 ∷ pos 0 ∷ pos 0 ∷ []))
    -- 8, rmov 1 1: no ring, its own face
    ∷ refuses two_faces (operation 13 2 (pos 1 ∷ pos 1 ∷ pos 0 ∷ pos 0 ∷ pos 0 ∷ pos 0 ∷ pos 0 ∷ pos 0 ∷ [])) 8
    -- 8, rmov 1 2: no ring, a neighbour
    ∷ refuses two_faces (operation 13 2 (pos 1 ∷ pos 2 ∷ pos 0 ∷ pos 0 ∷ pos 0 ∷ pos 0 ∷ pos 0 ∷ pos 0 ∷ [])) 8
    -- 8, rmov 1 2: only an edge of the moved ring, a face with other rings
    ∷ refuses by_ring (operation 13 2 (pos 1 ∷ pos 2 ∷ pos 0 ∷ pos 0 ∷ pos 0 ∷ pos 0 ∷ pos 0 ∷ pos 0 ∷ [])) 8
    -- 8, rmov 2 3: no edge shared, one solid
    ∷ refuses chain (operation 13 2 (pos 2 ∷ pos 3 ∷ pos 0 ∷ pos 0 ∷ pos 0 ∷ pos 0 ∷ pos 0 ∷ pos 0 ∷ [])) 8
    -- 8, rmov 2 3: no edge shared, another solid
    ∷ refuses beside (operation 13 2 (pos 2 ∷ pos 3 ∷ pos 0 ∷ pos 0 ∷ pos 0 ∷ pos 0 ∷ pos 0 ∷ pos 0 ∷ [])) 8
    -- 6, rmov 1 3: f free, and no ring
    ∷ refuses two_faces (operation 13 2 (pos 1 ∷ pos 3 ∷ pos 0 ∷ pos 0 ∷ pos 0 ∷ pos 0 ∷ pos 0 ∷ pos 0 ∷ [])) 6
    -- 5, rmov 5 2: l out of range
    ∷ refuses outer_shared (operation 13 2 (pos 5 ∷ pos 2 ∷ pos 0 ∷ pos 0 ∷ pos 0 ∷ pos 0 ∷ pos 0 ∷ pos 0 ∷ [])) 5
    -- 5, rmov 0 2: l 0
    ∷ refuses outer_shared (operation 13 2 (pos 0 ∷ pos 2 ∷ pos 0 ∷ pos 0 ∷ pos 0 ∷ pos 0 ∷ pos 0 ∷ pos 0 ∷ [])) 5
    -- 6, rmov 4 2: l free
    ∷ refuses outer_shared (operation 13 2 (pos 4 ∷ pos 2 ∷ pos 0 ∷ pos 0 ∷ pos 0 ∷ pos 0 ∷ pos 0 ∷ pos 0 ∷ [])) 6
    -- 5, rmov 2 4: f out of range
    ∷ refuses outer_shared (operation 13 2 (pos 2 ∷ pos 4 ∷ pos 0 ∷ pos 0 ∷ pos 0 ∷ pos 0 ∷ pos 0 ∷ pos 0 ∷ [])) 5
    -- 5, rmov 2 0: f 0
    ∷ refuses outer_shared (operation 13 2 (pos 2 ∷ pos 0 ∷ pos 0 ∷ pos 0 ∷ pos 0 ∷ pos 0 ∷ pos 0 ∷ pos 0 ∷ [])) 5
    -- 6, rmov 2 3: f free
    ∷ refuses outer_shared (operation 13 2 (pos 2 ∷ pos 3 ∷ pos 0 ∷ pos 0 ∷ pos 0 ∷ pos 0 ∷ pos 0 ∷ pos 0 ∷ [])) 6
    -- 5, rmov 4 0: l free and f 0
    ∷ refuses outer_shared (operation 13 2 (pos 4 ∷ pos 0 ∷ pos 0 ∷ pos 0 ∷ pos 0 ∷ pos 0 ∷ pos 0 ∷ pos 0 ∷ [])) 5
    -- 6, rmov 4 3: l free and f free
    ∷ refuses outer_shared (operation 13 2 (pos 4 ∷ pos 3 ∷ pos 0 ∷ pos 0 ∷ pos 0 ∷ pos 0 ∷ pos 0 ∷ pos 0 ∷ [])) 6
    ∷ []
