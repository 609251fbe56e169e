-- Checked examples: mvsf and kvsf. The words come from the model in tests/model, by rows.py.
use Rattle.std.specs.Prelude.{List, [], ◌∷◌, pos, negsuc}
use Rattle.euler.specs.Exec.{Table}
use Rattle.evidence_rows.specs.Row.{Row, table, operation, accepts, refuses}

-- no solid: cleared
abbrev empty : Table
empty = table (2 ∷ 2 ∷ 3 ∷ 1 ∷ 2 ∷ 0 ∷ 0 ∷ 0 ∷ 0 ∷ 0 ∷ 0 ∷ 0 ∷ 0 ∷ 0 ∷ 0 ∷ 0 ∷ 0 ∷ 0 ∷ 0 ∷ 0 ∷ 0 ∷ 0 ∷ 0 ∷ 0 ∷ 0 ∷ 0 ∷ 0 ∷ 0 ∷ 0 ∷ 0 ∷ []) (pos 0 ∷ pos 0 ∷ pos 0 ∷ pos 0 ∷ pos 0 ∷ pos 0 ∷ [])

-- one solid: mvsf 1 1 1 1 11 -12 13
abbrev seed : Table
seed = table (2 ∷ 2 ∷ 3 ∷ 1 ∷ 2 ∷ 1 ∷ 0 ∷ 1 ∷ 1 ∷ 0 ∷ 0 ∷ 1 ∷ 0 ∷ 1 ∷ 0 ∷ 0 ∷ 0 ∷ 0 ∷ 0 ∷ 0 ∷ 0 ∷ 0 ∷ 0 ∷ 0 ∷ 0 ∷ 0 ∷ 0 ∷ 0 ∷ 1 ∷ 0 ∷ []) (pos 11 ∷ negsuc 11 ∷ pos 13 ∷ pos 0 ∷ pos 0 ∷ pos 0 ∷ [])

-- two solids: mvsf 1 1 1 1 11 -12 13; mvsf 2 2 2 2 21 -22 23
abbrev both : Table
both = table (2 ∷ 2 ∷ 3 ∷ 1 ∷ 2 ∷ 1 ∷ 1 ∷ 1 ∷ 1 ∷ 2 ∷ 2 ∷ 1 ∷ 0 ∷ 1 ∷ 2 ∷ 0 ∷ 2 ∷ 0 ∷ 0 ∷ 0 ∷ 0 ∷ 0 ∷ 0 ∷ 0 ∷ 0 ∷ 0 ∷ 0 ∷ 0 ∷ 1 ∷ 1 ∷ []) (pos 11 ∷ negsuc 11 ∷ pos 13 ∷ pos 21 ∷ negsuc 21 ∷ pos 23 ∷ [])

-- an edge: mvsf 1 1 1 1 11 -12 13; mev 1 0 1 2 0 21 -22 23
abbrev edge : Table
edge = table (2 ∷ 2 ∷ 3 ∷ 1 ∷ 2 ∷ 1 ∷ 0 ∷ 1 ∷ 1 ∷ 0 ∷ 0 ∷ 1 ∷ 1 ∷ 0 ∷ 0 ∷ 0 ∷ 0 ∷ 0 ∷ 0 ∷ 0 ∷ 1 ∷ 1 ∷ 2 ∷ 2 ∷ 2 ∷ 1 ∷ 1 ∷ 1 ∷ 2 ∷ 2 ∷ []) (pos 11 ∷ negsuc 11 ∷ pos 13 ∷ pos 21 ∷ negsuc 21 ∷ pos 23 ∷ [])

-- an isolated ring: mvsf 1 1 1 1 11 -12 13; mev 1 0 1 2 0 21 -22 23; kemr 1 2
abbrev lone_ring : Table
lone_ring = table (2 ∷ 2 ∷ 3 ∷ 1 ∷ 2 ∷ 1 ∷ 0 ∷ 1 ∷ 1 ∷ 0 ∷ 0 ∷ 1 ∷ 0 ∷ 1 ∷ 1 ∷ 0 ∷ 2 ∷ 0 ∷ 0 ∷ 0 ∷ 0 ∷ 0 ∷ 0 ∷ 0 ∷ 0 ∷ 0 ∷ 0 ∷ 0 ∷ 1 ∷ 1 ∷ []) (pos 11 ∷ negsuc 11 ∷ pos 13 ∷ pos 21 ∷ negsuc 21 ∷ pos 23 ∷ [])

-- two faces: mvsf 1 1 1 1 11 -12 13; mef 1 0 0 1 2 2 0
abbrev circle : Table
circle = table (2 ∷ 2 ∷ 3 ∷ 1 ∷ 2 ∷ 1 ∷ 0 ∷ 1 ∷ 1 ∷ 1 ∷ 2 ∷ 1 ∷ 1 ∷ 0 ∷ 2 ∷ 2 ∷ 0 ∷ 0 ∷ 0 ∷ 0 ∷ 1 ∷ 1 ∷ 1 ∷ 1 ∷ 1 ∷ 2 ∷ 2 ∷ 2 ∷ 3 ∷ 0 ∷ []) (pos 11 ∷ negsuc 11 ∷ pos 13 ∷ pos 0 ∷ pos 0 ∷ pos 0 ∷ [])

-- two faces, the least one with an isolated outer loop: mvsf 1 1 1 1 11 -12 13; mev 1 0 1 2 0 21 -22 23; kemr 1 2; mef 2 0 0 1 2 3 0
abbrev ring_shared : Table
ring_shared = table (2 ∷ 2 ∷ 3 ∷ 1 ∷ 2 ∷ 1 ∷ 0 ∷ 1 ∷ 1 ∷ 1 ∷ 3 ∷ 1 ∷ 0 ∷ 1 ∷ 1 ∷ 1 ∷ 0 ∷ 2 ∷ 2 ∷ 0 ∷ 2 ∷ 2 ∷ 1 ∷ 1 ∷ 2 ∷ 3 ∷ 2 ∷ 2 ∷ 1 ∷ 3 ∷ []) (pos 11 ∷ negsuc 11 ∷ pos 13 ∷ pos 21 ∷ negsuc 21 ∷ pos 23 ∷ [])

-- mvsf and kvsf
abbrev pub solids_rows : List Row
solids_rows =
    -- mvsf 2 1 3 2 50000 -50000 -1: the outmost coordinates
    accepts empty (operation 1 7 (pos 2 ∷ pos 1 ∷ pos 3 ∷ pos 2 ∷ pos 50000 ∷ negsuc 49999 ∷ negsuc 0 ∷ pos 0 ∷ []))
    (table (2 ∷ 2 ∷ 3 ∷ 1 ∷ 2 ∷ 0 ∷ 1 ∷ 2 ∷ 3 ∷ 0 ∷ 0 ∷ 0 ∷ 0 ∷ 0 ∷ 0 ∷ 0 ∷ 0 ∷ 1 ∷ 0 ∷ 2 ∷ 0 ∷ 0 ∷ 0 ∷ 0 ∷ 0 ∷ 0 ∷ 0 ∷ 0 ∷ 0 ∷ 1 ∷ []) (pos 0 ∷ pos 0 ∷ pos 0 ∷ pos 50000 ∷ negsuc 49999 ∷ negsuc 0 ∷ []))
    (operation 2 1 (pos 2 ∷ pos 0 ∷ pos 0 ∷ pos 0 ∷ pos 0 ∷ pos 0 ∷ pos 0 ∷ pos 0 ∷ []))
    -- mvsf 2 2 2 2 21 -22 23: beside another solid
    ∷ accepts seed (operation 1 7 (pos 2 ∷ pos 2 ∷ pos 2 ∷ pos 2 ∷ pos 21 ∷ negsuc 21 ∷ pos 23 ∷ pos 0 ∷ []))
    (table (2 ∷ 2 ∷ 3 ∷ 1 ∷ 2 ∷ 1 ∷ 1 ∷ 1 ∷ 1 ∷ 2 ∷ 2 ∷ 1 ∷ 0 ∷ 1 ∷ 2 ∷ 0 ∷ 2 ∷ 0 ∷ 0 ∷ 0 ∷ 0 ∷ 0 ∷ 0 ∷ 0 ∷ 0 ∷ 0 ∷ 0 ∷ 0 ∷ 1 ∷ 1 ∷ []) (pos 11 ∷ negsuc 11 ∷ pos 13 ∷ pos 21 ∷ negsuc 21 ∷ pos 23 ∷ []))
    (operation 2 1 (pos 2 ∷ pos 0 ∷ pos 0 ∷ pos 0 ∷ pos 0 ∷ pos 0 ∷ pos 0 ∷ pos 0 ∷ []))
    -- kvsf 1: the only solid
    ∷ accepts seed (operation 2 1 (pos 1 ∷ pos 0 ∷ pos 0 ∷ pos 0 ∷ pos 0 ∷ pos 0 ∷ pos 0 ∷ pos 0 ∷ []))
    (table (2 ∷ 2 ∷ 3 ∷ 1 ∷ 2 ∷ 0 ∷ 0 ∷ 0 ∷ 0 ∷ 0 ∷ 0 ∷ 0 ∷ 0 ∷ 0 ∷ 0 ∷ 0 ∷ 0 ∷ 0 ∷ 0 ∷ 0 ∷ 0 ∷ 0 ∷ 0 ∷ 0 ∷ 0 ∷ 0 ∷ 0 ∷ 0 ∷ 0 ∷ 0 ∷ []) (pos 0 ∷ pos 0 ∷ pos 0 ∷ pos 0 ∷ pos 0 ∷ pos 0 ∷ []))
    (operation 1 7 (pos 1 ∷ pos 1 ∷ pos 1 ∷ pos 1 ∷ pos 11 ∷ negsuc 11 ∷ pos 13 ∷ pos 0 ∷ []))
    -- kvsf 1: the other one stays
    ∷ accepts both (operation 2 1 (pos 1 ∷ pos 0 ∷ pos 0 ∷ pos 0 ∷ pos 0 ∷ pos 0 ∷ pos 0 ∷ pos 0 ∷ []))
    (table (2 ∷ 2 ∷ 3 ∷ 1 ∷ 2 ∷ 0 ∷ 1 ∷ 0 ∷ 0 ∷ 2 ∷ 2 ∷ 0 ∷ 0 ∷ 0 ∷ 2 ∷ 0 ∷ 2 ∷ 0 ∷ 0 ∷ 0 ∷ 0 ∷ 0 ∷ 0 ∷ 0 ∷ 0 ∷ 0 ∷ 0 ∷ 0 ∷ 0 ∷ 1 ∷ []) (pos 0 ∷ pos 0 ∷ pos 0 ∷ pos 21 ∷ negsuc 21 ∷ pos 23 ∷ []))
    (operation 1 7 (pos 1 ∷ pos 1 ∷ pos 1 ∷ pos 1 ∷ pos 11 ∷ negsuc 11 ∷ pos 13 ∷ pos 0 ∷ []))
    -- kvsf 2: the other one stays
    ∷ accepts both (operation 2 1 (pos 2 ∷ pos 0 ∷ pos 0 ∷ pos 0 ∷ pos 0 ∷ pos 0 ∷ pos 0 ∷ pos 0 ∷ []))
    (table (2 ∷ 2 ∷ 3 ∷ 1 ∷ 2 ∷ 1 ∷ 0 ∷ 1 ∷ 1 ∷ 0 ∷ 0 ∷ 1 ∷ 0 ∷ 1 ∷ 0 ∷ 0 ∷ 0 ∷ 0 ∷ 0 ∷ 0 ∷ 0 ∷ 0 ∷ 0 ∷ 0 ∷ 0 ∷ 0 ∷ 0 ∷ 0 ∷ 1 ∷ 0 ∷ []) (pos 11 ∷ negsuc 11 ∷ pos 13 ∷ pos 0 ∷ pos 0 ∷ pos 0 ∷ []))
    (operation 1 7 (pos 2 ∷ pos 2 ∷ pos 2 ∷ pos 2 ∷ pos 21 ∷ negsuc 21 ∷ pos 23 ∷ pos 0 ∷ []))
    -- 8, kvsf 1: a loop that is not isolated
    ∷ refuses edge (operation 2 1 (pos 1 ∷ pos 0 ∷ pos 0 ∷ pos 0 ∷ pos 0 ∷ pos 0 ∷ pos 0 ∷ pos 0 ∷ [])) 8
    -- 8, kvsf 1: two loops
    ∷ refuses lone_ring (operation 2 1 (pos 1 ∷ pos 0 ∷ pos 0 ∷ pos 0 ∷ pos 0 ∷ pos 0 ∷ pos 0 ∷ pos 0 ∷ [])) 8
    -- 8, kvsf 1: two faces
    ∷ refuses circle (operation 2 1 (pos 1 ∷ pos 0 ∷ pos 0 ∷ pos 0 ∷ pos 0 ∷ pos 0 ∷ pos 0 ∷ pos 0 ∷ [])) 8
    -- 8, kvsf 1: two faces, isolated at the first
    ∷ refuses ring_shared (operation 2 1 (pos 1 ∷ pos 0 ∷ pos 0 ∷ pos 0 ∷ pos 0 ∷ pos 0 ∷ pos 0 ∷ pos 0 ∷ [])) 8
    -- 5, mvsf 3 2 2 2 21 -22 23: s out of range
    ∷ refuses seed (operation 1 7 (pos 3 ∷ pos 2 ∷ pos 2 ∷ pos 2 ∷ pos 21 ∷ negsuc 21 ∷ pos 23 ∷ pos 0 ∷ [])) 5
    -- 5, mvsf 0 2 2 2 21 -22 23: s 0
    ∷ refuses seed (operation 1 7 (pos 0 ∷ pos 2 ∷ pos 2 ∷ pos 2 ∷ pos 21 ∷ negsuc 21 ∷ pos 23 ∷ pos 0 ∷ [])) 5
    -- 7, mvsf 1 2 2 2 21 -22 23: s in use
    ∷ refuses seed (operation 1 7 (pos 1 ∷ pos 2 ∷ pos 2 ∷ pos 2 ∷ pos 21 ∷ negsuc 21 ∷ pos 23 ∷ pos 0 ∷ [])) 7
    -- 5, mvsf 2 3 2 2 21 -22 23: f out of range
    ∷ refuses seed (operation 1 7 (pos 2 ∷ pos 3 ∷ pos 2 ∷ pos 2 ∷ pos 21 ∷ negsuc 21 ∷ pos 23 ∷ pos 0 ∷ [])) 5
    -- 5, mvsf 2 0 2 2 21 -22 23: f 0
    ∷ refuses seed (operation 1 7 (pos 2 ∷ pos 0 ∷ pos 2 ∷ pos 2 ∷ pos 21 ∷ negsuc 21 ∷ pos 23 ∷ pos 0 ∷ [])) 5
    -- 7, mvsf 2 1 2 2 21 -22 23: f in use
    ∷ refuses seed (operation 1 7 (pos 2 ∷ pos 1 ∷ pos 2 ∷ pos 2 ∷ pos 21 ∷ negsuc 21 ∷ pos 23 ∷ pos 0 ∷ [])) 7
    -- 5, mvsf 2 2 4 2 21 -22 23: l out of range
    ∷ refuses seed (operation 1 7 (pos 2 ∷ pos 2 ∷ pos 4 ∷ pos 2 ∷ pos 21 ∷ negsuc 21 ∷ pos 23 ∷ pos 0 ∷ [])) 5
    -- 5, mvsf 2 2 0 2 21 -22 23: l 0
    ∷ refuses seed (operation 1 7 (pos 2 ∷ pos 2 ∷ pos 0 ∷ pos 2 ∷ pos 21 ∷ negsuc 21 ∷ pos 23 ∷ pos 0 ∷ [])) 5
    -- 7, mvsf 2 2 1 2 21 -22 23: l in use
    ∷ refuses seed (operation 1 7 (pos 2 ∷ pos 2 ∷ pos 1 ∷ pos 2 ∷ pos 21 ∷ negsuc 21 ∷ pos 23 ∷ pos 0 ∷ [])) 7
    -- 5, mvsf 2 2 2 3 21 -22 23: v out of range
    ∷ refuses seed (operation 1 7 (pos 2 ∷ pos 2 ∷ pos 2 ∷ pos 3 ∷ pos 21 ∷ negsuc 21 ∷ pos 23 ∷ pos 0 ∷ [])) 5
    -- 5, mvsf 2 2 2 0 21 -22 23: v 0
    ∷ refuses seed (operation 1 7 (pos 2 ∷ pos 2 ∷ pos 2 ∷ pos 0 ∷ pos 21 ∷ negsuc 21 ∷ pos 23 ∷ pos 0 ∷ [])) 5
    -- 7, mvsf 2 2 2 1 21 -22 23: v in use
    ∷ refuses seed (operation 1 7 (pos 2 ∷ pos 2 ∷ pos 2 ∷ pos 1 ∷ pos 21 ∷ negsuc 21 ∷ pos 23 ∷ pos 0 ∷ [])) 7
    -- 5, mvsf 2 2 2 2 50001 -22 23: x out of range
    ∷ refuses seed (operation 1 7 (pos 2 ∷ pos 2 ∷ pos 2 ∷ pos 2 ∷ pos 50001 ∷ negsuc 21 ∷ pos 23 ∷ pos 0 ∷ [])) 5
    -- 5, mvsf 2 2 2 2 21 -50001 23: y out of range
    ∷ refuses seed (operation 1 7 (pos 2 ∷ pos 2 ∷ pos 2 ∷ pos 2 ∷ pos 21 ∷ negsuc 50000 ∷ pos 23 ∷ pos 0 ∷ [])) 5
    -- 5, mvsf 2 2 2 2 21 -22 50001: z out of range
    ∷ refuses seed (operation 1 7 (pos 2 ∷ pos 2 ∷ pos 2 ∷ pos 2 ∷ pos 21 ∷ negsuc 21 ∷ pos 50001 ∷ pos 0 ∷ [])) 5
    -- 5, mvsf 1 2 2 2 21 -22 50001: s in use and z out of range
    ∷ refuses seed (operation 1 7 (pos 1 ∷ pos 2 ∷ pos 2 ∷ pos 2 ∷ pos 21 ∷ negsuc 21 ∷ pos 50001 ∷ pos 0 ∷ [])) 5
    -- 7, mvsf 1 2 2 1 21 -22 23: s in use and v in use
    ∷ refuses seed (operation 1 7 (pos 1 ∷ pos 2 ∷ pos 2 ∷ pos 1 ∷ pos 21 ∷ negsuc 21 ∷ pos 23 ∷ pos 0 ∷ [])) 7
    -- 5, kvsf 3: s out of range
    ∷ refuses seed (operation 2 1 (pos 3 ∷ pos 0 ∷ pos 0 ∷ pos 0 ∷ pos 0 ∷ pos 0 ∷ pos 0 ∷ pos 0 ∷ [])) 5
    -- 5, kvsf 0: s 0
    ∷ refuses seed (operation 2 1 (pos 0 ∷ pos 0 ∷ pos 0 ∷ pos 0 ∷ pos 0 ∷ pos 0 ∷ pos 0 ∷ pos 0 ∷ [])) 5
    -- 6, kvsf 2: s free
    ∷ refuses seed (operation 2 1 (pos 2 ∷ pos 0 ∷ pos 0 ∷ pos 0 ∷ pos 0 ∷ pos 0 ∷ pos 0 ∷ pos 0 ∷ [])) 6
    ∷ []
