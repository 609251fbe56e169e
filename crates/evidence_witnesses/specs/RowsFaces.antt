-- Witnesses for the clauses of the operators on solids, faces and rings: kvsf, kef, kfmrh, mfkrh, rmov. The words come
-- from the model in tests/model.
use Rattle.std.specs.Prelude.{true, false, List, [], ◌∷◌, pos}
use Rattle.euler.specs.Exec.{Table}
use Rattle.evidence_witnesses.specs.Witness.{Witness, table, operation, breaks}

-- capacities 2 2 2 1 2: mvsf 1 1 1 1 1 2 3; mvsf 2 2 2 2 4 5 6; kfmrh 1 2
abbrev table1 : Table
table1 =
    table (2 ∷ 2 ∷ 2 ∷ 1 ∷ 2 ∷ 1 ∷ 0 ∷ 1 ∷ 1 ∷ 0 ∷ 0 ∷ 1 ∷ 0 ∷ 1 ∷ 1 ∷ 0 ∷ 2 ∷ 0 ∷ 0 ∷ 0 ∷ 0 ∷ 0 ∷ 0 ∷ 0 ∷ 0 ∷ 1 ∷ 1
    ∷ [])
    (pos 1 ∷ pos 2 ∷ pos 3 ∷ pos 4 ∷ pos 5 ∷ pos 6 ∷ [])

-- capacities 1 1 1 1 2: mvsf 1 1 1 1 1 2 3; mev 1 0 1 2 0 4 5 6
abbrev table2 : Table
table2 =
    table (1 ∷ 1 ∷ 1 ∷ 1 ∷ 2 ∷ 1 ∷ 1 ∷ 1 ∷ 1 ∷ 1 ∷ 0 ∷ 1 ∷ 1 ∷ 2 ∷ 2 ∷ 2 ∷ 1 ∷ 1 ∷ 1 ∷ 2 ∷ 2 ∷ [])
    (pos 1 ∷ pos 2 ∷ pos 3 ∷ pos 4 ∷ pos 5 ∷ pos 6 ∷ [])

-- capacities 2 2 3 1 2: mvsf 1 1 1 1 1 2 3; mvsf 2 2 2 2 4 5 6; kfmrh 1 2; mef 1 0 0 1 2 3 0
abbrev table3 : Table
table3 =
    table (2 ∷ 2 ∷ 3 ∷ 1 ∷ 2 ∷ 1 ∷ 0 ∷ 1 ∷ 1 ∷ 1 ∷ 3 ∷ 1 ∷ 1 ∷ 0 ∷ 1 ∷ 0 ∷ 2 ∷ 2 ∷ 2 ∷ 0 ∷ 1 ∷ 1 ∷ 1 ∷ 1 ∷ 1 ∷ 3 ∷ 2 ∷ 2
    ∷ 3 ∷ 1 ∷ [])
    (pos 1 ∷ pos 2 ∷ pos 3 ∷ pos 4 ∷ pos 5 ∷ pos 6 ∷ [])

-- capacities 1 1 1 1 1: mvsf 1 1 1 1 1 2 3
abbrev table4 : Table
table4 =
    table (1 ∷ 1 ∷ 1 ∷ 1 ∷ 1 ∷ 1 ∷ 1 ∷ 1 ∷ 1 ∷ 0 ∷ 1 ∷ 0 ∷ 0 ∷ 0 ∷ 0 ∷ 0 ∷ 0 ∷ 0 ∷ 0 ∷ 1 ∷ [])
    (pos 1 ∷ pos 2 ∷ pos 3 ∷ [])

-- capacities 2 2 1 1 1: mvsf 1 1 1 1 1 2 3
abbrev table5 : Table
table5 =
    table (2 ∷ 2 ∷ 1 ∷ 1 ∷ 1 ∷ 1 ∷ 0 ∷ 1 ∷ 1 ∷ 0 ∷ 0 ∷ 1 ∷ 0 ∷ 1 ∷ 0 ∷ 0 ∷ 0 ∷ 0 ∷ 0 ∷ 0 ∷ 0 ∷ 0 ∷ 1 ∷ [])
    (pos 1 ∷ pos 2 ∷ pos 3 ∷ [])

-- capacities 2 2 2 1 1: mvsf 1 1 1 1 1 2 3; mef 1 0 0 1 2 2 0; kfmrh 1 2
abbrev table6 : Table
table6 =
    table (2 ∷ 2 ∷ 2 ∷ 1 ∷ 1 ∷ 1 ∷ 0 ∷ 1 ∷ 1 ∷ 0 ∷ 0 ∷ 1 ∷ 1 ∷ 0 ∷ 1 ∷ 2 ∷ 0 ∷ 1 ∷ 1 ∷ 1 ∷ 1 ∷ 1 ∷ 2 ∷ 2 ∷ 2 ∷ 3 ∷ [])
    (pos 1 ∷ pos 2 ∷ pos 3 ∷ [])

-- capacities 2 2 3 1 2: mvsf 1 1 1 1 1 2 3; mvsf 2 2 2 2 4 5 6; kfmrh 1 2; mef 2 0 0 1 2 3 0
abbrev table7 : Table
table7 =
    table (2 ∷ 2 ∷ 3 ∷ 1 ∷ 2 ∷ 1 ∷ 0 ∷ 1 ∷ 1 ∷ 1 ∷ 3 ∷ 1 ∷ 0 ∷ 1 ∷ 1 ∷ 1 ∷ 0 ∷ 2 ∷ 2 ∷ 0 ∷ 2 ∷ 2 ∷ 1 ∷ 1 ∷ 2 ∷ 3 ∷ 2 ∷ 2
    ∷ 1 ∷ 3 ∷ [])
    (pos 1 ∷ pos 2 ∷ pos 3 ∷ pos 4 ∷ pos 5 ∷ pos 6 ∷ [])

-- capacities 2 2 3 1 2: mvsf 1 1 1 1 1 2 3; mef 1 0 0 1 2 2 0; kfmrh 1 2; mvsf 2 2 3 2 4 5 6
abbrev table8 : Table
table8 =
    table (2 ∷ 2 ∷ 3 ∷ 1 ∷ 2 ∷ 1 ∷ 1 ∷ 1 ∷ 1 ∷ 2 ∷ 3 ∷ 1 ∷ 1 ∷ 0 ∷ 1 ∷ 2 ∷ 0 ∷ 2 ∷ 0 ∷ 2 ∷ 1 ∷ 1 ∷ 1 ∷ 1 ∷ 1 ∷ 2 ∷ 2 ∷ 2
    ∷ 3 ∷ 1 ∷ [])
    (pos 1 ∷ pos 2 ∷ pos 3 ∷ pos 4 ∷ pos 5 ∷ pos 6 ∷ [])

-- capacities 1 2 3 1 2: mvsf 1 1 1 1 1 2 3; mev 1 0 1 2 0 9 0 0; kemr 1 2; mef 2 0 0 1 2 3 0
abbrev table9 : Table
table9 =
    table (1 ∷ 2 ∷ 3 ∷ 1 ∷ 2 ∷ 1 ∷ 1 ∷ 1 ∷ 1 ∷ 3 ∷ 1 ∷ 0 ∷ 1 ∷ 1 ∷ 1 ∷ 0 ∷ 2 ∷ 2 ∷ 0 ∷ 2 ∷ 2 ∷ 1 ∷ 1 ∷ 2 ∷ 3 ∷ 2 ∷ 2 ∷ 1
    ∷ 3 ∷ [])
    (pos 1 ∷ pos 2 ∷ pos 3 ∷ pos 9 ∷ pos 0 ∷ pos 0 ∷ [])

-- each with the clause that fails
abbrev pub face_rows : List Witness
face_rows =
    -- kvsf 1: one loop: here the face has a ring
    breaks table1 (operation 2 1 (pos 1 ∷ pos 0 ∷ pos 0 ∷ pos 0 ∷ pos 0 ∷ pos 0 ∷ pos 0 ∷ pos 0 ∷ [])) (true ∷ false
    ∷ true ∷ []) 2
    -- kvsf 1: lone: here its loop has an edge
    ∷ breaks table2 (operation 2 1 (pos 1 ∷ pos 0 ∷ pos 0 ∷ pos 0 ∷ pos 0 ∷ pos 0 ∷ pos 0 ∷ pos 0 ∷ [])) (true ∷ true
    ∷ false ∷ []) 2
    -- kef 1: the only loop of its face: here the face has a ring
    ∷ breaks table3 (operation 6 1 (pos 1 ∷ pos 0 ∷ pos 0 ∷ pos 0 ∷ pos 0 ∷ pos 0 ∷ pos 0 ∷ pos 0 ∷ [])) (false ∷ true
    ∷ []) 2
    -- kef 1: the mate's face is another: here one face has both
    ∷ breaks table2 (operation 6 1 (pos 1 ∷ pos 0 ∷ pos 0 ∷ pos 0 ∷ pos 0 ∷ pos 0 ∷ pos 0 ∷ pos 0 ∷ [])) (true ∷ false
    ∷ []) 2
    -- kfmrh 1 1: two different faces
    ∷ breaks table4 (operation 9 2 (pos 1 ∷ pos 1 ∷ pos 0 ∷ pos 0 ∷ pos 0 ∷ pos 0 ∷ pos 0 ∷ pos 0 ∷ [])) (false ∷ true
    ∷ []) 2
    -- kfmrh 2 1: f2 without rings: here it has one
    ∷ breaks table3 (operation 9 2 (pos 2 ∷ pos 1 ∷ pos 0 ∷ pos 0 ∷ pos 0 ∷ pos 0 ∷ pos 0 ∷ pos 0 ∷ [])) (true ∷ false
    ∷ []) 2
    -- mfkrh 1 2 2: l is a ring: here the outer loop
    ∷ breaks table5 (operation 10 3 (pos 1 ∷ pos 2 ∷ pos 2 ∷ pos 0 ∷ pos 0 ∷ pos 0 ∷ pos 0 ∷ pos 0 ∷ [])) (false ∷ true
    ∷ true ∷ []) 2
    -- mfkrh 2 2 0: f is unlinked, and s is 0
    ∷ breaks table1 (operation 10 3 (pos 2 ∷ pos 2 ∷ pos 0 ∷ pos 0 ∷ pos 0 ∷ pos 0 ∷ pos 0 ∷ pos 0 ∷ [])) (true ∷ false
    ∷ true ∷ []) 6
    -- mfkrh 2 2 2: f stays linked, and s is not 0
    ∷ breaks table6 (operation 10 3 (pos 2 ∷ pos 2 ∷ pos 2 ∷ pos 0 ∷ pos 0 ∷ pos 0 ∷ pos 0 ∷ pos 0 ∷ [])) (true ∷ true
    ∷ false ∷ []) 2
    -- rmov 1 2: l is a ring: here the outer loop
    ∷ breaks table7 (operation 13 2 (pos 1 ∷ pos 2 ∷ pos 0 ∷ pos 0 ∷ pos 0 ∷ pos 0 ∷ pos 0 ∷ pos 0 ∷ [])) (false ∷ true
    ∷ true ∷ []) 2
    -- rmov 2 2: f shares an edge with l's face: here it lies in another solid
    ∷ breaks table8 (operation 13 2 (pos 2 ∷ pos 2 ∷ pos 0 ∷ pos 0 ∷ pos 0 ∷ pos 0 ∷ pos 0 ∷ pos 0 ∷ [])) (true ∷ false
    ∷ true ∷ []) 6
    -- rmov 2 2: the half in l's face lies outside l: here the only shared edge is l's own
    ∷ breaks table9 (operation 13 2 (pos 2 ∷ pos 2 ∷ pos 0 ∷ pos 0 ∷ pos 0 ∷ pos 0 ∷ pos 0 ∷ pos 0 ∷ [])) (true ∷ true
    ∷ false ∷ []) 6
    ∷ []
