-- Witnesses for the clauses of the operators on edges and vertices: mev, kev, mef, kemr, mekr, jekv. The words come
-- from the model in tests/model.
use Rattle.std.specs.Prelude.{true, false, List, [], ◌∷◌, pos}
use Rattle.euler.specs.Exec.{Table}
use Rattle.evidence_witnesses.specs.Witness.{Witness, table, operation, breaks, strays}

-- capacities 1 2 2 2 2: mvsf 1 1 1 1 1 2 3; mef 1 0 0 1 2 2 0
abbrev table1 : Table
table1 =
    table (1 ∷ 2 ∷ 2 ∷ 2 ∷ 2 ∷ 1 ∷ 1 ∷ 1 ∷ 1 ∷ 2 ∷ 1 ∷ 1 ∷ 0 ∷ 2 ∷ 2 ∷ 0 ∷ 1 ∷ 1 ∷ 1 ∷ 1 ∷ 1 ∷ 2 ∷ 2 ∷ 2 ∷ 0 ∷ 0 ∷ 0 ∷ 0
    ∷ 0 ∷ 0 ∷ 0 ∷ 0 ∷ 3 ∷ 0 ∷ [])
    (pos 1 ∷ pos 2 ∷ pos 3 ∷ pos 0 ∷ pos 0 ∷ pos 0 ∷ [])

-- capacities 1 2 2 1 1: mvsf 1 1 1 1 1 2 3; mef 1 0 0 1 2 2 0
abbrev table2 : Table
table2 =
    table (1 ∷ 2 ∷ 2 ∷ 1 ∷ 1 ∷ 1 ∷ 1 ∷ 1 ∷ 1 ∷ 2 ∷ 1 ∷ 1 ∷ 0 ∷ 2 ∷ 2 ∷ 0 ∷ 1 ∷ 1 ∷ 1 ∷ 1 ∷ 1 ∷ 2 ∷ 2 ∷ 2 ∷ 3 ∷ [])
    (pos 1 ∷ pos 2 ∷ pos 3 ∷ [])

-- capacities 1 2 3 2 1: mvsf 1 1 1 1 1 2 3; mef 1 0 0 1 2 2 0; kfmrh 1 2
abbrev table3 : Table
table3 =
    table (1 ∷ 2 ∷ 3 ∷ 2 ∷ 1 ∷ 1 ∷ 1 ∷ 1 ∷ 0 ∷ 0 ∷ 1 ∷ 1 ∷ 0 ∷ 1 ∷ 2 ∷ 0 ∷ 0 ∷ 0 ∷ 0 ∷ 1 ∷ 1 ∷ 1 ∷ 1 ∷ 1 ∷ 2 ∷ 2 ∷ 2 ∷ 0
    ∷ 0 ∷ 0 ∷ 0 ∷ 0 ∷ 0 ∷ 0 ∷ 0 ∷ 3 ∷ [])
    (pos 1 ∷ pos 2 ∷ pos 3 ∷ [])

-- capacities 1 2 2 2 2: mvsf 1 1 1 1 1 2 3; mev 1 0 1 2 0 4 5 6
abbrev table4 : Table
table4 =
    table (1 ∷ 2 ∷ 2 ∷ 2 ∷ 2 ∷ 1 ∷ 1 ∷ 1 ∷ 0 ∷ 0 ∷ 1 ∷ 1 ∷ 0 ∷ 0 ∷ 0 ∷ 0 ∷ 1 ∷ 1 ∷ 2 ∷ 2 ∷ 2 ∷ 1 ∷ 1 ∷ 1 ∷ 0 ∷ 0 ∷ 0 ∷ 0
    ∷ 0 ∷ 0 ∷ 0 ∷ 0 ∷ 2 ∷ 2 ∷ [])
    (pos 1 ∷ pos 2 ∷ pos 3 ∷ pos 4 ∷ pos 5 ∷ pos 6 ∷ [])

-- capacities 1 2 2 1 1: mvsf 1 1 1 1 1 2 3
abbrev table5 : Table
table5 =
    table (1 ∷ 2 ∷ 2 ∷ 1 ∷ 1 ∷ 1 ∷ 1 ∷ 1 ∷ 0 ∷ 0 ∷ 1 ∷ 0 ∷ 1 ∷ 0 ∷ 0 ∷ 0 ∷ 0 ∷ 0 ∷ 0 ∷ 0 ∷ 0 ∷ 0 ∷ 0 ∷ 0 ∷ 1 ∷ [])
    (pos 1 ∷ pos 2 ∷ pos 3 ∷ [])

-- capacities 1 2 3 1 1: mvsf 1 1 1 1 1 2 3; mef 1 0 0 1 2 2 0
abbrev table6 : Table
table6 =
    table (1 ∷ 2 ∷ 3 ∷ 1 ∷ 1 ∷ 1 ∷ 1 ∷ 1 ∷ 1 ∷ 2 ∷ 1 ∷ 1 ∷ 0 ∷ 2 ∷ 2 ∷ 0 ∷ 0 ∷ 0 ∷ 0 ∷ 1 ∷ 1 ∷ 1 ∷ 1 ∷ 1 ∷ 2 ∷ 2 ∷ 2 ∷ 3
    ∷ [])
    (pos 1 ∷ pos 2 ∷ pos 3 ∷ [])

-- capacities 2 2 2 1 2: mvsf 1 1 1 1 1 2 3; mvsf 2 2 2 2 4 5 6; kfmrh 1 2
abbrev table7 : Table
table7 =
    table (2 ∷ 2 ∷ 2 ∷ 1 ∷ 2 ∷ 1 ∷ 0 ∷ 1 ∷ 1 ∷ 0 ∷ 0 ∷ 1 ∷ 0 ∷ 1 ∷ 1 ∷ 0 ∷ 2 ∷ 0 ∷ 0 ∷ 0 ∷ 0 ∷ 0 ∷ 0 ∷ 0 ∷ 0 ∷ 1 ∷ 1
    ∷ [])
    (pos 1 ∷ pos 2 ∷ pos 3 ∷ pos 4 ∷ pos 5 ∷ pos 6 ∷ [])

-- capacities 2 2 3 2 2: mvsf 1 1 1 1 1 2 3; mvsf 2 2 2 2 4 5 6; kfmrh 1 2; mef 2 0 0 1 2 3 0
abbrev table8 : Table
table8 =
    table (2 ∷ 2 ∷ 3 ∷ 2 ∷ 2 ∷ 1 ∷ 0 ∷ 1 ∷ 1 ∷ 1 ∷ 3 ∷ 1 ∷ 0 ∷ 1 ∷ 1 ∷ 1 ∷ 0 ∷ 2 ∷ 2 ∷ 0 ∷ 2 ∷ 2 ∷ 1 ∷ 1 ∷ 2 ∷ 3 ∷ 2 ∷ 2
    ∷ 0 ∷ 0 ∷ 0 ∷ 0 ∷ 0 ∷ 0 ∷ 0 ∷ 0 ∷ 1 ∷ 3 ∷ [])
    (pos 1 ∷ pos 2 ∷ pos 3 ∷ pos 4 ∷ pos 5 ∷ pos 6 ∷ [])

-- capacities 1 2 2 2 1: mvsf 1 1 1 1 1 2 3; mef 1 0 0 1 2 2 0; kfmrh 1 2
abbrev table9 : Table
table9 =
    table (1 ∷ 2 ∷ 2 ∷ 2 ∷ 1 ∷ 1 ∷ 1 ∷ 1 ∷ 0 ∷ 0 ∷ 1 ∷ 1 ∷ 0 ∷ 1 ∷ 2 ∷ 0 ∷ 1 ∷ 1 ∷ 1 ∷ 1 ∷ 1 ∷ 2 ∷ 2 ∷ 2 ∷ 0 ∷ 0 ∷ 0 ∷ 0
    ∷ 0 ∷ 0 ∷ 0 ∷ 0 ∷ 3 ∷ [])
    (pos 1 ∷ pos 2 ∷ pos 3 ∷ [])

-- capacities 1 1 1 1 2: mvsf 1 1 1 1 1 2 3; mev 1 0 1 2 0 4 5 6
abbrev table10 : Table
table10 =
    table (1 ∷ 1 ∷ 1 ∷ 1 ∷ 2 ∷ 1 ∷ 1 ∷ 1 ∷ 1 ∷ 1 ∷ 0 ∷ 1 ∷ 1 ∷ 2 ∷ 2 ∷ 2 ∷ 1 ∷ 1 ∷ 1 ∷ 2 ∷ 2 ∷ [])
    (pos 1 ∷ pos 2 ∷ pos 3 ∷ pos 4 ∷ pos 5 ∷ pos 6 ∷ [])

-- capacities 1 2 2 2 2: mvsf 1 1 1 1 1 2 3; mev 1 0 1 2 0 4 5 6; mef 1 1 1 2 2 2 0
abbrev table11 : Table
table11 =
    table (1 ∷ 2 ∷ 2 ∷ 2 ∷ 2 ∷ 1 ∷ 1 ∷ 1 ∷ 1 ∷ 2 ∷ 1 ∷ 1 ∷ 0 ∷ 2 ∷ 4 ∷ 0 ∷ 1 ∷ 1 ∷ 2 ∷ 3 ∷ 2 ∷ 1 ∷ 3 ∷ 1 ∷ 1 ∷ 1 ∷ 1 ∷ 2
    ∷ 1 ∷ 2 ∷ 4 ∷ 4 ∷ 4 ∷ 2 ∷ [])
    (pos 1 ∷ pos 2 ∷ pos 3 ∷ pos 4 ∷ pos 5 ∷ pos 6 ∷ [])

-- each with the clause that fails
abbrev pub edge_rows : List Witness
edge_rows =
    -- mev 1 0 2 2 0 4 5 6: a corner: here h is 0 and l is not lone
    breaks table1 (operation 3 8 (pos 1 ∷ pos 0 ∷ pos 2 ∷ pos 2 ∷ pos 0 ∷ pos 4 ∷ pos 5 ∷ pos 6 ∷ [])) (false ∷ []) 1
    -- mev 1 2 2 2 0 4 5 6: a corner: here h is of another loop
    ∷ breaks table1 (operation 3 8 (pos 1 ∷ pos 2 ∷ pos 2 ∷ pos 2 ∷ pos 0 ∷ pos 4 ∷ pos 5 ∷ pos 6 ∷ [])) (false ∷ []) 4
    -- kev 1: next of k must be its mate: here both are loops of their own
    ∷ breaks table2 (operation 4 1 (pos 1 ∷ pos 0 ∷ pos 0 ∷ pos 0 ∷ pos 0 ∷ pos 0 ∷ pos 0 ∷ pos 0 ∷ [])) (false ∷ []) 2
    -- mef 1 2 1 2 2 3 0: corner (l, h1): here h1 is of another loop
    ∷ breaks table3 (operation 5 7 (pos 1 ∷ pos 2 ∷ pos 1 ∷ pos 2 ∷ pos 2 ∷ pos 3 ∷ pos 0 ∷ pos 0 ∷ [])) (false ∷ true
    ∷ true ∷ true ∷ []) 4
    -- mef 1 1 2 2 2 3 0: corner (l, h2): here h2 is of another loop
    ∷ breaks table3 (operation 5 7 (pos 1 ∷ pos 1 ∷ pos 2 ∷ pos 2 ∷ pos 2 ∷ pos 3 ∷ pos 0 ∷ pos 0 ∷ [])) (true ∷ false
    ∷ true ∷ true ∷ []) 4
    -- mef 1 0 1 2 2 2 0: corner (l, h1): here h1 is 0 and l is not lone
    ∷ breaks table4 (operation 5 7 (pos 1 ∷ pos 0 ∷ pos 1 ∷ pos 2 ∷ pos 2 ∷ pos 2 ∷ pos 0 ∷ pos 0 ∷ [])) (false ∷ true
    ∷ true ∷ true ∷ []) 1
    -- mef 1 1 0 2 2 2 0: corner (l, h2): here h2 is 0 and l is not lone
    ∷ breaks table4 (operation 5 7 (pos 1 ∷ pos 1 ∷ pos 0 ∷ pos 2 ∷ pos 2 ∷ pos 2 ∷ pos 0 ∷ pos 0 ∷ [])) (true ∷ false
    ∷ true ∷ true ∷ []) 1
    -- mef 1 0 0 1 2 2 2: ways 2 and 3 need h1 not 0
    ∷ breaks table5 (operation 5 7 (pos 1 ∷ pos 0 ∷ pos 0 ∷ pos 1 ∷ pos 2 ∷ pos 2 ∷ pos 2 ∷ pos 0 ∷ [])) (true ∷ true
    ∷ true ∷ false ∷ []) 1
    -- mef 1 1 2 2 2 2 2: ways 2 and 3 need h1 = h2: the same comes out as in way 0, and the inverse is undone in way 0
    ∷ strays table4 (operation 5 7 (pos 1 ∷ pos 1 ∷ pos 2 ∷ pos 2 ∷ pos 2 ∷ pos 2 ∷ pos 2 ∷ pos 0 ∷ [])) (true ∷ true
    ∷ false ∷ true ∷ [])
    (operation 5 7 (pos 1 ∷ pos 1 ∷ pos 2 ∷ pos 2 ∷ pos 2 ∷ pos 2 ∷ pos 0 ∷ pos 0 ∷ []))
    -- kemr 1 3: k and its mate in one loop: here they are in two
    ∷ breaks table6 (operation 7 2 (pos 1 ∷ pos 3 ∷ pos 0 ∷ pos 0 ∷ pos 0 ∷ pos 0 ∷ pos 0 ∷ pos 0 ∷ [])) (false ∷ []) 2
    -- mekr 2 0 2 0 1 0: l2 is not l
    ∷ breaks table7 (operation 8 6 (pos 2 ∷ pos 0 ∷ pos 2 ∷ pos 0 ∷ pos 1 ∷ pos 0 ∷ pos 0 ∷ pos 0 ∷ [])) (false ∷ true
    ∷ true ∷ true ∷ true ∷ []) 1
    -- mekr 3 2 2 1 2 0: two loops of one face: here of two
    ∷ breaks table8 (operation 8 6 (pos 3 ∷ pos 2 ∷ pos 2 ∷ pos 1 ∷ pos 2 ∷ pos 0 ∷ pos 0 ∷ pos 0 ∷ [])) (true ∷ false
    ∷ true ∷ true ∷ true ∷ []) 6
    -- mekr 2 0 1 0 1 0: l2 is a ring: here the outer loop
    ∷ breaks table7 (operation 8 6 (pos 2 ∷ pos 0 ∷ pos 1 ∷ pos 0 ∷ pos 1 ∷ pos 0 ∷ pos 0 ∷ pos 0 ∷ [])) (true ∷ true
    ∷ false ∷ true ∷ true ∷ []) 2
    -- mekr 1 2 2 2 2 0: corner (l, h1): here h1 is of l2
    ∷ breaks table9 (operation 8 6 (pos 1 ∷ pos 2 ∷ pos 2 ∷ pos 2 ∷ pos 2 ∷ pos 0 ∷ pos 0 ∷ pos 0 ∷ [])) (true ∷ true
    ∷ true ∷ false ∷ true ∷ []) 4
    -- mekr 1 1 2 1 2 0: corner (l2, h2): here h2 is of l
    ∷ breaks table9 (operation 8 6 (pos 1 ∷ pos 1 ∷ pos 2 ∷ pos 1 ∷ pos 2 ∷ pos 0 ∷ pos 0 ∷ pos 0 ∷ [])) (true ∷ true
    ∷ true ∷ true ∷ false ∷ []) 2
    -- jekv 1: n is of another edge: here n is k's mate
    ∷ breaks table10 (operation 12 1 (pos 1 ∷ pos 0 ∷ pos 0 ∷ pos 0 ∷ pos 0 ∷ pos 0 ∷ pos 0 ∷ pos 0 ∷ [])) (false ∷ true
    ∷ []) 3
    -- jekv 2: next of n's mate is k's mate: here it is not
    ∷ breaks table11 (operation 12 1 (pos 2 ∷ pos 0 ∷ pos 0 ∷ pos 0 ∷ pos 0 ∷ pos 0 ∷ pos 0 ∷ pos 0 ∷ [])) (true ∷ false
    ∷ []) 2
    ∷ []
