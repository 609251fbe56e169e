-- The tables and logs that the rows speak of: capacities 1, 2, 2, 2, 2 and a log of eight bytes, nothing to redo; for e
-- the links with a third loop too. What document 01 does not print of them comes from the model in tests/model.
use Rattle.std.specs.Prelude.{ℕ, List, [], ◌∷◌, ℤ, pos, replicate}
use Rattle.sessions.specs.Editing.{Editing}
use Rattle.evidence_cases.specs.Case.{lending, editing}

-- memory as it is lent, with something in every place
abbrev pub lent : Editing
lent =
    lending (replicate 34 7) (replicate 6 (pos 7)) (238 ∷ 238 ∷ 238 ∷ 238 ∷ 238 ∷ 238 ∷ 238 ∷ 238 ∷ []) 3
    (replicate 30 221) 4

-- ---- links: the capacities, the solid, two faces, two loops, four half-edges, two vertices

abbrev pub links_empty : List ℕ
links_empty =
    1 ∷ 2 ∷ 2 ∷ 2 ∷ 2 ∷ 0 ∷ 0 ∷ 0 ∷ 0 ∷ 0 ∷ 0 ∷ 0 ∷ 0 ∷ 0 ∷ 0 ∷ 0 ∷ 0 ∷ 0 ∷ 0 ∷ 0 ∷ 0 ∷ 0 ∷ 0 ∷ 0 ∷ 0 ∷ 0 ∷ 0 ∷ 0 ∷ 0
    ∷ 0 ∷ 0 ∷ 0 ∷ 0 ∷ 0 ∷ []

-- b: one face with one lone loop
abbrev pub links_b : List ℕ
links_b =
    1 ∷ 2 ∷ 2 ∷ 2 ∷ 2 ∷ 1 ∷ 1 ∷ 1 ∷ 0 ∷ 0 ∷ 1 ∷ 0 ∷ 1 ∷ 0 ∷ 0 ∷ 0 ∷ 0 ∷ 0 ∷ 0 ∷ 0 ∷ 0 ∷ 0 ∷ 0 ∷ 0 ∷ 0 ∷ 0 ∷ 0 ∷ 0 ∷ 0
    ∷ 0 ∷ 0 ∷ 0 ∷ 1 ∷ 0 ∷ []

-- c: an edge in that loop
abbrev pub links_c : List ℕ
links_c =
    1 ∷ 2 ∷ 2 ∷ 2 ∷ 2 ∷ 1 ∷ 1 ∷ 1 ∷ 0 ∷ 0 ∷ 1 ∷ 1 ∷ 0 ∷ 0 ∷ 0 ∷ 0 ∷ 1 ∷ 1 ∷ 2 ∷ 2 ∷ 2 ∷ 1 ∷ 1 ∷ 1 ∷ 0 ∷ 0 ∷ 0 ∷ 0 ∷ 0
    ∷ 0 ∷ 0 ∷ 0 ∷ 2 ∷ 2 ∷ []

-- d: two faces, two edges
abbrev pub links_d : List ℕ
links_d =
    1 ∷ 2 ∷ 2 ∷ 2 ∷ 2 ∷ 1 ∷ 1 ∷ 1 ∷ 1 ∷ 2 ∷ 1 ∷ 2 ∷ 0 ∷ 2 ∷ 1 ∷ 0 ∷ 1 ∷ 2 ∷ 4 ∷ 4 ∷ 2 ∷ 1 ∷ 3 ∷ 3 ∷ 1 ∷ 1 ∷ 2 ∷ 2 ∷ 2
    ∷ 2 ∷ 1 ∷ 1 ∷ 3 ∷ 3 ∷ []

-- e: a ring and a hole
abbrev pub links_e : List ℕ
links_e =
    1 ∷ 2 ∷ 2 ∷ 2 ∷ 2 ∷ 1 ∷ 1 ∷ 1 ∷ 0 ∷ 0 ∷ 1 ∷ 1 ∷ 0 ∷ 1 ∷ 2 ∷ 0 ∷ 1 ∷ 1 ∷ 1 ∷ 1 ∷ 1 ∷ 2 ∷ 2 ∷ 2 ∷ 0 ∷ 0 ∷ 0 ∷ 0 ∷ 0
    ∷ 0 ∷ 0 ∷ 0 ∷ 3 ∷ 0 ∷ []

-- ---- links with three loops; half-edges and vertices on a line of their own

abbrev pub links_empty3 : List ℕ
links_empty3 =
    1 ∷ 2 ∷ 3 ∷ 2 ∷ 2 ∷ 0 ∷ 0 ∷ 0 ∷ 0 ∷ 0 ∷ 0 ∷ 0 ∷ 0 ∷ 0 ∷ 0 ∷ 0 ∷ 0 ∷ 0 ∷ 0
    ∷ 0 ∷ 0 ∷ 0 ∷ 0 ∷ 0 ∷ 0 ∷ 0 ∷ 0 ∷ 0 ∷ 0 ∷ 0 ∷ 0 ∷ 0 ∷ 0 ∷ 0 ∷ 0 ∷ 0 ∷ 0 ∷ []

abbrev pub links_b3 : List ℕ
links_b3 =
    1 ∷ 2 ∷ 3 ∷ 2 ∷ 2 ∷ 1 ∷ 1 ∷ 1 ∷ 0 ∷ 0 ∷ 1 ∷ 0 ∷ 1 ∷ 0 ∷ 0 ∷ 0 ∷ 0 ∷ 0 ∷ 0
    ∷ 0 ∷ 0 ∷ 0 ∷ 0 ∷ 0 ∷ 0 ∷ 0 ∷ 0 ∷ 0 ∷ 0 ∷ 0 ∷ 0 ∷ 0 ∷ 0 ∷ 0 ∷ 0 ∷ 1 ∷ 0 ∷ []

abbrev pub links_e3 : List ℕ
links_e3 =
    1 ∷ 2 ∷ 3 ∷ 2 ∷ 2 ∷ 1 ∷ 1 ∷ 1 ∷ 0 ∷ 0 ∷ 1 ∷ 1 ∷ 0 ∷ 1 ∷ 2 ∷ 0 ∷ 0 ∷ 0 ∷ 0
    ∷ 1 ∷ 1 ∷ 1 ∷ 1 ∷ 1 ∷ 2 ∷ 2 ∷ 2 ∷ 0 ∷ 0 ∷ 0 ∷ 0 ∷ 0 ∷ 0 ∷ 0 ∷ 0 ∷ 3 ∷ 0 ∷ []

-- ---- points of two vertices, the first at 0 0 0 and the second at c 0 0

abbrev pub points_at : ℤ → List ℤ
points_at c = pos 0 ∷ pos 0 ∷ pos 0 ∷ c ∷ pos 0 ∷ pos 0 ∷ []

abbrev pub points_zero : List ℤ
points_zero = points_at (pos 0)

-- ---- logs, filled from the end downward

abbrev pub log_empty : List ℕ
log_empty = 238 ∷ 238 ∷ 238 ∷ 238 ∷ 238 ∷ 238 ∷ 238 ∷ 238 ∷ []

-- b: 02 01
abbrev pub log_b : List ℕ
log_b = 238 ∷ 238 ∷ 238 ∷ 238 ∷ 238 ∷ 238 ∷ 2 ∷ 1 ∷ []

-- c adds 04 01
abbrev pub log_c : List ℕ
log_c = 238 ∷ 238 ∷ 238 ∷ 238 ∷ 4 ∷ 1 ∷ 2 ∷ 1 ∷ []

-- d adds 06 04
abbrev pub log_d : List ℕ
log_d = 238 ∷ 238 ∷ 6 ∷ 4 ∷ 4 ∷ 1 ∷ 2 ∷ 1 ∷ []

-- e adds 06 02 and 0A 02 02 00 to that of b
abbrev pub log_e : List ℕ
log_e = 10 ∷ 2 ∷ 2 ∷ 0 ∷ 6 ∷ 2 ∷ 2 ∷ 1 ∷ []

-- ---- tables with their logs

abbrev pub empty : Editing
empty = editing links_empty points_zero log_empty 8

abbrev pub table_b : Editing
table_b = editing links_b points_zero log_b 6

-- with the second vertex at c 0 0
abbrev pub tableCAt : ℤ → Editing
tableCAt c = editing links_c (points_at c) log_c 4

abbrev pub table_c : Editing
table_c = tableCAt (pos 100)

abbrev pub table_d : Editing
table_d = editing links_d (points_at (pos 100)) log_d 2

-- d undone: no byte of the log has changed
abbrev pub back_c : Editing
back_c = editing links_c (points_at (pos 100)) log_d 4

-- c undone too
abbrev pub back_b : Editing
back_b = editing links_b points_zero log_d 6

-- all undone: the cleared table, a log of which no byte has changed, its live part empty
abbrev pub undone_with : List ℕ → Editing
undone_with log = editing links_empty points_zero log 8
