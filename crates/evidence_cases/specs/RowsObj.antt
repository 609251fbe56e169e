-- Job 2 of document 02: a solid as OBJ text, of small tables: what is refused, in order, and that it leaves the buffer;
-- a text, in buffers that are too short, just long enough and longer, where what is behind it stays.
use Rattle.std.specs.Prelude.{ℕ, ◌+◌, List, [], ◌∷◌, ◌++◌, set, replicate, pos, negsuc}
use Rattle.sessions.specs.Editing.{Editing}
use Rattle.machine.specs.Machine.{Obj, ToObj}
use Rattle.wavefront_read.specs.Instances.{triangle_links, triangle_points, triangle_bytes}
use Rattle.evidence_cases.specs.Case.{Step, Row, row, editing, step}
use Rattle.evidence_cases.specs.Tables.{lent, empty, links_e, points_at, table_b, table_c, table_d}

-- a triangle of two faces, with no log
abbrev pub triangle : Editing
triangle = editing triangle_links triangle_points [] 0

-- example e: a ring and a hole
abbrev pub ringed : Editing
ringed = editing links_e (points_at (pos 0)) [] 0

-- the triangle with vertex 3 free, and its point left
abbrev pub damaged : Editing
damaged = editing (set triangle_links 42 0) triangle_points [] 0

-- two solids under numbers with gaps: solid 1 is a lone vertex, 1; solid 3 has the vertices 2, 4, 5, 7, 8 and the faces
-- 1, 4 and 5, of four, five and three sides
abbrev pub two_solids : Editing
two_solids =
    editing
    (3 ∷ 5 ∷ 5 ∷ 8 ∷ 8 ∷ 1 ∷ 0 ∷ 1 ∷ 3 ∷ 4 ∷ 0 ∷ 0 ∷ 1 ∷ 2 ∷ 3 ∷ 1 ∷ 3 ∷ 5 ∷ 4 ∷ 4 ∷ 0 ∷ 3 ∷ 0 ∷ 1 ∷ 0 ∷ 0 ∷ 0
    ∷ 1 ∷ 8 ∷ 0 ∷ 5 ∷ 3 ∷ 0 ∷ 0 ∷ 0 ∷ 0 ∷ 0 ∷ 0 ∷ 0 ∷ 0 ∷ 0 ∷ 2 ∷ 5 ∷ 5 ∷ 7 ∷ 4 ∷ 1 ∷ 16 ∷ 6 ∷ 4 ∷ 5 ∷ 7 ∷ 3
    ∷ 5 ∷ 1 ∷ 4 ∷ 10 ∷ 5 ∷ 5 ∷ 3 ∷ 5 ∷ 2 ∷ 4 ∷ 9 ∷ 15 ∷ 5 ∷ 4 ∷ 11 ∷ 8 ∷ 7 ∷ 1 ∷ 6 ∷ 12 ∷ 7 ∷ 4 ∷ 15 ∷ 9 ∷ 8
    ∷ 1 ∷ 10 ∷ 16 ∷ 0 ∷ 0 ∷ 0 ∷ 0 ∷ 0 ∷ 0 ∷ 0 ∷ 0 ∷ 8 ∷ 4 ∷ 8 ∷ 11 ∷ 2 ∷ 1 ∷ 12 ∷ 4 ∷ 1 ∷ 4 ∷ 0 ∷ 3 ∷ 4 ∷ 0
    ∷ 3 ∷ 3 ∷ [])
    (pos 7 ∷ pos 7 ∷ pos 7 ∷ negsuc 4 ∷ pos 0 ∷ pos 50000 ∷ pos 0 ∷ pos 0 ∷ pos 0 ∷ negsuc 49999 ∷ pos 99
    ∷ pos 100 ∷ pos 1 ∷ negsuc 99 ∷ negsuc 100 ∷ pos 0 ∷ pos 0 ∷ pos 0 ∷ pos 12345 ∷ pos 700 ∷ pos 0
    ∷ negsuc 0 ∷ pos 2000 ∷ pos 10 ∷ [])
    [] 0

-- the text of solid 3, by the independent model:
--     v -0.05 0.00 500.00
--     v -500.00 0.99 1.00
--     v 0.01 -1.00 -1.01
--     v 123.45 7.00 0.00
--     v -0.01 20.00 0.10
--     f 1 5 4 3
--     f 2 3 4 5 1
--     f 1 3 2
abbrev pub five_corners : List ℕ
five_corners =
    118 ∷ 32 ∷ 45 ∷ 48 ∷ 46 ∷ 48 ∷ 53 ∷ 32 ∷ 48 ∷ 46 ∷ 48 ∷ 48 ∷ 32 ∷ 53 ∷ 48 ∷ 48 ∷ 46 ∷ 48 ∷ 48 ∷ 10 ∷ 118
    ∷ 32 ∷ 45 ∷ 53 ∷ 48 ∷ 48 ∷ 46 ∷ 48 ∷ 48 ∷ 32 ∷ 48 ∷ 46 ∷ 57 ∷ 57 ∷ 32 ∷ 49 ∷ 46 ∷ 48 ∷ 48 ∷ 10 ∷ 118 ∷ 32
    ∷ 48 ∷ 46 ∷ 48 ∷ 49 ∷ 32 ∷ 45 ∷ 49 ∷ 46 ∷ 48 ∷ 48 ∷ 32 ∷ 45 ∷ 49 ∷ 46 ∷ 48 ∷ 49 ∷ 10 ∷ 118 ∷ 32 ∷ 49 ∷ 50
    ∷ 51 ∷ 46 ∷ 52 ∷ 53 ∷ 32 ∷ 55 ∷ 46 ∷ 48 ∷ 48 ∷ 32 ∷ 48 ∷ 46 ∷ 48 ∷ 48 ∷ 10 ∷ 118 ∷ 32 ∷ 45 ∷ 48 ∷ 46 ∷ 48
    ∷ 49 ∷ 32 ∷ 50 ∷ 48 ∷ 46 ∷ 48 ∷ 48 ∷ 32 ∷ 48 ∷ 46 ∷ 49 ∷ 48 ∷ 10 ∷ 102 ∷ 32 ∷ 49 ∷ 32 ∷ 53 ∷ 32 ∷ 52 ∷ 32
    ∷ 51 ∷ 10 ∷ 102 ∷ 32 ∷ 50 ∷ 32 ∷ 51 ∷ 32 ∷ 52 ∷ 32 ∷ 53 ∷ 32 ∷ 49 ∷ 10 ∷ 102 ∷ 32 ∷ 49 ∷ 32 ∷ 51 ∷ 32
    ∷ 50 ∷ 10 ∷ []

-- a buffer of n bytes, with something in every place
abbrev pub buffer : ℕ → List ℕ
buffer n = replicate n 238

-- the text of solid s of t is refused, and the buffer of n bytes is as it was
abbrev pub no_text : ℕ → ℕ → ℕ → ℕ → ℕ → Editing → Step
no_text s n refusal rule length t =
    step (Obj s (buffer n)) (ToObj (record { refusal = refusal; rule = rule; length = length }) (buffer n)) t

-- the triangle's text, in a buffer that has so many bytes more than its 70
abbrev pub shows : ℕ → Step
shows more =
    step (Obj 1 (buffer (70 + more)))
    (ToObj (record { refusal = 0; rule = 0; length = 70 }) (triangle_bytes ++ buffer more)) triangle

-- all of them
abbrev pub obj_rows : List Row
obj_rows =
    -- memory that is no table; a table that is not sound
    row lent (no_text 1 9 1 0 0 lent ∷ [])
    ∷ row damaged (no_text 1 9 2 1 0 damaged ∷ [])
    -- no number of a solid, and a free one
    ∷ row empty (no_text 0 9 5 0 0 empty ∷ no_text 2 9 5 0 0 empty ∷ no_text 1 9 6 0 0 empty ∷ [])
    -- a lone loop; one face of two sides; two of them; a ring
    ∷ row table_b (no_text 1 9 12 0 0 table_b ∷ [])
    ∷ row table_c (no_text 1 9 12 0 0 table_c ∷ [])
    ∷ row table_d (no_text 1 9 12 0 0 table_d ∷ [])
    ∷ row ringed (no_text 1 9 12 0 0 ringed ∷ [])
    -- a lone vertex beside a solid that has a text; a free number between them; the text
    ∷ row two_solids
    (no_text 1 9 12 0 0 two_solids ∷ no_text 2 9 6 0 0 two_solids
    ∷ step (Obj 3 (buffer 128)) (ToObj (record { refusal = 0; rule = 0; length = 127 }) (five_corners ++ buffer 1))
    two_solids ∷ [])
    -- too short by all, and by one byte; just long enough; longer
    ∷ row triangle (no_text 1 0 13 0 70 triangle ∷ no_text 1 69 13 0 70 triangle ∷ shows 0 ∷ shows 3 ∷ [])
    ∷ []
