-- Slips in the texts: the two lines of the program, and a solid as OBJ text.
use Rattle.std.specs.Prelude.{ℕ, ◌-◌, List, [], ◌∷◌, ◌++◌, ℤ, pos, set, replicate}
use Rattle.layout.specs.declared.shape.Shape.{Shape}
use Rattle.layout.specs.Layout.{shape_of}
use Rattle.table.specs.declared.count.CountAnswer.{CountAnswer}
use Rattle.table.specs.Count.{counts}
use Rattle.wavefront.specs.Obj.{own_vertices, own_faces, hundredths, millimetres, concat_map, vertex_line, face_line}
use Rattle.wavefront.specs.Obj.{obj_text, Texted, obj_of}
use Rattle.report.specs.Text.{count_line, text_of}
use Rattle.wavefront_read.specs.Instances.{triangle_links, triangle_points}
use Rattle.evidence_slips.specs.Slip.{Slip, row}

-- ---- the program's lines

-- what b leaves: a solid, a face, a loop, a vertex
abbrev counts_b : CountAnswer
counts_b = counts 0 0 1 1 1 0 1 0 0

-- another number after each label
abbrev counts_long : CountAnswer
counts_long = counts 0 0 64 7 12 3 100 5 9

-- b's text: refusal 0, done 1, used 8
abbrev text_b : List ℕ
text_b = text_of 0 1 8 counts_b

-- "refusal 0 done 8 used 1"
abbrev exchanged : List ℕ
exchanged =
    114 ∷ 101 ∷ 102 ∷ 117 ∷ 115 ∷ 97 ∷ 108 ∷ 32 ∷ 48 ∷ 32 ∷ 100 ∷ 111 ∷ 110 ∷ 101 ∷ 32 ∷ 56 ∷ 32 ∷ 117 ∷ 115 ∷ 101
    ∷ 100 ∷ 32 ∷ 49 ∷ 10 ∷ []

abbrev pub report_rows : List Slip
report_rows =
    -- done and used exchanged
    row text_b (exchanged ++ count_line counts_b)
    -- every number printed as 0
    ∷ row (text_of 10 4096 205 counts_long) (text_of 0 0 0 (counts 0 0 0 0 0 0 0 0 0))
    -- another word in a label: "gone" for "done"
    ∷ row text_b (set text_b 10 103)
    -- the number of rings printed for the holes: 5, not 9
    ∷ row (count_line counts_long) (count_line (counts 0 0 64 7 12 3 100 5 5))
    -- the second line written over the first
    ∷ row text_b (count_line counts_b)
    ∷ []

-- ---- OBJ text

-- the triangle's shape
abbrev shape_triangle : Shape
shape_triangle = shape_of triangle_links

-- the same triangle with the vertices 2, 3, 4, all at 0 0 0
abbrev links_high : List ℕ
links_high =
    1 ∷ 2 ∷ 2 ∷ 3 ∷ 4 ∷ 1 ∷ 1 ∷ 1 ∷ 1 ∷ 2 ∷ 1 ∷ 1 ∷ 0 ∷ 2 ∷ 2 ∷ 0 ∷ 2 ∷ 1 ∷ 3 ∷ 5 ∷ 3 ∷ 2 ∷ 6 ∷ 4 ∷ 3 ∷ 1 ∷ 5 ∷ 1 ∷ 4
    ∷ 2 ∷ 2 ∷ 6 ∷ 4 ∷ 1 ∷ 1 ∷ 3 ∷ 2 ∷ 2 ∷ 4 ∷ 2 ∷ 0 ∷ 3 ∷ 3 ∷ 3 ∷ []

abbrev points_high : List ℤ
points_high = replicate 12 (pos 0)

abbrev shape_high : Shape
shape_high = shape_of links_high

-- a face in solid 1 and one in solid 2
abbrev links_pair : List ℕ
links_pair =
    2 ∷ 2 ∷ 2 ∷ 1 ∷ 2 ∷ 1 ∷ 1 ∷ 1 ∷ 1 ∷ 2 ∷ 2 ∷ 1 ∷ 0 ∷ 1 ∷ 2 ∷ 0 ∷ 2 ∷ 0 ∷ 0 ∷ 0 ∷ 0 ∷ 0 ∷ 0 ∷ 0 ∷ 0 ∷ 1 ∷ 1 ∷ []

-- the answer: refusal and length
abbrev answered : Texted → List ℕ
answered t = t.answer.refusal ∷ t.answer.length ∷ []

abbrev pub obj_rows : List Slip
obj_rows =
    -- v lines counted from 0: the triangle's vertex 1 would be 0
    row (obj_text shape_triangle triangle_links triangle_points 1)
    (concat_map (vertex_line triangle_points) (own_vertices shape_triangle triangle_links 1)
    ++ concat_map (face_line shape_triangle triangle_links (λ v. v - 1)) (own_faces shape_triangle triangle_links 1))
    -- a text that exactly fits refused: the triangle's 70 bytes
    ∷ row (answered (obj_of triangle_links triangle_points 1 (replicate 70 238))) (13 ∷ 70 ∷ [])
    -- the faces of solids of greater number written too
    ∷ row (own_faces (shape_of links_pair) links_pair 1) (1 ∷ 2 ∷ [])
    -- a minus sign before zero: -0.00
    ∷ row (millimetres (pos 0)) (45 ∷ 48 ∷ 46 ∷ 48 ∷ 48 ∷ [])
    -- the ones written for the tens: 1.25 would be 1.55
    ∷ row (hundredths 125) (49 ∷ 46 ∷ 53 ∷ 53 ∷ [])
    -- corners by their numbers in the table, not among the v lines: vertex 2 would be 2, not 1
    ∷ row (obj_text shape_high links_high points_high 1)
    (concat_map (vertex_line points_high) (own_vertices shape_high links_high 1)
    ++ concat_map (face_line shape_high links_high (λ v. v)) (own_faces shape_high links_high 1))
    ∷ []
