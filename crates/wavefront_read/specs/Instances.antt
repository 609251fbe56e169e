-- An instance that goes through the assumptions, and the whole text of it: a triangle with two sides, whose half-edges
-- 1, 3, 5 are face 1 and 2, 6, 4 face 2. And what a reader does not read.
use Rattle.std.specs.Prelude.{◌≡◌, refl, List, [], ◌∷◌, ℕ, ℤ, pos, negsuc}
use Rattle.std.proofs.Math.Option.{none}
use Rattle.laws.specs.Search.{any_to}
use Rattle.laws.specs.Sums.{sum_to}
use Rattle.layout.specs.Layout.{shape_of}
use Rattle.text.specs.Decimal.{digits, decimal, value_of}
use Rattle.wavefront.specs.Obj.{passing_to, own_vertex, hundredths, millimetres, concat_map}
use Rattle.wavefront.specs.Obj.{vertex_line, lap, backwards, corner_word}
use Rattle.wavefront.specs.Obj.{face_line, obj_text}
use Rattle.wavefront_read.specs.Reader.{pieces, read_index, read_coordinate, read_all, read_line, read_lines, read_obj}

-- solid 1; faces 1, 2; loops 1, 2; three edges; three vertices
abbrev pub triangle_links : List ℕ
triangle_links =
    1 ∷ 2 ∷ 2 ∷ 3 ∷ 3
    ∷ 1
    ∷ 1 ∷ 1 ∷ 1 ∷ 2
    ∷ 1 ∷ 1 ∷ 0 ∷ 2 ∷ 2 ∷ 0
    ∷ 1 ∷ 1 ∷ 3 ∷ 5 ∷ 2 ∷ 2 ∷ 6 ∷ 4
    ∷ 2 ∷ 1 ∷ 5 ∷ 1 ∷ 3 ∷ 2 ∷ 2 ∷ 6
    ∷ 3 ∷ 1 ∷ 1 ∷ 3 ∷ 1 ∷ 2 ∷ 4 ∷ 2
    ∷ 3 ∷ 3 ∷ 3 ∷ []

abbrev pub triangle_points : List ℤ
triangle_points = pos 0 ∷ pos 0 ∷ pos 0 ∷ pos 12345 ∷ pos 0 ∷ pos 0 ∷ pos 0 ∷ negsuc 49 ∷ pos 7 ∷ []

-- its text:
--     v 0.00 0.00 0.00
--     v 123.45 0.00 0.00
--     v 0.00 -0.50 0.07
--     f 1 3 2
--     f 2 3 1
abbrev pub triangle_bytes : List ℕ
triangle_bytes =
    118 ∷ 32 ∷ 48 ∷ 46 ∷ 48 ∷ 48 ∷ 32 ∷ 48 ∷ 46 ∷ 48 ∷ 48 ∷ 32 ∷ 48 ∷ 46 ∷ 48 ∷ 48 ∷ 10
    ∷ 118 ∷ 32 ∷ 49 ∷ 50 ∷ 51 ∷ 46 ∷ 52 ∷ 53 ∷ 32 ∷ 48 ∷ 46 ∷ 48 ∷ 48 ∷ 32 ∷ 48 ∷ 46 ∷ 48 ∷ 48 ∷ 10
    ∷ 118 ∷ 32 ∷ 48 ∷ 46 ∷ 48 ∷ 48 ∷ 32 ∷ 45 ∷ 48 ∷ 46 ∷ 53 ∷ 48 ∷ 32 ∷ 48 ∷ 46 ∷ 48 ∷ 55 ∷ 10
    ∷ 102 ∷ 32 ∷ 49 ∷ 32 ∷ 51 ∷ 32 ∷ 50 ∷ 10
    ∷ 102 ∷ 32 ∷ 50 ∷ 32 ∷ 51 ∷ 32 ∷ 49 ∷ 10 ∷ []

pub triangle_text : obj_text (shape_of triangle_links) triangle_links triangle_points 1 ≡ triangle_bytes
unfolding passing_to own_vertex hundredths millimetres concat_map vertex_line lap backwards corner_word face_line
    obj_text
    digits decimal any_to sum_to
triangle_text = refl

-- a reader does not read "-0.00"
pub minus_zero : read_coordinate (45 ∷ 48 ∷ 46 ∷ 48 ∷ 48 ∷ []) ≡ none
unfolding pieces read_coordinate value_of
minus_zero = refl

-- nor its v lines behind its f lines:
--     f 1
--     v 0.00 0.00 0.00
pub points_last : read_obj (102 ∷ 32 ∷ 49 ∷ 10
    ∷ 118 ∷ 32 ∷ 48 ∷ 46 ∷ 48 ∷ 48 ∷ 32 ∷ 48 ∷ 46 ∷ 48 ∷ 48 ∷ 32 ∷ 48 ∷ 46 ∷ 48 ∷ 48 ∷ 10 ∷ [])
    ≡ none
unfolding pieces read_index read_coordinate read_all read_line read_lines value_of
points_last = refl
