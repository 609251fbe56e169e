-- A solid as Wavefront OBJ text (document 02, job 2). A text is a list of bytes: one line for each vertex of the solid,
-- then one for each of its faces, each kind by number. `sh` is the table's shape, `x` its links, `p` its points, `s`
-- the solid.
use Rattle.std.specs.Prelude.{ℕ, zero, suc, ◌+◌, ◌*◌, ◌/◌, ◌%◌, Bool, not, ◌&&◌, ◌||◌, List, [], ◌∷◌, ◌++◌, eqb, leb, ℤ}
use Rattle.std.specs.Prelude.{pos, negsuc, length}
use Rattle.std.proofs.lemmas.List.Edits.{sets}
use Rattle.laws.specs.Bools.{pick}
use Rattle.laws.specs.Search.{all_to, any_to}
use Rattle.laws.specs.Sums.{count_to}
use Rattle.layout.specs.declared.shape.Shape.{Shape}
use Rattle.layout.specs.Layout.{shape_of, solid_used, face_solid, face_outer, loop_face, loop_first, start_of, prev_of}
use Rattle.layout.specs.Layout.{side}
use Rattle.layout.specs.Points.{coordinate}
use Rattle.layout.specs.Items.{some, is_ring}
use Rattle.table.specs.Check.{check_of}
use Rattle.text.specs.Decimal.{decimal}
use Rattle.text.specs.Put.{newline}
use Rattle.wavefront.specs.declared.answer.TextAnswer.{TextAnswer}

-- ---- the vertices and faces of a solid, by number

-- the numbers of 1..n that pass a test, rising
unfoldable pub passing_to : ℕ → (ℕ → Bool) → List ℕ
passing_to zero t = []
passing_to (suc n) t = passing_to n t ++ pick (t (suc n)) (suc n ∷ []) []

-- v is a vertex of solid s: a half-edge of a face of s starts there
unfoldable pub own_vertex : Shape → List ℕ → ℕ → ℕ → Bool
own_vertex sh x s v = any_to (2 * sh.edges) (λ k. eqb (start_of sh x k) v && eqb (face_solid sh x (side sh x k)) s)

-- f is a face of solid s
abbrev pub own_face : Shape → List ℕ → ℕ → ℕ → Bool
own_face sh x s f = eqb (face_solid sh x f) s

-- the vertices of solid s, rising
abbrev pub own_vertices : Shape → List ℕ → ℕ → List ℕ
own_vertices sh x s = passing_to sh.vertices (own_vertex sh x s)

-- its faces, rising
abbrev pub own_faces : Shape → List ℕ → ℕ → List ℕ
own_faces sh x s = passing_to sh.faces (own_face sh x s)

-- which of the solid's vertices v is, counted from 1 by number
abbrev pub rank : Shape → List ℕ → ℕ → ℕ → ℕ
rank sh x s v = count_to v (own_vertex sh x s)

-- ---- lines

-- n hundredths, in whole ones with two decimals: byte 46 is the point
unfoldable pub hundredths : ℕ → List ℕ
hundredths n = decimal (n / 100) ++ 46 ∷ (48 + n % 100 / 10) ∷ (48 + n % 10) ∷ []

-- a coordinate in millimetres; byte 45 is the minus sign
unfoldable pub millimetres : ℤ → List ℕ
millimetres (pos n) = hundredths n
millimetres (negsuc n) = 45 ∷ hundredths (suc n)

-- a word behind another: byte 32 is the space
abbrev pub spaced : List ℕ → List ℕ
spaced w = 32 ∷ w

-- the texts of some numbers, one after the other
unfoldable pub concat_map : (ℕ → List ℕ) → List ℕ → List ℕ
concat_map text [] = []
concat_map text (n ∷ ns) = text n ++ concat_map text ns

-- "v" and the three coordinates of vertex v
unfoldable pub vertex_line : List ℤ → ℕ → List ℕ
vertex_line p v =
    (118 ∷ []) ++ spaced (millimetres (coordinate p v 0)) ++ spaced (millimetres (coordinate p v 1))
    ++ spaced (millimetres (coordinate p v 2)) ++ newline

-- once round along f: k, f k and so on up to the one that f takes to a; n is enough steps
unfoldable pub lap : (ℕ → ℕ) → ℕ → ℕ → ℕ → List ℕ
lap f a zero k = []
lap f a (suc n) k = k ∷ pick (eqb (f k) a) [] (lap f a n (f k))

-- the half-edges of face f as they are written: the first of its outer loop, and from there backwards
unfoldable pub backwards : Shape → List ℕ → ℕ → List ℕ
backwards sh x f =
    let first = loop_first sh x (face_outer sh x f) in
    lap (prev_of sh x) first (2 * sh.edges) first

-- the start of half-edge k, by what it counts as
unfoldable pub corner_word : Shape → List ℕ → (ℕ → ℕ) → ℕ → List ℕ
corner_word sh x number k = spaced (decimal (number (start_of sh x k)))

-- "f" and the corners of face f
unfoldable pub face_line : Shape → List ℕ → (ℕ → ℕ) → ℕ → List ℕ
face_line sh x number f = (102 ∷ []) ++ concat_map (corner_word sh x number) (backwards sh x f) ++ newline

-- the whole text: the corners of a face are counted among the v lines
unfoldable pub obj_text : Shape → List ℕ → List ℤ → ℕ → List ℕ
obj_text sh x p s =
    concat_map (vertex_line p) (own_vertices sh x s) ++ concat_map (face_line sh x (rank sh x s)) (own_faces sh x s)

-- ---- refusals

-- loop l is one of solid s
abbrev pub own_loop : Shape → List ℕ → ℕ → ℕ → Bool
own_loop sh x s l = eqb (face_solid sh x (loop_face sh x l)) s

-- loop l, where it is one of solid s, is its face's outer loop and has half-edges
abbrev pub outer_loop : Shape → List ℕ → ℕ → ℕ → Bool
outer_loop sh x s l = not (own_loop sh x s l) || (not (is_ring sh x l) && some (loop_first sh x l))

-- no face of solid s has a ring or a lone loop
unfoldable pub no_ring_nor_lone : Shape → List ℕ → ℕ → Bool
no_ring_nor_lone sh x s = all_to sh.loops (outer_loop sh x s)

-- the loop of half-edge k has three sides at least: neither the one before k nor the one before that is k
abbrev pub three_sides : Shape → List ℕ → ℕ → Bool
three_sides sh x k = not (eqb (prev_of sh x k) k) && not (eqb (prev_of sh x (prev_of sh x k)) k)

-- loop l, where it is one of solid s, has three sides at least
abbrev pub sided_loop : Shape → List ℕ → ℕ → ℕ → Bool
sided_loop sh x s l = not (own_loop sh x s l) || three_sides sh x (loop_first sh x l)

-- every face of solid s has three sides at least
unfoldable pub three_sided : Shape → List ℕ → ℕ → Bool
three_sided sh x s = all_to sh.loops (sided_loop sh x s)

-- the refusals of a solid in a sound table: 5 for no number of one, 6 for a free one, 12 for one that OBJ cannot show
unfoldable pub solid_refusal : Shape → List ℕ → ℕ → ℕ
solid_refusal sh x s =
    pick (leb 1 s && leb s sh.solids)
    (pick (some (solid_used sh x s)) (pick (no_ring_nor_lone sh x s && three_sided sh x s) 0 12) 6) 5

-- ---- the call

-- the answer with the buffer after it
pub record Texted : Type 0 where
  pub answer : TextAnswer
  pub out : List ℕ

-- an answer by its three numbers
abbrev pub texted : ℕ → ℕ → ℕ → List ℕ → Texted
texted refusal rule length out =
    record { answer = record { refusal = refusal; rule = rule; length = length }; out = out }

-- a text is written at the front of the buffer, where it fits; where not, refusal 13 with the length it has
unfoldable pub fitted : List ℕ → List ℕ → Texted
fitted text out = pick (leb (length text) (length out)) (texted 0 0 (length text) (sets out 0 text))
    (texted 13 0 (length text) out)

-- what is refused has no text
abbrev pub unless_refused : ℕ → ℕ → List ℕ → List ℕ → Texted
unless_refused refusal rule text out = pick (eqb refusal 0) (fitted text out) (texted refusal rule 0 out)

-- the answer and the buffer: refusals 1 and 2 as in the check, then those of the solid, then 13
unfoldable pub obj_of : List ℕ → List ℤ → ℕ → List ℕ → Texted
obj_of x p s out =
    pick (eqb (check_of x p).refusal 0)
    (unless_refused (solid_refusal (shape_of x) x s) 0 (obj_text (shape_of x) x p s) out)
    (texted (check_of x p).refusal (check_of x p).rule 0 out)
