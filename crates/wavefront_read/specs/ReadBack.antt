-- A reader of the text finds the same points and the same vertex cycles, turned round.
use Rattle.std.specs.Prelude.{◌≡◌, refl, List, [], ◌∷◌, ◌++◌, map, ℕ, ℤ}
use Rattle.std.proofs.Common.{append_assoc, append-nil, arith}
use Rattle.std.proofs.Math.Option.{some}
use Rattle.text.specs.Decimal.{decimal}
use Rattle.text.specs.Put.{newline}
use Rattle.layout.specs.declared.shape.Shape.{Shape}
use Rattle.layout.specs.Layout.{start_of}
use Rattle.layout.specs.Points.{coordinate}
use Rattle.wavefront.specs.Obj.{own_vertices, own_faces, rank, backwards, millimetres}
use Rattle.wavefront.specs.Obj.{spaced, concat_map, vertex_line, corner_word}
use Rattle.wavefront.specs.Obj.{face_line, obj_text}
use Rattle.wavefront_read.specs.Reader.{pieces, on_both, read_coordinate, read_index, mesh, add_point, add_cycle}
use Rattle.wavefront_read.specs.Reader.{no_points, read_line, read_lines, read_obj}
use Rattle.wavefront_read.specs.Pieces.{above_lower}
use Rattle.wavefront_read.specs.NumberRead.{decimal_above, number_read, coordinate_read, millimetres_above}
use Rattle.wavefront_read.specs.LineRead.{spaced_words, all_read, line_read}

-- the point of vertex v
abbrev pub point_of : List ℤ → ℕ → List ℤ
point_of p v = coordinate p v 0 ∷ coordinate p v 1 ∷ coordinate p v 2 ∷ []

-- the points of the vertices of solid s, by number
abbrev pub points_of : Shape → List ℕ → List ℤ → ℕ → List (List ℤ)
points_of sh x p s = map (point_of p) (own_vertices sh x s)

-- the corners of face f, by rank, as they are written
abbrev pub cycle_of : Shape → List ℕ → ℕ → ℕ → List ℕ
cycle_of sh x s f = map (λ k. rank sh x s (start_of sh x k)) (backwards sh x f)

-- those of the faces of solid s, by number
abbrev pub cycles_of : Shape → List ℕ → ℕ → List (List ℕ)
cycles_of sh x s = map (cycle_of sh x s) (own_faces sh x s)

-- ---- line by line

-- a v line has the words of the three coordinates
vertex_words : (p : List ℤ) (v : ℕ)
    → vertex_line p v ≡ (118 ∷ []) ++ spaced_words (λ i. millimetres (coordinate p v i)) (0 ∷ 1 ∷ 2 ∷ []) ++ newline
unfolding vertex_line concat_map
vertex_words p v =
    grouped (118 ∷ []) (spaced (millimetres (coordinate p v 0))) (spaced (millimetres (coordinate p v 1)))
    (spaced (millimetres (coordinate p v 2))) newline
  where
    grouped : (a b c d e : List ℕ) → a ++ b ++ c ++ d ++ e ≡ a ++ (b ++ (c ++ (d ++ []))) ++ e
    grouped a b c d e = simp (append_assoc, append-nil)

-- and is read as the vertex's point
vertex_read : (p : List ℤ) (v : ℕ) (r : List ℕ)
    → read_obj (vertex_line p v ++ r) ≡ on_both add_point (some (point_of p v)) (read_obj r)
unfolding read_line
vertex_read p v r =
    let word : ℕ → List ℕ = λ i. millimetres (coordinate p v i) in
    let places : List ℕ = 0 ∷ 1 ∷ 2 ∷ [] in
    rw (
      vertex_words p v,
      line_read word (λ i. millimetres_above (coordinate p v i)) 118 (omega arith) places r,
      all_read read_coordinate word (coordinate p v) (λ i. coordinate_read (coordinate p v i)) places,
    )

-- an f line is read as the face's corners, before what has no v line
face_read : (sh : Shape) (x : List ℕ) (s f : ℕ) (r : List ℕ)
    → read_obj (face_line sh x (rank sh x s) f ++ r)
    ≡ on_both add_cycle (some (cycle_of sh x s f)) (no_points (read_obj r))
unfolding face_line corner_word read_line
face_read sh x s f r =
    let index : ℕ → ℕ = λ k. rank sh x s (start_of sh x k) in
    let word : ℕ → List ℕ = λ k. decimal (index k) in
    rw (
      line_read word (λ k. above_lower (omega arith) (decimal_above (index k))) 102 (omega arith) (backwards sh x f) r,
      all_read read_index word index (λ k. number_read (index k)) (backwards sh x f),
    )

-- ---- the whole text

-- the f lines, to the end
faces_read : (sh : Shape) (x : List ℕ) (s : ℕ) (fs : List ℕ)
    → read_obj (concat_map (face_line sh x (rank sh x s)) fs) ≡ some (mesh [] (map (cycle_of sh x s) fs))
unfolding concat_map pieces read_lines
faces_read sh x s [] = refl
faces_read sh x s (f ∷ fs) = rw
    (face_read sh x s f (concat_map (face_line sh x (rank sh x s)) fs), faces_read sh x s fs)

-- the v lines, before what has none
vertices_read : (p : List ℤ) (vs r : List ℕ) (cs : List (List ℕ)) → read_obj r ≡ some (mesh [] cs)
    → read_obj (concat_map (vertex_line p) vs ++ r) ≡ some (mesh (map (point_of p) vs) cs)
unfolding concat_map
vertices_read p [] r cs h = h
vertices_read p (v ∷ vs) r cs h =
    let t : List ℕ = concat_map (vertex_line p) vs in
    rw (append_assoc (vertex_line p v) t r, vertex_read p v (t ++ r), vertices_read p vs r cs h)

-- A READER FINDS THE SAME POINTS AND CYCLES: of any links and points, and any solid
pub obj_read : (sh : Shape) (x : List ℕ) (p : List ℤ) (s : ℕ)
    → read_obj (obj_text sh x p s) ≡ some (mesh (points_of sh x p s) (cycles_of sh x s))
unfolding obj_text
obj_read sh x p s =
    vertices_read p (own_vertices sh x s) (concat_map (face_line sh x (rank sh x s)) (own_faces sh x s))
    (cycles_of sh x s)
    (faces_read sh x s (own_faces sh x s))
