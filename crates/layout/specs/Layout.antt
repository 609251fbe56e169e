-- The table of document 01 as plain lists: links and points. What each field of `Fields` is called, and where the
-- records begin.
use Rattle.std.specs.Prelude.{ℕ, zero, suc, ◌+◌, ◌*◌, List, get_or}
use Rattle.layout.specs.declared.shape.Capacities.{Capacities}
use Rattle.layout.specs.declared.shape.Shape.{Shape}
use Rattle.layout.specs.Fields.{SolidUsed, Solid, Outer, Face, First, Isolated}
use Rattle.layout.specs.Fields.{Start, Loop, Next, Prev, VertexUsed, column, put}
use Rattle.layout.specs.Fields.{solid_kind, face_kind, loop_kind, half_kind, vertex_kind, width_of, head}

-- ---- where the records begin

-- n records of w words
abbrev pub words : ℕ → ℕ → ℕ
words zero n = 0
words (suc zero) n = n
words (suc (suc w)) n = suc (suc w) * n

-- the faces begin behind the solids, which stand behind the capacities
abbrev face_start : ℕ → ℕ
face_start s = head + words (width_of solid_kind) s

abbrev loop_start : ℕ → ℕ → ℕ
loop_start s f = face_start s + words (width_of face_kind) f

abbrev half_start : ℕ → ℕ → ℕ → ℕ
half_start s f l = loop_start s f + words (width_of loop_kind) l

-- an edge is two half-edges
abbrev vertex_start : ℕ → ℕ → ℕ → ℕ → ℕ
vertex_start s f l e = half_start s f l + words (2 * width_of half_kind) e

-- the shape of a table of capacities S, F, L, E, V: where the records of each kind begin
abbrev pub shape_from : ℕ → ℕ → ℕ → ℕ → ℕ → Shape
shape_from s f l e v =
    record {
      solids = s;
      faces = f;
      loops = l;
      edges = e;
      vertices = v;
      face0 = face_start s;
      loop0 = loop_start s f;
      half0 = half_start s f l;
      vertex0 = vertex_start s f l e;
    }

-- how many words the links of a table of this shape have
abbrev pub length_of : Shape → ℕ
length_of sh = sh.vertex0 + words (width_of vertex_kind) sh.vertices

-- and of these capacities
abbrev pub links_length : ℕ → ℕ → ℕ → ℕ → ℕ → ℕ
links_length s f l e v = length_of (shape_from s f l e v)

-- the capacities that the first five words say
abbrev pub capacities_of : List ℕ → Capacities
capacities_of x = record {
  solids = get_or x 0 0;
  faces = get_or x 1 0;
  loops = get_or x 2 0;
  edges = get_or x 3 0;
  vertices = get_or x 4 0;
}

-- the shape that they say
abbrev pub shape_of : List ℕ → Shape
shape_of x = shape_from (get_or x 0 0) (get_or x 1 0) (get_or x 2 0) (get_or x 3 0) (get_or x 4 0)

-- ---- the fields by name: what each is of record n, and the store to it

-- 1 where solid n is in use
abbrev pub solid_used : Shape → List ℕ → ℕ → ℕ
solid_used sh = column sh SolidUsed

abbrev pub set_solid_used : Shape → List ℕ → ℕ → ℕ → List ℕ
set_solid_used sh = put sh SolidUsed

-- the solid of face n; 0 where the face is free
abbrev pub face_solid : Shape → List ℕ → ℕ → ℕ
face_solid sh = column sh Solid

abbrev pub set_face_solid : Shape → List ℕ → ℕ → ℕ → List ℕ
set_face_solid sh = put sh Solid

-- the outer loop of face n
abbrev pub face_outer : Shape → List ℕ → ℕ → ℕ
face_outer sh = column sh Outer

abbrev pub set_face_outer : Shape → List ℕ → ℕ → ℕ → List ℕ
set_face_outer sh = put sh Outer

-- the face of loop n; 0 where the loop is free
abbrev pub loop_face : Shape → List ℕ → ℕ → ℕ
loop_face sh = column sh Face

abbrev pub set_loop_face : Shape → List ℕ → ℕ → ℕ → List ℕ
set_loop_face sh = put sh Face

-- the first half-edge of loop n; 0 where it is isolated
abbrev pub loop_first : Shape → List ℕ → ℕ → ℕ
loop_first sh = column sh First

abbrev pub set_loop_first : Shape → List ℕ → ℕ → ℕ → List ℕ
set_loop_first sh = put sh First

-- the isolated vertex of loop n (document 01: lone vertex); 0 where it has half-edges
abbrev pub loop_isolated : Shape → List ℕ → ℕ → ℕ
loop_isolated sh = column sh Isolated

abbrev pub set_loop_isolated : Shape → List ℕ → ℕ → ℕ → List ℕ
set_loop_isolated sh = put sh Isolated

-- the start vertex of half-edge n; 0 where it is free
abbrev pub start_of : Shape → List ℕ → ℕ → ℕ
start_of sh = column sh Start

abbrev pub set_start : Shape → List ℕ → ℕ → ℕ → List ℕ
set_start sh = put sh Start

-- the loop of half-edge n
abbrev pub loop_of : Shape → List ℕ → ℕ → ℕ
loop_of sh = column sh Loop

abbrev pub set_loop : Shape → List ℕ → ℕ → ℕ → List ℕ
set_loop sh = put sh Loop

-- the half-edge after n in its loop
abbrev pub next_of : Shape → List ℕ → ℕ → ℕ
next_of sh = column sh Next

abbrev pub set_next : Shape → List ℕ → ℕ → ℕ → List ℕ
set_next sh = put sh Next

-- the half-edge before n in its loop
abbrev pub prev_of : Shape → List ℕ → ℕ → ℕ
prev_of sh = column sh Prev

abbrev pub set_prev : Shape → List ℕ → ℕ → ℕ → List ℕ
set_prev sh = put sh Prev

-- the vertex word: 1 plus the number of half-edges that start at vertex n; 0 where it is free
abbrev pub vertex_used : Shape → List ℕ → ℕ → ℕ
vertex_used sh = column sh VertexUsed

abbrev pub set_vertex_used : Shape → List ℕ → ℕ → ℕ → List ℕ
set_vertex_used sh = put sh VertexUsed

-- the face that half-edge k lies in
abbrev pub side : Shape → List ℕ → ℕ → ℕ
side sh x k = loop_face sh x (loop_of sh x k)
