-- The five operators on solids, faces and whole loops (document 01: 1, 2, 9, 10, 13): no edge is made or killed. The
-- layout is that of EdgeOperators.
use Rattle.std.specs.Prelude.{ℕ, ◌*◌, Bool, not, ◌&&◌, ◌||◌, List, [], ◌∷◌, ◌++◌, eqb, ℤ}
use Rattle.laws.specs.Bools.{pick}
use Rattle.laws.specs.Every.{every}
use Rattle.laws.specs.Search.{least}
use Rattle.script.specs.declared.Operator.{Operator}
use Rattle.layout.specs.declared.shape.Shape.{Shape}
use Rattle.layout.specs.Layout.{face_solid, face_outer, loop_face, loop_isolated, start_of, loop_of, side}
use Rattle.layout.specs.Mate.{mate}
use Rattle.layout.specs.Fields.{SolidUsed, Solid, Outer, Face, VertexUsed, face_kind, loop_kind}
use Rattle.layout.specs.Writes.{cleared}
use Rattle.layout.specs.Items.{some, face_in, is_ring}
use Rattle.check_shells.specs.Shells.{faces_linked_as}
use Rattle.euler.specs.Surgery.{operator, operator_at, face_record, loop_record}
use Rattle.euler.specs.Queries.{faces_in, loops_in}
use Rattle.euler.specs.Steps.{Step, Store, Sweep, assign, does, after}

-- ---- 1 mvsf s f l v x y z
-- A solid of one face with one lone loop.
--
--     (nothing)      mvsf -->       v o      solid s, its face f, the face's loop l, lone at v
--                   <-- kvsf

abbrev pub mvsf_steps : ℕ → ℕ → ℕ → ℕ → List Step
mvsf_steps s f l v =
    assign SolidUsed s 1  -- s is in use
    ∷ Store (face_record f s l)  -- f is its face
    ∷ Store (loop_record l f 0 v)  -- l is f's loop, lone at v
    ∷ assign VertexUsed v 1  -- v is in use
    ∷ []

unfoldable pub mvsf_links : Shape → List ℕ → ℕ → ℕ → ℕ → ℕ → List ℕ
mvsf_links sh x s f l v = after sh (mvsf_steps s f l v) x

abbrev pub mvsf_inverse : ℕ → Operator
mvsf_inverse s = operator 2 (s ∷ [])

-- ---- 2 kvsf s
-- Kills such a solid. (The picture of mvsf, from right to left.)

unfoldable pub kvsf_test : Shape → List ℕ → ℕ → Bool
kvsf_test sh x s = every (
    eqb (faces_in sh x s) 1  -- s has one face
    ∷ eqb (loops_in sh x (face_in sh x s)) 1  -- which has one loop
    ∷ some (loop_isolated sh x (face_outer sh x (face_in sh x s)))  -- which is lone
    ∷ [])

-- with its face f, that face's loop l and l's vertex v
abbrev pub kvsf_steps : ℕ → ℕ → ℕ → ℕ → List Step
kvsf_steps s f l v =
    assign SolidUsed s 0  -- s is free
    ∷ Store (cleared face_kind f)  -- and f
    ∷ Store (cleared loop_kind l)  -- and l
    ∷ assign VertexUsed v 0  -- and v
    ∷ []

unfoldable pub kvsf_links : Shape → List ℕ → ℕ → ℕ → ℕ → ℕ → List ℕ
kvsf_links sh x s f l v = after sh (kvsf_steps s f l v) x

abbrev pub kvsf_inverse : List ℤ → ℕ → ℕ → ℕ → ℕ → Operator
kvsf_inverse p s f l v = operator_at 1 (s ∷ f ∷ l ∷ v ∷ []) p v

-- ---- 9 kfmrh f1 f2
-- Two different faces, f2 without rings. Its loop becomes a ring of f1, f2 is killed. If the solids differ, that of f2
-- is killed and its faces pass to that of f1.
--
--     +-----------+  +-------+                    +-----------+
--     | f1        |  |   f2  |     kfmrh -->      | f1 +---+  |
--     |           |  +--l----+    <-- mfkrh       |    +-l-+  |
--     +-----------+                               +-----------+

unfoldable pub kfmrh_test : Shape → List ℕ → ℕ → ℕ → Bool
kfmrh_test sh x f1 f2 = every (
    not (eqb f1 f2)  -- two faces
    ∷ eqb (loops_in sh x f2) 1  -- f2 without rings
    ∷ [])

-- all faces of solid s pass to solid t
abbrev pub pass_faces : ℕ → ℕ → Step
pass_faces s t = Sweep Solid (λ f old. pick (eqb old s) t old)

abbrev pub move_faces : Shape → List ℕ → ℕ → ℕ → List ℕ
move_faces sh x s t = does sh (pass_faces s t) x

abbrev pub kfmrh_steps : Shape → List ℕ → ℕ → ℕ → List Step
kfmrh_steps sh x f1 f2 =
    assign Face (face_outer sh x f2) f1  -- f2's loop is a ring of f1
    ∷ Store (cleared face_kind f2)  -- f2 is killed
    ∷ pass_faces (face_solid sh x f2) (face_solid sh x f1)  -- the faces of its solid pass to that of f1
    ∷ assign SolidUsed (face_solid sh x f2) 0  -- its solid is killed
    ∷ assign SolidUsed (face_solid sh x f1) 1  -- where the solids are one, it stays in use
    ∷ []

unfoldable pub kfmrh_links : Shape → List ℕ → ℕ → ℕ → List ℕ
kfmrh_links sh x f1 f2 = after sh (kfmrh_steps sh x f1 f2) x

abbrev pub kfmrh_inverse : Shape → List ℕ → ℕ → ℕ → Operator
kfmrh_inverse sh x f1 f2 =
    operator 10
    (face_outer sh x f2 ∷ f2 ∷ pick (eqb (face_solid sh x f1) (face_solid sh x f2)) 0 (face_solid sh x f2) ∷ [])

-- ---- 10 mfkrh l f s
-- Ring l becomes outer loop of new face f. If f is then unlinked (rule 6) from l's old face, f and all faces linked to
-- it form new solid s, which must not be 0; otherwise s must be 0. (The picture of kfmrh from right to left, where f is
-- f2.)

-- faces g and h are linked once loop l lies in face f
unfoldable pub linked_after : Shape → List ℕ → ℕ → ℕ → ℕ → ℕ → Bool
linked_after sh x l f g h = faces_linked_as sh x l f g h

unfoldable pub mfkrh_test : Shape → List ℕ → ℕ → ℕ → ℕ → Bool
mfkrh_test sh x l f s = every (
    is_ring sh x l  -- l is a ring
    -- f stays linked to l's old face and s is 0, or it does not and s is not 0
    ∷ ((linked_after sh x l f f (loop_face sh x l) && eqb s 0)
    || (not (linked_after sh x l f f (loop_face sh x l)) && some s))
    ∷ [])

-- l is the outer loop of f, in the solid of its old face
abbrev pub ring_steps : Shape → List ℕ → ℕ → ℕ → List Step
ring_steps sh x l f =
    -- f is a face of the same solid, with l for outer loop
    Store (face_record f (face_solid sh x (loop_face sh x l)) l)
    ∷ assign Face l f  -- l is a loop of f
    ∷ []

-- the links after these
abbrev pub ring_face : Shape → List ℕ → ℕ → ℕ → List ℕ
ring_face sh x l f = after sh (ring_steps sh x l f) x

-- f and all faces linked to it form solid s
abbrev pub shell_steps : Shape → List ℕ → ℕ → ℕ → ℕ → List Step
shell_steps sh x l f s =
    assign SolidUsed s 1  -- s is in use
    ∷ Sweep Solid (λ g old. pick (linked_after sh x l f f g) s old)  -- f and all faces linked to it pass to s
    ∷ []

abbrev pub mfkrh_steps : Shape → List ℕ → ℕ → ℕ → ℕ → List Step
mfkrh_steps sh x l f s =
    ring_steps sh x l f  -- l is the outer loop of f
    ++ pick (eqb s 0) [] (shell_steps sh x l f s)  -- where s is 0, f stays in the solid

unfoldable pub mfkrh_links : Shape → List ℕ → ℕ → ℕ → ℕ → List ℕ
mfkrh_links sh x l f s = after sh (mfkrh_steps sh x l f s) x

abbrev pub mfkrh_inverse : Shape → List ℕ → ℕ → ℕ → Operator
mfkrh_inverse sh x l f = operator 9 (loop_face sh x l ∷ f ∷ [])

-- ---- 13 rmov l f
-- l is a ring. If f is its face, l becomes outer and the old outer a ring. Otherwise l becomes a ring of f, which must
-- share an edge with l's face, the half in l's face lying outside l.
--
--     +---------+---------+               +---------+---------+
--     |  +---+  |    f    |    rmov -->   |         |  +---+  |
--     |  +-l-+  |         |   <-- rmov    |         |  +-l-+  |
--     +---------+---------+               +---------+---------+

-- half-edge k lies in l's face outside l, with its mate in f
abbrev pub shares_outside : Shape → List ℕ → ℕ → ℕ → ℕ → Bool
shares_outside sh x l f k = every (
    some (start_of sh x k)  -- k is in use
    ∷ eqb (side sh x k) (loop_face sh x l)  -- it lies in l's face
    ∷ not (eqb (loop_of sh x k) l)  -- outside l
    ∷ eqb (side sh x (mate k)) f  -- its mate lies in f
    ∷ [])

unfoldable pub rmov_test : Shape → List ℕ → ℕ → ℕ → Bool
rmov_test sh x l f = every (
    is_ring sh x l  -- l is a ring
    -- f is its face, or shares an edge with it
    ∷ (eqb f (loop_face sh x l) || some (least (2 * sh.edges) (shares_outside sh x l f)))
    ∷ [])

abbrev pub rmov_steps : Shape → List ℕ → ℕ → ℕ → List Step
rmov_steps sh x l f =
    -- within its face l becomes outer; otherwise it goes to f
    pick (eqb f (loop_face sh x l)) (assign Outer f l) (assign Face l f)
    ∷ []

unfoldable pub rmov_links : Shape → List ℕ → ℕ → ℕ → List ℕ
rmov_links sh x l f = after sh (rmov_steps sh x l f) x

abbrev pub rmov_inverse : Shape → List ℕ → ℕ → ℕ → Operator
rmov_inverse sh x l f =
    operator 13
    (pick (eqb f (loop_face sh x l)) (face_outer sh x f) l ∷ pick (eqb f (loop_face sh x l)) f (loop_face sh x l) ∷ [])
