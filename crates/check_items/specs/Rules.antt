-- The six rules of a sound table (document 01, "Sound tables"), as tests that compute. Each item has a short list of
-- small tests; a rule is that all items of each kind pass theirs. `sh` is the table's shape, `x` its links, `p` its
-- points.
use Rattle.std.specs.Prelude.{ℕ, ◌+◌, ◌-◌, ◌*◌, Bool, not, ◌&&◌, ◌||◌, List, [], ◌∷◌, eqb, leb, ℤ}
use Rattle.laws.specs.Bools.{pick}
use Rattle.laws.specs.Every.{every}
use Rattle.laws.specs.Search.{all_to, least}
use Rattle.laws.specs.Sums.{count_to}
use Rattle.laws.specs.Walks.{meets}
use Rattle.laws.specs.Closure.{linkedb}
use Rattle.layout.specs.declared.shape.Shape.{Shape}
use Rattle.layout.specs.Layout.{solid_used, face_solid, face_outer, loop_face, loop_first, loop_isolated, start_of}
use Rattle.layout.specs.Layout.{loop_of}
use Rattle.layout.specs.Layout.{next_of, prev_of, vertex_used, side}
use Rattle.layout.specs.Mate.{mate}
use Rattle.layout.specs.Points.{in_range, is_zero}
use Rattle.layout.specs.Items.{some, half_used, face_in}

-- ---- small tests

-- a and b are both 0, or neither is: a record is all zero or has no zero
abbrev pub together : ℕ → ℕ → Bool
together a b = (eqb a 0 && eqb b 0) || (some a && some b)

-- b is there only where a is
abbrev pub only_with : ℕ → ℕ → Bool
only_with a b = some a || eqb b 0

-- where a is, t holds
abbrev pub where_some : ℕ → Bool → Bool
where_some a t = eqb a 0 || t

-- ---- rule 1: the marks of solids, numbers and coordinates are in range; free records are zero; both halves of an edge
-- are in use or neither

unfoldable pub solid_range : Shape → List ℕ → ℕ → Bool
solid_range sh x s = leb (solid_used sh x s) 1

unfoldable pub face_range : Shape → List ℕ → ℕ → Bool
face_range sh x f =
    every (leb (face_solid sh x f) sh.solids ∷ leb (face_outer sh x f) sh.loops
    ∷ together (face_solid sh x f) (face_outer sh x f) ∷ [])

-- of a loop's words, first and isolated vertex may be 0 while it is in use
unfoldable pub loop_range : Shape → List ℕ → ℕ → Bool
loop_range sh x l =
    every
    (leb (loop_face sh x l) sh.faces ∷ leb (loop_first sh x l) (2 * sh.edges)
    ∷ leb (loop_isolated sh x l) sh.vertices
    ∷ only_with (loop_face sh x l) (loop_first sh x l) ∷ only_with (loop_face sh x l) (loop_isolated sh x l) ∷ [])

unfoldable pub half_range : Shape → List ℕ → ℕ → Bool
half_range sh x k =
    every
    (leb (start_of sh x k) sh.vertices ∷ leb (loop_of sh x k) sh.loops ∷ leb (next_of sh x k) (2 * sh.edges)
    ∷ leb (prev_of sh x k) (2 * sh.edges)
    ∷ together (start_of sh x k) (loop_of sh x k) ∷ together (start_of sh x k) (next_of sh x k)
    ∷ together (start_of sh x k) (prev_of sh x k)
    ∷ together (start_of sh x k) (start_of sh x (mate k)) ∷ [])

-- a vertex's point: in range, and zero where the vertex is free
unfoldable pub vertex_range : Shape → List ℕ → List ℤ → ℕ → Bool
vertex_range sh x p v =
    every
    (in_range p v 0 ∷ in_range p v 1 ∷ in_range p v 2
    ∷ (some (vertex_used sh x v) || (is_zero p v 0 && is_zero p v 1 && is_zero p v 2)) ∷ [])

unfoldable pub rule1 : Shape → List ℕ → List ℤ → Bool
rule1 sh x p =
    every
    (all_to sh.solids (solid_range sh x) ∷ all_to sh.faces (face_range sh x) ∷ all_to sh.loops (loop_range sh x)
    ∷ all_to (2 * sh.edges) (half_range sh x) ∷ all_to sh.vertices (vertex_range sh x p) ∷ [])

-- ---- rule 2: every number held names an item in use; a face's outer loop names that face; each solid in use has a
-- face

unfoldable pub solid_names : Shape → List ℕ → ℕ → Bool
solid_names sh x s = where_some (solid_used sh x s) (some (face_in sh x s))

unfoldable pub face_names : Shape → List ℕ → ℕ → Bool
face_names sh x f =
    where_some (face_solid sh x f)
    (every (some (solid_used sh x (face_solid sh x f)) ∷ eqb (loop_face sh x (face_outer sh x f)) f ∷ []))

unfoldable pub loop_names : Shape → List ℕ → ℕ → Bool
loop_names sh x l =
    where_some (loop_face sh x l)
    (every
    (some (face_solid sh x (loop_face sh x l))
    ∷ where_some (loop_first sh x l) (some (start_of sh x (loop_first sh x l)))
    ∷ where_some (loop_isolated sh x l) (some (vertex_used sh x (loop_isolated sh x l))) ∷ []))

unfoldable pub half_names : Shape → List ℕ → ℕ → Bool
half_names sh x k =
    where_some (start_of sh x k)
    (every
    (some (vertex_used sh x (start_of sh x k)) ∷ some (loop_face sh x (loop_of sh x k))
    ∷ some (start_of sh x (next_of sh x k))
    ∷ some (start_of sh x (prev_of sh x k)) ∷ []))

unfoldable pub rule2 : Shape → List ℕ → Bool
rule2 sh x =
    every
    (all_to sh.faces (face_names sh x) ∷ all_to sh.loops (loop_names sh x) ∷ all_to (2 * sh.edges) (half_names sh x)
    ∷ all_to sh.solids (solid_names sh x) ∷ [])

-- ---- rule 3: a loop has either a first half-edge or an isolated vertex, not both

unfoldable pub loop_either : Shape → List ℕ → ℕ → Bool
loop_either sh x l =
    where_some (loop_face sh x l)
    ((some (loop_first sh x l) && eqb (loop_isolated sh x l) 0)
    || (eqb (loop_first sh x l) 0 && some (loop_isolated sh x l)))

unfoldable pub rule3 : Shape → List ℕ → Bool
rule3 sh x = all_to sh.loops (loop_either sh x)

-- ---- rule 4: next and previous undo each other; next of k starts where k's mate starts and names k's loop; the
-- half-edges naming
-- a loop form one cycle, and first is the least of them; an isolated loop is named by none

unfoldable pub half_links : Shape → List ℕ → ℕ → Bool
half_links sh x k =
    where_some (start_of sh x k)
    (every
    (eqb (prev_of sh x (next_of sh x k)) k ∷ eqb (next_of sh x (prev_of sh x k)) k
    ∷ eqb (start_of sh x (next_of sh x k)) (start_of sh x (mate k))
    ∷ eqb (loop_of sh x (next_of sh x k)) (loop_of sh x k)
    ∷ some (loop_first sh x (loop_of sh x k)) ∷ leb (loop_first sh x (loop_of sh x k)) k ∷ []))

-- first is one of those that name the loop
unfoldable pub first_names : Shape → List ℕ → ℕ → Bool
first_names sh x l = where_some (loop_first sh x l) (eqb (loop_of sh x (loop_first sh x l)) l)

-- k is met from its loop's first along next
unfoldable pub half_in_loop : Shape → List ℕ → ℕ → Bool
half_in_loop sh x k = not (half_used sh x k) || meets (next_of sh x) (2 * sh.edges) (loop_first sh x (loop_of sh x k)) k

unfoldable pub rule4 : Shape → List ℕ → Bool
rule4 sh x =
    every (all_to (2 * sh.edges) (half_links sh x) ∷ all_to sh.loops (first_names sh x)
    ∷ all_to (2 * sh.edges) (half_in_loop sh x) ∷ [])

-- ---- rule 5: a vertex in use holds 1 plus the number of half-edges that start there; it is either the isolated vertex
-- of exactly one loop and starts none, or isolated in none, and the half-edges starting there, at least one, form one
-- cycle under "next of the mate"

-- in how many loops v is isolated
abbrev pub isolated_in : Shape → List ℕ → ℕ → ℕ
isolated_in sh x v = count_to sh.loops (λ l. eqb (loop_isolated sh x l) v)

-- how many half-edges start at v
abbrev pub starts_at : Shape → List ℕ → ℕ → ℕ
starts_at sh x v = count_to (2 * sh.edges) (λ k. eqb (start_of sh x k) v)

-- the least half-edge that starts at v, or 0
abbrev pub starter : Shape → List ℕ → ℕ → ℕ
starter sh x v = least (2 * sh.edges) (λ k. eqb (start_of sh x k) v)

-- the half-edge after k around its start: next of the mate
abbrev pub around : Shape → List ℕ → ℕ → ℕ
around sh x k = next_of sh x (mate k)

unfoldable pub vertex_either : Shape → List ℕ → ℕ → Bool
vertex_either sh x v =
    where_some (vertex_used sh x v)
    (eqb (vertex_used sh x v) (1 + starts_at sh x v)
    && ((eqb (isolated_in sh x v) 1 && eqb (starts_at sh x v) 0)
    || (eqb (isolated_in sh x v) 0 && some (starts_at sh x v))))

-- k is met from the least half-edge of its start, going around
unfoldable pub half_at_vertex : Shape → List ℕ → ℕ → Bool
half_at_vertex sh x k = not (half_used sh x k) || meets (around sh x) (2 * sh.edges) (starter sh x (start_of sh x k)) k

unfoldable pub rule5 : Shape → List ℕ → Bool
rule5 sh x = every (all_to sh.vertices (vertex_either sh x) ∷ all_to (2 * sh.edges) (half_at_vertex sh x) ∷ [])

-- ---- rule 6: the faces on an edge's two sides lie in one solid, and any two faces of a solid are linked by a chain of
-- faces,
-- neighbours sharing an edge

unfoldable pub half_sides : Shape → List ℕ → ℕ → Bool
half_sides sh x k = where_some (start_of sh x k)
    (eqb (face_solid sh x (side sh x k)) (face_solid sh x (side sh x (mate k))))

-- faces f and g are linked: g is reached from f across edges in use, edge e having the sides of 2e − 1 and 2e
abbrev pub linked : Shape → List ℕ → ℕ → ℕ → Bool
linked sh x = linkedb sh.faces sh.edges (λ e. half_used sh x (2 * e)) (λ e. side sh x (2 * e - 1))
    (λ e. side sh x (2 * e))

-- each face is linked to the least face of its solid
unfoldable pub face_linked : Shape → List ℕ → ℕ → Bool
face_linked sh x f = where_some (face_solid sh x f) (linked sh x (face_in sh x (face_solid sh x f)) f)

unfoldable pub rule6 : Shape → List ℕ → Bool
rule6 sh x = every (all_to (2 * sh.edges) (half_sides sh x) ∷ all_to sh.faces (face_linked sh x) ∷ [])

-- ---- the check

-- the lowest broken rule, 0 where all hold
unfoldable pub broken_rule : Shape → List ℕ → List ℤ → ℕ
broken_rule sh x p =
    pick (rule1 sh x p)
    (pick (rule2 sh x) (pick (rule3 sh x) (pick (rule4 sh x) (pick (rule5 sh x) (pick (rule6 sh x) 0 6) 5) 4) 3) 2)
    1
