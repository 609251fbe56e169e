-- THE SWEEP (document 02, job 7), to be believed: the operators that lift face f by a vector, and what is refused.
-- "Loops by number, in each all mev before any mef, corners from the first half-edge, one riser per corner and one side
-- face per side, new numbers the least free, every way 0, but 2 in the mef of a one-corner loop."
-- Nothing is killed, so the i-th new number of a kind is the i-th that is free at the call (`nth`). That it is the
-- least free when its operator comes is a theorem (`names-least`), and so is what the table looks like in the end
-- (`sweep-sides`).
--
--            ----- a j ---->         k j    the half-edge of corner j
--          o <---- mate ---- o       r j    riser j, up; its mate H j, down: both just before k j (mev)
--     H j  |     side j      ^ r j+1 a j    the new edge in the lifted loop; its mate in side j (mef from H j to H j+1)
--          v                 |
--          o ----- k j ----> o
use Rattle.std.specs.Prelude.{ℕ, suc, ◌+◌, ◌-◌, ◌*◌, Bool, not, ◌&&◌, ◌||◌, List, [], ◌∷◌, ◌++◌, eqb, leb, ℤ, pos, ◌+ℤ◌}
use Rattle.laws.specs.Bools.{pick}
use Rattle.laws.specs.Every.{every}
use Rattle.laws.specs.Permutations.{iter}
use Rattle.laws.specs.Search.{least, all_to, any_to}
use Rattle.laws.specs.Sums.{sum_to}
use Rattle.sweeps.specs.declared.Vector.{Vector}
use Rattle.script.specs.declared.Operator.{Operator}
use Rattle.layout.specs.declared.shape.Shape.{Shape}
use Rattle.layout.specs.Layout.{face_solid, loop_face, loop_first, loop_isolated, start_of, next_of, side}
use Rattle.layout.specs.Mate.{mate}
use Rattle.layout.specs.Items.{some}
use Rattle.layout.specs.Points.{coordinate, range_test}
use Rattle.chains.specs.Series.{series, joined}
use Rattle.chains.specs.Ranks.{count_from}
use Rattle.chains.specs.Numbers.{Names, edge_free, vertex_free, face_free, loop_free, free_names}
use Rattle.chains.specs.Runs.{room_for}

-- "a whole-number vector", the struct `Vector` of this crate, of three numbers
abbrev pub vector : ℤ → ℤ → ℤ → Vector
vector x y z = record { x = x; y = y; z = z }

-- ---- corners

-- the half-edge of corner j of loop l: j steps from the first one
abbrev pub corner_of : Shape → List ℕ → ℕ → ℕ → ℕ
corner_of sh x l j = iter (next_of sh x) j (loop_first sh x l)

-- the number of corners of loop l: after so many steps the first half-edge comes again (l is not lone: 14 is asked
-- first)
unfoldable pub corners_in : Shape → List ℕ → ℕ → ℕ
corners_in sh x l = least (2 * sh.edges) (λ j. eqb (corner_of sh x l j) (loop_first sh x l))

-- the same if l lies in face f, else 0
unfoldable pub corners_of : Shape → List ℕ → ℕ → ℕ → ℕ
corners_of sh x f l = pick (eqb (loop_face sh x l) f) (corners_in sh x l) 0

-- the corners of all loops of face f with numbers up to l
abbrev pub corners_to : Shape → List ℕ → ℕ → ℕ → ℕ
corners_to sh x f l = sum_to l (corners_of sh x f)

-- ---- one loop: l with the corners 0 .. z, after b corners of the face's loops before it; N are the free numbers

-- mev l h e v 0 x y z
abbrev pub mev_at : ℕ → ℕ → ℕ → ℕ → ℤ → ℤ → ℤ → Operator
mev_at l h e v x y z = record {
  code = 3;
  count = 8;
  args = pos l ∷ pos h ∷ pos e ∷ pos v ∷ pos 0 ∷ x ∷ y ∷ z ∷ [];
}

-- mef l h1 h2 e f l2 w
abbrev pub mef_at : ℕ → ℕ → ℕ → ℕ → ℕ → ℕ → ℕ → Operator
mef_at l h1 h2 e f l2 w = record {
  code = 5;
  count = 7;
  args = pos l ∷ pos h1 ∷ pos h2 ∷ pos e ∷ pos f ∷ pos l2 ∷ pos w ∷ pos 0 ∷ [];
}

-- the riser at corner j, k j, to a new vertex at the corner's point moved, (X j, Y j, Z j)
abbrev pub riser_at : Names → ℕ → ℕ → (ℕ → ℕ) → (ℕ → ℤ) → (ℕ → ℤ) → (ℕ → ℤ) → ℕ → Operator
riser_at N l b k X Y Z j = mev_at l (k j) (N.edge (2 * b + j)) (N.vertex (b + j)) (X j) (Y j) (Z j)

-- its half that leads down
abbrev pub down_at : Names → ℕ → ℕ → ℕ
down_at N b j = mate (2 * N.edge (2 * b + j) - 1)

-- the side over corner j, from its riser to the next; the last one ends at the new edge of the first, where H 0 was
abbrev pub side_at : Names → ℕ → ℕ → ℕ → ℕ → Operator
side_at N l z b j =
    mef_at l (down_at N b j) (pick (eqb j z) (2 * N.edge (2 * b + suc z + 0) - 1) (down_at N b (suc j)))
    (N.edge (2 * b + suc z + j)) (N.face (b + j)) (N.loop (b + j)) 0

-- the only side of a loop of one corner: way 2
abbrev pub only_side : Names → ℕ → ℕ → ℕ → Operator
only_side N l z b =
    mef_at l (down_at N b 0) (down_at N b 0) (N.edge (2 * b + suc z + 0)) (N.face (b + 0)) (N.loop (b + 0)) 2

-- all sides of loop l
abbrev pub sides_of : Names → ℕ → ℕ → ℕ → List Operator
sides_of N l z b = pick (eqb z 0) (only_side N l z b ∷ []) (series 0 (suc z) (side_at N l z b))

-- coordinate i of the start of half-edge k, moved by d
abbrev pub moved_by : Shape → List ℕ → List ℤ → ℕ → ℤ → ℕ → ℤ
moved_by sh x p i d k = coordinate p (start_of sh x k) i +ℤ d

-- the risers of loop l
abbrev pub risers_of : Shape → List ℕ → List ℤ → Vector → ℕ → ℕ → ℕ → List Operator
risers_of sh x p v l z b =
    series 0 (suc z) (riser_at (free_names sh x) l b (corner_of sh x l)
    (λ j. moved_by sh x p 0 v.x (corner_of sh x l j)) (λ j. moved_by sh x p 1 v.y (corner_of sh x l j))
    (λ j. moved_by sh x p 2 v.z (corner_of sh x l j)))

-- all of loop l: its risers, then its sides
abbrev pub loop_ops : Shape → List ℕ → List ℤ → Vector → ℕ → ℕ → ℕ → List Operator
loop_ops sh x p v l z b = risers_of sh x p v l z b ++ sides_of (free_names sh x) l z b

-- ---- the face

-- those of loop j + 1 if it lies in face f, else none
abbrev pub ops_of : Shape → List ℕ → List ℤ → ℕ → Vector → ℕ → List Operator
ops_of sh x p f v j =
    pick (eqb (loop_face sh x (suc j)) f)
    (loop_ops sh x p v (suc j) (corners_in sh x (suc j) - 1) (corners_to sh x f j)) []

-- THE OPERATORS of the sweep of face f: loop after loop
unfoldable pub sweep_ops : Shape → List ℕ → List ℤ → ℕ → Vector → List Operator
sweep_ops sh x p f v = joined 0 sh.loops (ops_of sh x p f v)

-- ---- refusals

-- loop l lies in face f and is lone
abbrev pub lone_in : Shape → List ℕ → ℕ → ℕ → Bool
lone_in sh x f l = eqb (loop_face sh x l) f && some (loop_isolated sh x l)

-- the three coordinates of the start of half-edge k, moved, are in range
abbrev pub movable : Shape → List ℕ → List ℤ → Vector → ℕ → List Bool
movable sh x p v k =
    range_test (moved_by sh x p 0 v.x k) ∷ range_test (moved_by sh x p 1 v.y k) ∷ range_test (moved_by sh x p 2 v.z
    k)
    ∷ []

-- so they are if k is in use and lies in face f
abbrev pub moves : Shape → List ℕ → List ℤ → ℕ → Vector → ℕ → Bool
moves sh x p f v k = not (some (start_of sh x k) && eqb (side sh x k) f) || every (movable sh x p v k)

-- n vertices, 2n edges, n faces and n loops at least are free
abbrev pub spare : Shape → List ℕ → ℕ → List Bool
spare sh x n =
    leb n (count_from sh.vertices 1 (vertex_free sh x)) ∷ leb (2 * n) (count_from sh.edges 1 (edge_free sh x))
    ∷ leb n (count_from sh.faces 1 (face_free sh x)) ∷ leb n (count_from sh.loops 1 (loop_free sh x)) ∷ []

-- THE REFUSAL, 0 for none. "Before anything is done, in this order: 5 and 6 for the face, 14 for a lone loop in it, 5
-- for a moved point out of range, 10 for too few free numbers, 9 for a log too short for all their inverses": of which
-- `start` bytes are free
unfoldable pub sweep_refusal : Shape → List ℕ → List ℤ → ℕ → ℕ → Vector → ℕ
sweep_refusal sh x p start f v =
    pick (some f && leb f sh.faces)
    (pick (some (face_solid sh x f))
    (pick (any_to sh.loops (lone_in sh x f)) 14
    (pick (all_to (2 * sh.edges) (moves sh x p f v))
    (pick (every (spare sh x (corners_to sh x f sh.loops)))
    (pick (leb (room_for sh x p (sweep_ops sh x p f v)) start) 0 9) 10) 5)) 6) 5
