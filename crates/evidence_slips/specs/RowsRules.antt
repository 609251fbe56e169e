-- Slips in the six rules of a sound table, in its sizes and in clearing.
use Rattle.std.specs.Prelude.{ℕ, List, [], ◌∷◌, ◌++◌, leb, ℤ, pos, set, replicate}
use Rattle.laws.specs.Search.{least}
use Rattle.laws.specs.Sums.{bit}
use Rattle.table.specs.Sizes.{sizes_fit}
use Rattle.table.specs.Check.{check_of}
use Rattle.table.specs.Clear.{clear_of}
use Rattle.evidence_cases.specs.Tables.{links_b, links_c, points_zero, points_at}
use Rattle.evidence_slips.specs.Slip.{Slip, row, signed}

-- ---- tables

-- one vertex at 0 0 0
abbrev point_one : List ℤ
point_one = pos 0 ∷ pos 0 ∷ pos 0 ∷ []

-- c's second vertex at 100 0 0
abbrev points_c : List ℤ
points_c = points_at (pos 100)

-- a circle between face 1 of solid 1 and face 2 of solid 2
abbrev links_across : List ℕ
links_across =
    2 ∷ 2 ∷ 2 ∷ 1 ∷ 1 ∷ 1 ∷ 1 ∷ 1 ∷ 1 ∷ 2 ∷ 2 ∷ 1 ∷ 1 ∷ 0 ∷ 2 ∷ 2 ∷ 0 ∷ 1 ∷ 1 ∷ 1 ∷ 1 ∷ 1 ∷ 2 ∷ 2 ∷ 2 ∷ 3 ∷ []

-- a solid of two faces, each with one lone loop: no edge links them
abbrev links_apart : List ℕ
links_apart =
    1 ∷ 2 ∷ 2 ∷ 1 ∷ 2 ∷ 1 ∷ 1 ∷ 1 ∷ 1 ∷ 2 ∷ 1 ∷ 0 ∷ 1 ∷ 2 ∷ 0 ∷ 2 ∷ replicate 8 0 ++ (1 ∷ 1 ∷ [])

-- a circle at vertex 1, which is also the lone vertex of loop 3
abbrev links_both : List ℕ
links_both =
    1 ∷ 2 ∷ 3 ∷ 1 ∷ 1 ∷ 1 ∷ 1 ∷ 1 ∷ 1 ∷ 2 ∷ 1 ∷ 1 ∷ 0 ∷ 2 ∷ 2 ∷ 0 ∷ 1 ∷ 0 ∷ 1 ∷ 1 ∷ 1 ∷ 1 ∷ 1 ∷ 1 ∷ 2 ∷ 2 ∷ 2 ∷ 3 ∷ []

-- a solid in use and nothing else
abbrev links_bare : List ℕ
links_bare = 1 ∷ 1 ∷ 1 ∷ 1 ∷ 1 ∷ 1 ∷ replicate 14 0

-- half-edges 1 and 2 in one loop, both starting at vertex 1, each a cycle of its own around it
abbrev links_pinched : List ℕ
links_pinched = 1 ∷ 1 ∷ 1 ∷ 1 ∷ 1 ∷ 1 ∷ 1 ∷ 1 ∷ 1 ∷ 1 ∷ 0 ∷ 1 ∷ 1 ∷ 2 ∷ 2 ∷ 1 ∷ 1 ∷ 1 ∷ 1 ∷ 3 ∷ []

-- two loops, and edge 3, a circle, between their faces
abbrev links_late : List ℕ
links_late =
    1 ∷ 2 ∷ 2 ∷ 3 ∷ 1 ∷ 1 ∷ 1 ∷ 1 ∷ 1 ∷ 2 ∷ 1 ∷ 5 ∷ 0 ∷ 2 ∷ 6 ∷ 0 ∷ replicate 16 0
    ++ (1 ∷ 1 ∷ 5 ∷ 5 ∷ 1 ∷ 2 ∷ 6 ∷ 6 ∷ 3 ∷ [])

-- ---- what is asked

-- the check's refusal and rule
abbrev checked : List ℕ → List ℤ → List ℕ
checked x p = (check_of x p).refusal ∷ (check_of x p).rule ∷ []

-- sound
abbrev sound : List ℕ
sound = 0 ∷ 0 ∷ []

-- not sound: the lowest rule broken
abbrev breaks : ℕ → List ℕ
breaks rule = 2 ∷ rule ∷ []

-- ---- the rows

abbrev pub rule_rows : List Slip
rule_rows =
    -- first need not be the least: c with first 2 would be sound
    row (checked (set links_c 11 2) points_c) sound
    -- a free loop may keep its first: b with first 1 in loop 2 would break rule 4, not rule 1
    ∷ row (checked (set links_b 14 1) points_zero) (breaks 4)
    -- a free loop may keep its lone vertex: b with vertex 2 in loop 2 would be sound
    ∷ row (checked (set links_b 15 2) points_zero) sound
    -- a free vertex may keep its point: b with vertex 2 at 5 0 0 would be sound
    ∷ row (checked links_b (points_at (pos 5))) sound
    -- the last item of a kind not tested: c with 3 for the word of vertex 2 would be sound
    ∷ row (checked (set links_c 33 3) points_c) sound
    -- an edge's two sides may lie in two solids
    ∷ row (checked links_across point_one) sound
    -- only a vertex of word 1 counts as in use, so that the others have to be at 0 0 0: c would break rule 1
    ∷ row (checked links_c points_c) (breaks 1)
    -- z not tested: b with vertex 1 at 0 0 50,001 would be sound
    ∷ row (checked links_b (set points_zero 2 (pos 50001))) sound
    -- the last taken for the least: of 2, 3 and 4 it would be 4
    ∷ row (least 4 (λ k. leb 2 k) ∷ []) (4 ∷ [])
    -- a lone vertex may start half-edges
    ∷ row (checked links_both point_one) sound
    -- a solid in use may have no face
    ∷ row (checked links_bare point_one) sound
    -- half-edges at a vertex walked along their loop, not around the vertex: two cycles would do
    ∷ row (checked links_pinched point_one) sound
    -- two faces of a solid need not be linked
    ∷ row (checked links_apart points_zero) sound
    -- edges counted by the loops: with two loops, edge 3 would not link the two faces
    ∷ row (checked links_late point_one) (breaks 6)
    -- a capacity of 4,097 accepted
    ∷ row (bit (sizes_fit 4116 3 4097 1 1 1 1) ∷ []) (1 ∷ [])
    -- an unsound table refused with 1: b with the mark 7
    ∷ row (checked (set links_b 5 7) points_zero) (1 ∷ 1 ∷ [])
    -- clearing leaves ones in the points
    ∷ row (signed (clear_of (replicate 20 7) (replicate 3 (pos 7)) 1 1 1 1 1).points) (signed (replicate 3 (pos 1)))
    -- links may be longer than the capacities say: b with one more word would be sound
    ∷ row (checked (links_b ++ (0 ∷ [])) points_zero) sound
    ∷ []
