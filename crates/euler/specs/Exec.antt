-- One operator on a table: a refusal, or the new table with the operator that undoes it. Refusals in document 01's
-- order: all operands 5; all 6 and 7 from left to right; 8.
use Rattle.std.specs.Prelude.{ℕ, ◌+◌, ◌*◌, Bool, true, List, [], ◌∷◌, eqb, ℤ, pos, get_or}
use Rattle.laws.specs.Bools.{pick}
use Rattle.codec.specs.declared.Limits.{Limits}
use Rattle.script.specs.declared.Operator.{Operator}
use Rattle.codec.specs.Operands.{pattern, largests, in_ranges}
use Rattle.script.specs.Operator.{numbers_of, blank_of}
use Rattle.layout.specs.declared.shape.Shape.{Shape}
use Rattle.layout.specs.Layout.{solid_used, face_solid, face_outer, loop_face, loop_isolated, start_of, next_of}
use Rattle.layout.specs.Layout.{vertex_used}
use Rattle.layout.specs.Mate.{mate}
use Rattle.layout.specs.Items.{face_in}
use Rattle.euler.specs.Surgery.{item_of, half_by, put_point, point_to}
use Rattle.euler.specs.EdgeOperators.{mev_test, mev_links, mev_inverse, kev_test, kev_links, kev_inverse, mef_test}
use Rattle.euler.specs.EdgeOperators.{mef_links, mef_inverse, kef_test, kef_links, kef_inverse, kemr_test, kemr_links}
use Rattle.euler.specs.EdgeOperators.{kemr_inverse, mekr_test, mekr_links, mekr_inverse, semv_links, semv_inverse}
use Rattle.euler.specs.EdgeOperators.{jekv_test, jekv_links, jekv_inverse}
use Rattle.euler.specs.FaceOperators.{mvsf_links, mvsf_inverse, kvsf_test, kvsf_links, kvsf_inverse, kfmrh_test}
use Rattle.euler.specs.FaceOperators.{kfmrh_links, kfmrh_inverse, mfkrh_test, mfkrh_links, mfkrh_inverse, rmov_test}
use Rattle.euler.specs.FaceOperators.{rmov_links, rmov_inverse}
use Rattle.euler.specs.Valence.{less_starts, more_starts}

-- links and points
pub record Table : Type 0 where
  pub links : List ℕ
  pub points : List ℤ

-- an operator by its code and its eight operands; how many it has is the code's
abbrev pub operator_by : ℕ → List ℤ → Operator
operator_by code args = record { code = code; count = (pattern code).count; args = args }

-- ---- 5: operands out of a table's range

-- a table's capacities as limits
abbrev pub limits : Shape → Limits
limits sh = record {
  solids = sh.solids;
  faces = sh.faces;
  loops = sh.loops;
  edges = sh.edges;
  vertices =
      sh.vertices;
}

-- as in writing: 4 for no such code; 5 for another count of operands, one out of range, or an unused one that is not 0
unfoldable pub range_refusal : Shape → Operator → ℕ
range_refusal sh o =
    pick (eqb (pattern o.code).count 0) 4
    (pick (eqb o.count (pattern o.code).count)
    (pick (in_ranges (largests (limits sh)) (pattern o.code).kinds (numbers_of o)) 0 5) 5)

-- ---- 6 and 7: an old item is free, a new number is in use

-- the words that tell whether item n is in use, the operand kinds in order; a new edge by its second half
abbrev pub use_words : Shape → List ℕ → ℕ → List ℕ
use_words sh x n =
    0 ∷ solid_used sh x n ∷ solid_used sh x n ∷ solid_used sh x n ∷ face_solid sh x n ∷ face_solid sh x n
    ∷ loop_face sh x n
    ∷ loop_face sh x n
    ∷ start_of sh x (2 * n) ∷ start_of sh x n ∷ start_of sh x n ∷ vertex_used sh x n ∷ []

-- the one of a kind
unfoldable pub use_word : Shape → List ℕ → ℕ → ℕ → ℕ
use_word sh x kind n = get_or (use_words sh x n) kind 0

-- the refusal of a kind of operand whose item is free, and of one whose item is in use, the kinds in order
abbrev pub when_free : List ℕ
when_free = 0 ∷ 6 ∷ 0 ∷ 0 ∷ 6 ∷ 0 ∷ 6 ∷ 0 ∷ 0 ∷ 6 ∷ 6 ∷ 0 ∷ []

abbrev pub when_used : List ℕ
when_used = 0 ∷ 0 ∷ 7 ∷ 7 ∷ 0 ∷ 7 ∷ 0 ∷ 7 ∷ 7 ∷ 0 ∷ 0 ∷ 7 ∷ []

-- an operand 0 names no item
unfoldable pub use_refusal : Shape → List ℕ → ℕ → ℕ → ℕ
use_refusal sh x kind n =
    pick (eqb n 0) 0 (pick (eqb (use_word sh x kind n) 0) (get_or when_free kind 0) (get_or when_used kind 0))

-- the first refusal of the operands of these kinds from place i on
unfoldable pub use_refusals : Shape → List ℕ → Operator → List ℕ → ℕ → ℕ
use_refusals sh x o [] i = 0
use_refusals sh x o (k ∷ ks) i =
    pick (eqb (use_refusal sh x k (item_of o i)) 0) (use_refusals sh x o ks (i + 1)) (use_refusal sh x k (item_of o i))

-- ---- 8, effect and inverse by code: lists from code 0, which is none, to 13; `a` are the operands as items

-- the conditions that document 01 writes for the codes
abbrev pub conditions : Shape → List ℕ → (ℕ → ℕ) → List Bool
conditions sh x a =
    true ∷ true ∷ kvsf_test sh x (a 0) ∷ mev_test sh x (a 0) (a 1) ∷ kev_test sh x (a 0)
    ∷ mef_test sh x (a 0) (a 1) (a 2) (a 6)
    ∷ kef_test sh x (a 0) ∷ kemr_test sh x (a 0) ∷ mekr_test sh x (a 0) (a 1) (a 2) (a 3) ∷ kfmrh_test sh x (a 0) (a 1)
    ∷ mfkrh_test sh x (a 0) (a 1) (a 2) ∷ true ∷ jekv_test sh x (a 0) ∷ rmov_test sh x (a 0) (a 1) ∷ []

unfoldable pub condition : Shape → List ℕ → Operator → Bool
condition sh x o = get_or (conditions sh x (item_of o)) o.code true

-- the solid that kvsf kills: its face, that face's loop, and the loop's vertex
abbrev pub only_loop : Shape → List ℕ → ℕ → ℕ
only_loop sh x s = face_outer sh x (face_in sh x s)

abbrev pub only_vertex : Shape → List ℕ → ℕ → ℕ
only_vertex sh x s = loop_isolated sh x (only_loop sh x s)

-- what an operator's steps leave: the links afterwards but for the half-edges counted in vertex words. A vertex that is
-- made has the word 1, one that is killed 0
abbrev pub links_by : Shape → List ℕ → (ℕ → ℕ) → List (List ℕ)
links_by sh x a =
    x ∷ mvsf_links sh x (a 0) (a 1) (a 2) (a 3)
    ∷ kvsf_links sh x (a 0) (face_in sh x (a 0)) (only_loop sh x (a 0)) (only_vertex sh x (a 0))
    ∷ mev_links sh x (a 0) (a 1) (half_by (a 2) (a 4)) (a 3) ∷ kev_links sh x (a 0)
    ∷ mef_links sh x (a 0) (a 1) (a 2) (half_by (a 3) (a 6)) (a 4) (a 5) (a 6) ∷ kef_links sh x (a 0)
    ∷ kemr_links sh x (a 0) (a 1)
    ∷ mekr_links sh x (a 0) (a 1) (a 2) (a 3) (half_by (a 4) (a 5)) ∷ kfmrh_links sh x (a 0) (a 1)
    ∷ mfkrh_links sh x (a 0) (a 1) (a 2)
    ∷ semv_links sh x (a 0) (half_by (a 1) (a 3)) (a 2) ∷ jekv_links sh x (a 0) (next_of sh x (a 0))
    ∷ rmov_links sh x (a 0) (a 1) ∷ []

unfoldable pub marks_after : Shape → List ℕ → Operator → List ℕ
marks_after sh x o = get_or (links_by sh x (item_of o)) o.code x

-- the links afterwards: last of all, one less at the vertices that half-edges have left, one more where they have come
unfoldable pub links_after : Shape → List ℕ → Operator → List ℕ
links_after sh x o = more_starts sh o (less_starts sh x o (marks_after sh x o))

-- the vertex that an operator kills: of kvsf, kev and jekv; 0 for the others
abbrev pub killed : Shape → List ℕ → (ℕ → ℕ) → List ℕ
killed sh x a =
    0 ∷ 0 ∷ only_vertex sh x (a 0) ∷ 0 ∷ start_of sh x (mate (a 0)) ∷ 0 ∷ 0 ∷ 0 ∷ 0 ∷ 0 ∷ 0 ∷ 0
    ∷ start_of sh x (next_of sh x (a 0)) ∷ 0 ∷ []

unfoldable pub killed_vertex : Shape → List ℕ → Operator → ℕ
killed_vertex sh x o = get_or (killed sh x (item_of o)) o.code 0

-- the point of vertex v cleared
abbrev pub clear_point : List ℤ → ℕ → List ℤ
clear_point p v = put_point p v (pos 0) (pos 0) (pos 0)

-- the points afterwards: a new vertex gets the operator's, a killed one's, v, is cleared
abbrev pub points_by : List ℤ → Operator → (ℕ → ℕ) → ℕ → List (List ℤ)
points_by p o a v =
    p ∷ point_to p o (a 3) 4 ∷ clear_point p v ∷ point_to p o (a 3) 5 ∷ clear_point p v ∷ p ∷ p ∷ p ∷ p ∷ p ∷ p
    ∷ point_to p o (a 2) 4
    ∷ clear_point p v ∷ p ∷ []

unfoldable pub points_after : Shape → List ℕ → List ℤ → Operator → List ℤ
points_after sh x p o = get_or (points_by p o (item_of o) (killed_vertex sh x o)) o.code p

-- the operator that undoes it
abbrev pub inverses : Shape → List ℕ → List ℤ → (ℕ → ℕ) → List Operator
inverses sh x p a =
    blank_of 0 0 ∷ mvsf_inverse (a 0)
    ∷ kvsf_inverse p (a 0) (face_in sh x (a 0)) (only_loop sh x (a 0)) (only_vertex sh x (a 0))
    ∷ mev_inverse (half_by (a 2) (a 4)) ∷ kev_inverse sh x p (a 0) ∷ mef_inverse (mate (half_by (a 3) (a 6)))
    ∷ kef_inverse sh x (a 0)
    ∷ kemr_inverse sh x (a 0) (a 1) ∷ mekr_inverse (half_by (a 4) (a 5)) (a 2) ∷ kfmrh_inverse sh x (a 0) (a 1)
    ∷ mfkrh_inverse sh x (a 0) (a 1)
    ∷ semv_inverse (a 0) ∷ jekv_inverse sh x p (a 0) (next_of sh x (a 0)) ∷ rmov_inverse sh x (a 0) (a 1) ∷ []

unfoldable pub inverse : Shape → List ℕ → List ℤ → Operator → Operator
inverse sh x p o = get_or (inverses sh x p (item_of o)) o.code (blank_of 0 0)

-- ---- the whole

-- 6, 7 or 8 of an operator whose operands are in range; 0 where it is accepted
unfoldable pub admit_of : Shape → List ℕ → Operator → ℕ
admit_of sh x o =
    pick (eqb (use_refusals sh x o (pattern o.code).kinds 0) 0) (pick (condition sh x o) 0 8)
    (use_refusals sh x o (pattern o.code).kinds 0)

-- the refusal of operator o on a table: 4, 5, 6, 7 or 8; 0 where it is accepted
unfoldable pub refusal_of : Shape → List ℕ → Operator → ℕ
refusal_of sh x o = pick (eqb (range_refusal sh o) 0) (admit_of sh x o) (range_refusal sh o)

-- what is left: the refusal, the table, and the operator that undoes it (the blank operator where it is refused)
pub record Executed : Type 0 where
  pub refusal : ℕ
  pub inverse : Operator
  pub table : Table

unfoldable pub exec : Shape → Operator → Table → Executed
exec sh o t =
    pick (eqb (refusal_of sh t.links o) 0)
    (record {
      refusal = 0;
      inverse = inverse sh t.links t.points o;
      table = record { links = links_after sh t.links o; points = points_after sh t.links t.points o };
    })
    (record { refusal = refusal_of sh t.links o; inverse = blank_of 0 0; table = t })
