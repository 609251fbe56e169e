-- Items of a table: whether they are in use, the least face of a solid, and rings.
use Rattle.std.specs.Prelude.{ℕ, Bool, not, List, eqb}
use Rattle.laws.specs.Search.{least}
use Rattle.layout.specs.declared.shape.Shape.{Shape}
use Rattle.layout.specs.Layout.{face_solid, face_outer, loop_face, start_of}

-- a number is there
abbrev pub some : ℕ → Bool
some n = not (eqb n 0)

-- a face, a loop or a half-edge is in use when its first word is not 0
abbrev pub face_used : Shape → List ℕ → ℕ → Bool
face_used sh x f = some (face_solid sh x f)

abbrev pub loop_used : Shape → List ℕ → ℕ → Bool
loop_used sh x l = some (loop_face sh x l)

abbrev pub half_used : Shape → List ℕ → ℕ → Bool
half_used sh x k = some (start_of sh x k)

-- the least face of solid s, or 0
abbrev pub face_in : Shape → List ℕ → ℕ → ℕ
face_in sh x s = least sh.faces (λ f. eqb (face_solid sh x f) s)

-- a ring: a loop that is not its face's outer loop (asked of a loop in use; of a free one it says true)
abbrev pub is_ring : Shape → List ℕ → ℕ → Bool
is_ring sh x l = not (eqb (face_outer sh x (loop_face sh x l)) l)
