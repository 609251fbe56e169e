-- What the operators ask of a table: counts and neighbours.
use Rattle.std.specs.Prelude.{ℕ, List, eqb}
use Rattle.laws.specs.Sums.{count_to}
use Rattle.layout.specs.declared.shape.Shape.{Shape}
use Rattle.layout.specs.Layout.{face_solid, loop_face, loop_first, loop_of}

-- how many faces solid s has
abbrev pub faces_in : Shape → List ℕ → ℕ → ℕ
faces_in sh x s = count_to sh.faces (λ f. eqb (face_solid sh x f) s)

-- how many loops face f has
abbrev pub loops_in : Shape → List ℕ → ℕ → ℕ
loops_in sh x f = count_to sh.loops (λ l. eqb (loop_face sh x l) f)

-- the first of half-edge k's loop
abbrev pub first_by : Shape → List ℕ → ℕ → ℕ
first_by sh x k = loop_first sh x (loop_of sh x k)
