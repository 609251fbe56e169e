-- A solid as kvsf takes it.
use Rattle.std.specs.Prelude.{◌≡◌, ℕ, ◌<◌, List}
use Rattle.layout.specs.declared.shape.Shape.{Shape}
use Rattle.layout.specs.Items.{face_in}
use Rattle.euler.specs.Exec.{only_loop, only_vertex}
use Rattle.euler_lone.specs.declared.lone.LoneSolid.{LoneSolid}

-- t is solid s with its least face, that face's outer loop and the vertex at which this is isolated
pub record IsLone (sh : Shape) (x : List ℕ) (s : ℕ) (t : LoneSolid) : Type 0 where
  pub solid : t.solid ≡ s
  pub face : t.face ≡ face_in sh x s
  pub outer : t.outer ≡ only_loop sh x s
  pub vertex : t.vertex ≡ only_vertex sh x s
  pub solid_small : t.solid < 65536
  pub face_small : t.face < 65536
  pub outer_small : t.outer < 65536
  pub vertex_small : t.vertex < 65536

-- the same for any s, without the bound on the solid's own number
pub record IsLoneOfAny (sh : Shape) (x : List ℕ) (s : ℕ) (t : LoneSolid) : Type 0 where
  pub solid : t.solid ≡ s
  pub face : t.face ≡ face_in sh x s
  pub outer : t.outer ≡ only_loop sh x s
  pub vertex : t.vertex ≡ only_vertex sh x s
  pub face_small : t.face < 65536
  pub outer_small : t.outer < 65536
  pub vertex_small : t.vertex < 65536
