-- The tests of one solid and of one vertex that read arrays too, made by a pass over the records that name it.
use Rattle.std.specs.Prelude.{ℕ, ◌+◌, Bool, ◌&&◌, ◌||◌, List, eqb, get_or}
use Rattle.layout.specs.declared.shape.Shape.{Shape}
use Rattle.layout.specs.Layout.{solid_used, vertex_used}
use Rattle.layout.specs.Items.{some}
use Rattle.check_items.specs.Rules.{where_some}

-- solid s is free or has an entry in `a`, its least face
unfoldable pub solid_named_by : Shape → List ℕ → List ℕ → ℕ → Bool
solid_named_by sh x a s = where_some (solid_used sh x s) (some (get_or a s 0))

-- vertex v is free, or its word is 1 plus its entry in `b`, the number of half-edges that start there, and it has 1 in
-- `a`, the number of loops in which it is isolated, and 0 in `b`, or 0 and some
unfoldable pub vertex_either_by : Shape → List ℕ → List ℕ → List ℕ → ℕ → Bool
vertex_either_by sh x a b v =
    where_some (vertex_used sh x v)
    (eqb (vertex_used sh x v) (1 + get_or b v 0)
    && ((eqb (get_or a v 0) 1 && eqb (get_or b v 0) 0) || (eqb (get_or a v 0) 0 && some (get_or b v 0))))
