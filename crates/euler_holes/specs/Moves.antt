-- What passes: faces to another solid, all of them or those of one shell; a loop to another face.
use Rattle.std.specs.Prelude.{ℕ, List}
use Rattle.laws.specs.Bools.{pick}
use Rattle.layout.specs.declared.shape.Shape.{Shape}
use Rattle.layout.specs.Fields.{Solid, face_kind, sweep_field}
use Rattle.layout.specs.Layout.{set_solid_used, set_loop_face}
use Rattle.layout.specs.Writes.{cleared, writes}
use Rattle.check_shells.specs.Shells.{one_root}
use Rattle.euler.specs.FaceOperators.{move_faces}

-- the solids of the faces 1 to n become g of the face and its old solid
abbrev pub sweep_faces : Shape → ℕ → (ℕ → ℕ → ℕ) → List ℕ → List ℕ
sweep_faces sh n g x = sweep_field sh Solid n g x

-- a face with the root of face f passes to solid s
abbrev pub by_root : Shape → List ℕ → ℕ → ℕ → ℕ → ℕ → ℕ
by_root sh p f s g old = pick (one_root sh.faces p f g) s old

-- all faces with the root of face f pass to solid s
unfoldable pub move_shell : Shape → List ℕ → List ℕ → ℕ → ℕ → List ℕ
move_shell sh x p f s = sweep_faces sh sh.faces (by_root sh p f s) x

-- all faces of solid s pass to solid t, and s is killed unless it is t
abbrev pub join_solids : Shape → List ℕ → ℕ → ℕ → List ℕ
join_solids sh x s t = set_solid_used sh (set_solid_used sh (move_faces sh x s t) s 0) t 1

-- loop l of face g passes to face f, and g is killed
abbrev pub give_loop : Shape → List ℕ → ℕ → ℕ → ℕ → List ℕ
give_loop sh x l f g = writes sh (cleared face_kind g) (set_loop_face sh x l f)
