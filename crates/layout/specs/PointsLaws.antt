-- What the code's places of a point come to: those of records from word 0 on, which the code does not add.
use Rattle.std.specs.Prelude.{◌≡◌, refl, ℕ, ◌+◌, ◌-◌, ◌*◌, ◌≤◌, List, ℤ, pos, length, get_or, set}
use Rattle.std.proofs.Common.{sym, ap, ◌∙◌, zero-add}
use Rattle.std.proofs.Math.ListN.{get_or-eq_default}
use Rattle.laws.specs.Columns.{col_at, store_at}
use Rattle.layout.specs.Points.{point_width, coordinate, set_coordinate}

-- the place written with v - 1
pub coordinate_at : (p : List ℤ) (v i : ℕ) → (v ≡ 0 → ⊥)
    → get_or p (point_width * (v - 1) + i) (pos 0) ≡ coordinate p v i
coordinate_at p v i h =
    ap (λ k. get_or p (k + i) (pos 0)) (sym (zero-add (point_width * (v - 1)))) ∙ col_at (pos 0) 0 point_width i p v h

pub set_coordinate_at : (p : List ℤ) (v i : ℕ) (c : ℤ) → (v ≡ 0 → ⊥)
    → set p (point_width * (v - 1) + i) c ≡ set_coordinate p v i c
set_coordinate_at p v i c h =
    ap (λ k. set p (k + i) c) (sym (zero-add (point_width * (v - 1)))) ∙ store_at 0 point_width i p v c h

-- vertex 0 is none
pub no_vertex : (p : List ℤ) (v i : ℕ) → v ≡ 0 → pos 0 ≡ coordinate p v i
no_vertex p v i e = rw e refl

-- past the end
pub no_coordinate : (p : List ℤ) (v i : ℕ) → (v ≡ 0 → ⊥) → length p ≤ point_width * (v - 1) + i
    → pos 0 ≡ coordinate p v i
no_coordinate p v i h l = sym (get_or-eq_default p (pos 0) l) ∙ coordinate_at p v i h
