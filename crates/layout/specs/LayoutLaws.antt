-- What keeps the code's places small, what a shape is known by, and what makes a word that is read a field.
use Rattle.std.specs.Prelude.{◌≡◌, List, ℕ, ◌*◌, ◌≤◌}
use Rattle.std.proofs.Common.{ap, ◌∙◌, mul-le-mul_left, mul_comm}
use Rattle.laws.specs.Columns.{col}
use Rattle.layout.specs.declared.shape.Shape.{Shape}
use Rattle.layout.specs.Fields.{Field, group_of, word_of, kind, group_at, column}
use Rattle.layout.specs.Layout.{shape_from}

-- a product with a width that 32 bits hold is small
pub width_bound : (w x : ℕ) → w ≤ 4294967295 → w * x ≤ 4294967295 * x
width_bound w x h = rw (mul_comm w x, mul_comm 4294967295 x) (mul-le-mul_left x h)

-- the shape of a table is known by where its records begin
pub shape_is : (s f l e v face loop half vertex : ℕ) → face ≡ (shape_from s f l e v).face0
    → loop ≡ (shape_from s f l e v).loop0
    → half ≡ (shape_from s f l e v).half0 → vertex ≡ (shape_from s f l e v).vertex0
    → record {
      solids = s;
      faces = f;
      loops = l;
      edges = e;
      vertices = v;
      face0 = face;
      loop0 = loop;
      half0 = half;
      vertex0 = vertex;
    } ≡ shape_from s f l e v
shape_is s f l e v face loop half vertex a b c d = rw (a, b, c, d)

-- word j of record n is field F of it where base, width and word are those of the field
pub read_field : (sh : Shape) (F : Field) (base width j : ℕ) (x : List ℕ) (n r : ℕ)
    → r ≡ col (kind base width) j x n → base ≡ (group_at sh (group_of F)).base
    → width ≡ (group_at sh (group_of F)).width
    → j ≡ word_of F → r ≡ column sh F x n
read_field sh F base width j x n r e b w k =
    let κ = group_at sh (group_of F) in
    e ∙ ap (λ a. col (kind a width) j x n) b ∙ ap (λ a. col (kind κ.base a) j x n) w
    ∙ ap (λ a. col (kind κ.base κ.width) a x n) k
