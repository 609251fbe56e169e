-- "A free record is all zero" (document 01), over the table of fields: what tells whether a record is in use is its
-- first word.
use Rattle.std.specs.Prelude.{◌≡◌, false, ◌&&◌, List, ℕ, ◌≤◌, ◌<◌, eqb, ℤ}
use Rattle.std.proofs.Common.{sym, ap, ◌∙◌, subst, arith}
use Rattle.laws.specs.Bools.{split, eqb_same, true_T, false_T}
use Rattle.layout.specs.declared.shape.Shape.{Shape}
use Rattle.layout.specs.Fields.{Field, Capacity, SolidUsed, Solid, Outer, Face, First, Isolated, Start, Loop, Next}
use Rattle.layout.specs.Fields.{Prev, VertexUsed}
use Rattle.layout.specs.Fields.{Columns, group_of, word_of, group_at, cap_of, field_at, field_in, same_field}
use Rattle.sound_tables.specs.Sound.{In, Sound}

-- the first field of F's record
abbrev pub head_of : Field → Field
head_of F = field_at (group_of F) 0

-- a field that is no capacity is one of a record
pub of_record : (sh : Shape) (F : Field) → same_field Capacity F ≡ false → 1 ≤ group_of F
of_record sh F e = split (group_of F) 0
    (λ g. let h : word_of F
    < (group_at sh 0).width = subst (λ k. word_of F < (group_at sh k).width) g (field_in sh F).0 in
    absurd (false_T e (true_T (ap (λ b. b && eqb 0 (word_of F)) (eqb_same (sym g)) ∙ eqb_same (zero_below h)))))
    (λ g. omega (arith, g))
  where
    zero_below : word_of F < 1 → 0 ≡ word_of F
    zero_below h = omega arith

-- every word of a free record is 0
pub free_zero : {sh : Shape} {p : List ℤ} {c : Columns} → Sound sh p c → (F : Field) → 1 ≤ group_of F → (n : ℕ)
    → In (cap_of sh F) n
    → c (head_of F) n ≡ 0 → c F n ≡ 0
free_zero s Capacity h n i z = absurd (omega arith)
free_zero s SolidUsed h n i z = z
free_zero s Solid h n i z = z
free_zero s Outer h n i z = s.face_free n i z
free_zero s Face h n i z = z
free_zero s First h n i z = (s.loop_free n i z).0
free_zero s Isolated h n i z = (s.loop_free n i z).1
free_zero s Start h n i z = z
free_zero s Loop h n i z = (s.half_free n i z).loop
free_zero s Next h n i z = (s.half_free n i z).next
free_zero s Prev h n i z = (s.half_free n i z).prev
free_zero s VertexUsed h n i z = z
