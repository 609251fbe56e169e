-- Two tables that differ in vertex words alone: the second shows the columns of the first with its own vertex words,
-- and these are sound. So a law about any columns that a table shows compares the two.
use Rattle.std.specs.Prelude.{◌≡◌, refl, false, List, ℕ, ℤ, length}
use Rattle.std.proofs.Common.{sym, ◌∙◌, subst, ⊎_elim}
use Rattle.laws.specs.Bools.{ask}
use Rattle.laws.specs.Columns.{Chained}
use Rattle.layout.specs.declared.shape.Shape.{Shape}
use Rattle.layout.specs.Fields.{Field, VertexUsed, Columns, groups, same_field, same_field_lem}
use Rattle.sound_tables.specs.Cells.{Shows}
use Rattle.sound_tables.specs.Sound.{SameElse, Sound, sound_alike}
use Rattle.sound_tables.specs.Good.{own, Marked, marked_shows}
use Rattle.sound_tables.specs.WriteLaws.{with_column, column_off}

-- what x shows, y shows with its own vertex words
pub shows_worded : {sh : Shape} {x y : List ℕ} {c : Columns} → Shows sh x c → Chained 0 (groups sh) (length y)
    → SameElse sh (own sh x) (own sh y) → Shows sh y (with_column c VertexUsed (own sh y VertexUsed))
shows_worded {sh} {x} {y} {c} s fit e = record {
  fit = fit;
  at = λ F n i. ⊎_elim
      (λ t. subst (λ G. own sh y G n ≡ with_column c VertexUsed (own sh y VertexUsed) G n)
      (same_field_lem VertexUsed F t)
      refl)
      (λ t. e F t n i ∙ s.at F n i ∙ sym (column_off c VertexUsed (own sh y VertexUsed) F t n))
      (ask (same_field VertexUsed F));
}

-- the columns of x with the vertex words of y
abbrev pub mixed : Shape → List ℕ → List ℕ → Columns
mixed sh x y = with_column (own sh x) VertexUsed (own sh y VertexUsed)

-- the other words are those of x
pub mixed_else : (sh : Shape) (x y : List ℕ) (F : Field) → same_field VertexUsed F ≡ false → (n : ℕ)
    → mixed sh x y F n ≡ own sh x F n
mixed_else sh x y = column_off (own sh x) VertexUsed (own sh y VertexUsed)

module _ {sh : Shape} {x y : List ℕ} {p q : List ℤ} (g : Marked sh x p) (h : Marked sh y q)
    (e : SameElse sh (own sh x) (own sh y)) where
  -- y shows these columns
  pub mixed_shows : Shows sh y (mixed sh x y)
  mixed_shows = shows_worded (marked_shows g) h.fit e

  -- and they are sound
  pub mixed_sound : Sound sh q (mixed sh x y)
  mixed_sound = sound_alike sh q (λ F t n i. mixed_else sh x y F t n ∙ sym (e F t n i)) (λ v i. (λ r. r, λ r. r))
      h.sound
