-- The links with other words of vertices: what `one_less` and `one_more` leave, seen through the columns, and that a
-- list
-- is settled by its words and its other columns.
use Rattle.std.specs.Prelude.{◌≡◌, refl, ◌⊎◌, true, List, ℕ, ◌+◌, ◌-◌, ◌≤◌, ◌<◌, eqb, ltb, length}
use Rattle.std.proofs.Common.{sym, ap, ◌∙◌, subst, inl, inr, ⊎_elim, arith, lt→ltb}
use Rattle.laws.specs.Bools.{split, ask, T_true, eqb_same, eqb_other}
use Rattle.laws.specs.Sums.{bit, bit_le}
use Rattle.laws.specs.Update.{upd, upd_same, upd_off}
use Rattle.laws.specs.Columns.{Chained}
use Rattle.layout.specs.declared.shape.Shape.{Shape}
use Rattle.layout.specs.Layout.{set_vertex_used}
use Rattle.layout.specs.Fields.{VertexUsed, cap_of, same_field, same_field_lem, groups}
use Rattle.euler.specs.declared.records.Two.{Two}
use Rattle.euler.specs.Valence.{one_less, one_more, less_at, more_at}
use Rattle.sound_tables.specs.Cells.{shows_own, shows_put, shows_ext}
use Rattle.sound_tables.specs.Sound.{In, SameElse}
use Rattle.sound_tables.specs.Good.{own}
use Rattle.sound_tables.specs.Balance.{times, times_none}

-- y is x but for the words of the vertices, which are f
pub record Reworded (sh : Shape) (x y : List ℕ) (f : ℕ → ℕ) : Type 0 where
  pub fit : Chained 0 (groups sh) (length y)
  pub else : SameElse sh (own sh x) (own sh y)
  pub word : (w : ℕ) → In sh.vertices w → own sh y VertexUsed w ≡ f w

-- a list is settled by its words and its other columns
pub reworded_same : {sh : Shape} {x y z : List ℕ} {f g : ℕ → ℕ} → Reworded sh x y f → Reworded sh x z g
    → ((w : ℕ) → In sh.vertices w → f w ≡ g w) → y ≡ z
reworded_same {sh} {x} {y} {z} a b e =
    shows_ext (shows_own sh y a.fit) (shows_own sh z b.fit) (λ F n i j. ⊎_elim
    (λ s. subst (λ G. n ≤ cap_of sh G → own sh y G n ≡ own sh z G n) (same_field_lem VertexUsed F s)
    (λ u. a.word n (i, u) ∙ e n (i, u) ∙ sym (b.word n (i, u))) j)
    (λ s. a.else F s n j ∙ sym (b.else F s n j)) (ask (same_field VertexUsed F)))

-- nothing changes
pub same_words : {sh : Shape} {x : List ℕ} → Chained 0 (groups sh) (length x) → Reworded sh x x (own sh x VertexUsed)
same_words fit = record { fit = fit; else = λ F t n i. refl; word = λ w i. refl }

-- one change after the other
pub then_words : {sh : Shape} {x y z : List ℕ} {f g : ℕ → ℕ} → Reworded sh x y f → Reworded sh y z g → Reworded sh x z g
then_words a b = record {
  fit = b.fit;
  else = λ F t n i. b.else F t n i ∙ a.else F t n i;
  word = b.word;
}

-- the words in other terms
pub words_are : {sh : Shape} {x y : List ℕ} {f g : ℕ → ℕ} → Reworded sh x y f
    → ((w : ℕ) → In sh.vertices w → f w ≡ g w) → Reworded sh x y g
words_are a e = record { fit = a.fit; else = a.else; word = λ w i. a.word w i ∙ e w i }

-- no vertex, or one that the table can have
abbrev pub NoneOrIn : Shape → ℕ → Type 0
NoneOrIn sh v = (v ≡ 0) ⊎ In sh.vertices v

module _ {sh : Shape} {x : List ℕ} (fit : Chained 0 (groups sh) (length x)) where
  -- the word of vertex v becomes n
  pub stored : (v n : ℕ) → In sh.vertices v
      → Reworded sh x (set_vertex_used sh x v n) (upd (own sh x VertexUsed) v n)
  stored v n i = let s = shows_put (shows_own sh x fit) VertexUsed v n i.0 i.1 in record {
    fit = s.fit;
    else = λ F t m j. s.at F m j ∙ rw t;
    word = λ w j. s.at VertexUsed w j.1;
  }

  -- nothing is stored for no vertex
  unstored : (v : ℕ) {f : ℕ → ℕ} → v ≡ 0 → ((w : ℕ) → In sh.vertices w → own sh x VertexUsed w ≡ f w)
      → (n : ℕ) → Reworded sh x (set_vertex_used sh x v n) f
  unstored v z e n = rw z (words_are (same_words fit) e)

  -- one less at v
  pub less_one : (v : ℕ) → NoneOrIn sh v → Reworded sh x (one_less sh x v) (λ w. own sh x VertexUsed w - bit (eqb v w))
  less_one v (inl z) = unstored v z
      (λ w i. let e = times_none w i.0 in rw (z, e) (omega arith)) (own sh x VertexUsed v - 1)
  less_one v (inr i) = words_are (stored v (own sh x VertexUsed v - 1) i) (λ w j. split w v
      (λ e. rw e (upd_same _ v _ ∙ ap (λ b. own sh x VertexUsed v - bit b) (sym (eqb_same {m = v} refl))))
      (λ d. upd_off _ _ d ∙ sym (ap (λ b. own sh x VertexUsed w - bit b) (eqb_other (λ e. d (sym e))) ∙ omega arith)))

  -- one more at v, whose word is not full
  pub more_one : (v : ℕ) → NoneOrIn sh v → own sh x VertexUsed v < 65535
      → Reworded sh x (one_more sh x v) (λ w. own sh x VertexUsed w + bit (eqb v w))
  more_one v k low =
      let t : ltb (own sh x VertexUsed v) 65535 ≡ true = T_true (lt→ltb (own sh x VertexUsed v) 65535 low) in
      rw t (⊎_elim
      (λ z. unstored v z (λ w i. let e = times_none w i.0 in rw (z, e) (omega arith)) (own sh x VertexUsed v + 1))
      (λ i. words_are (stored v (own sh x VertexUsed v + 1) i) (λ w j. split w v
      (λ e. rw e (upd_same _ v _ ∙ ap (λ b. own sh x VertexUsed v + bit b) (sym (eqb_same {m = v} refl))))
      (λ d. upd_off _ _ d
      ∙ sym (ap (λ b. own sh x VertexUsed w + bit b) (eqb_other (λ e. d (sym e))) ∙ omega arith)))) k)

-- ---- at two vertices

module _ {sh : Shape} {x : List ℕ} (fit : Chained 0 (groups sh) (length x)) (t : Two) (one : NoneOrIn sh t.one)
    (other : NoneOrIn sh t.other) where
  -- one less at each
  pub less_two : Reworded sh x (less_at sh x t) (λ w. own sh x VertexUsed w - times t w)
  less_two =
      let a = less_one fit t.one one in
      words_are (then_words a (less_one a.fit t.other other))
      (λ w i. ap (λ n. n - bit (eqb t.other w)) (a.word w i) ∙ omega arith)

  -- one more at each: no word is full
  pub more_two : ((w : ℕ) → w ≤ sh.vertices → own sh x VertexUsed w < 65534)
      → Reworded sh x (more_at sh x t) (λ w. own sh x VertexUsed w + times t w)
  more_two low =
      let a = more_one {x = x} fit t.one one (let h = low t.one (cap one) in omega (arith, h)) in
      let b = more_one {x = one_more sh x t.one} a.fit t.other other (⊎_elim
      (λ z. rw z (omega arith))
      (λ i. let h = low t.other i.1 in omega (arith, h, a.word t.other i, bit_le (eqb t.one t.other)))
      other) in
      words_are (then_words a b) (λ w i. ap (λ n. n + bit (eqb t.other w)) (a.word w i) ∙ omega arith)
    where
      -- at most as many as there are
      cap : {v : ℕ} → NoneOrIn sh v → v ≤ sh.vertices
      cap (inl z) = omega (arith, z)
      cap (inr i) = i.1
