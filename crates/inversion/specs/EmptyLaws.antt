-- Where no solid is in use, nothing is: the table is as clearing leaves it.
use Rattle.std.specs.Prelude.{◌≡◌, Bool, true, false, ◌||◌, List, [], ◌∷◌, ℕ, zero, suc, ◌-◌, ◌*◌, ◌≤◌, ◌<◌, ℤ, pos}
use Rattle.std.specs.Prelude.{length}
use Rattle.std.proofs.Common.{sym, ap, ◌∙◌, subst, arith}
use Rattle.std.proofs.lemmas.List.{length-replicate}
use Rattle.laws.specs.Bools.{split, eqb_same}
use Rattle.laws.specs.Columns.{Chained}
use Rattle.layout.specs.declared.shape.Shape.{Shape}
use Rattle.layout.specs.Points.{points_length}
use Rattle.layout.specs.Layout.{links_length}
use Rattle.table.specs.Clear.{empty_links, empty_points}
use Rattle.layout.specs.Fields.{Field, group_of, groups, group_at, cap_of, head, field_at, field_in, same_field}
use Rattle.layout.specs.Fields.{by_fields}
use Rattle.layout.specs.Fields.{Capacity, SolidUsed, Solid, Face, Start, Loop, VertexUsed}
use Rattle.layout.specs.Items.{some}
use Rattle.sound_tables.specs.FreeRecords.{of_record, free_zero}
use Rattle.sound_tables.specs.Sound.{In, VertexSound, alone, joined}
use Rattle.sound_tables.specs.Cells.{shows_own, shows_ext}
use Rattle.sound_tables.specs.PointLists.{points_ext}
use Rattle.sound_tables.specs.ClearSound.{word_0, zero_coordinate}
use Rattle.sound_tables.specs.Good.{Good, own, good_shows}
use Rattle.takedown.specs.Inversion.{solid_at}
use Rattle.inversion.specs.Counts.{count_none}
use Rattle.inversion.specs.Same.{words, solids_is, faces_is, loops_is, edges_is, vertices_is}
use Rattle.inversion.specs.OfSolid.{least_no, not_some}
use Rattle.inversion.specs.Turn.{Empty, EmptyTable}

-- words that are all 0
pub words_none : (n : ℕ) (f : ℕ → ℕ) → ((k : ℕ) → In n k → f k ≡ 0) → words n f ≡ 0
words_none n f h = count_none n (λ k. some (f k)) (λ k a b. rw (eqb_same (h k (a, b))))

-- the empty table of a shape
abbrev empty_of : Shape → List ℕ
empty_of sh = empty_links sh.solids sh.faces sh.loops sh.edges sh.vertices

module _ (sh : Shape) (x : List ℕ) (p : List ℤ) (g : Good sh x p) (z : solid_at sh x ≡ 0) where
  -- the empty table of the same capacities
  abbrev y : List ℕ
  y = empty_of sh

  -- ---- nothing is in use

  solid_0 : (n : ℕ) → In sh.solids n → own sh x SolidUsed n ≡ 0
  solid_0 n i = not_some _ (least_no sh.solids (λ s. some (own sh x SolidUsed s)) z n i)

  face_0 : (n : ℕ) → In sh.faces n → own sh x Solid n ≡ 0
  face_0 n i = split (own sh x Solid n) 0 (λ e. e) (λ d. let F = g.sound.face n i d in
      absurd (F.solid_used_lem (solid_0 (own sh x Solid n) F.solid_in)))

  loop_0 : (n : ℕ) → In sh.loops n → own sh x Face n ≡ 0
  loop_0 n i = split (own sh x Face n) 0 (λ e. e) (λ d. let L = g.sound.loop n i d in
      absurd (L.face_used (face_0 (own sh x Face n) L.face_in_lem)))

  half_0 : (n : ℕ) → In (2 * sh.edges) n → own sh x Start n ≡ 0
  half_0 n i = split (own sh x Start n) 0 (λ e. e) (λ d. let H = g.sound.half n i d in
      absurd (H.loop_used (loop_0 (own sh x Loop n) H.loop_in)))

  vertex_0 : (n : ℕ) → In sh.vertices n → own sh x VertexUsed n ≡ 0
  vertex_0 n i = split (own sh x VertexUsed n) 0 (λ e. e) (λ d. by (g.sound.vertex n i d))
    where
      by : VertexSound sh (own sh x) n → own sh x VertexUsed n ≡ 0
      by (alone l j e u w) = absurd (omega (arith, i.0, sym e ∙ (g.sound.loop_free l j (loop_0 l j)).1))
      by (joined w k j e) = absurd (omega (arith, i.0, sym e ∙ half_0 k j))

  -- no record of any kind is in use, so every word behind the capacities is 0
  head_0 : (k : ℕ) → 1 ≤ k → k < 6 → (n : ℕ) → In (group_at sh k).count n → own sh x (field_at k 0) n ≡ 0
  head_0 zero l u n i = absurd (omega arith)
  head_0 (suc zero) l u n i = solid_0 n i
  head_0 (suc (suc zero)) l u n i = face_0 n i
  head_0 (suc (suc (suc zero))) l u n i = loop_0 n i
  head_0 (suc (suc (suc (suc zero)))) l u n i = half_0 n i
  head_0 (suc (suc (suc (suc (suc zero))))) l u n i = vertex_0 n i
  head_0 (suc (suc (suc (suc (suc (suc k)))))) l u n i = absurd (omega arith)

  old_0 : (F : Field) → 1 ≤ group_of F → (n : ℕ) → In (cap_of sh F) n → own sh x F n ≡ 0
  old_0 F h n i = free_zero g.sound F h n i (head_0 (group_of F) h (field_in sh F).1 n i)

  -- as in the empty table
  new_0 : (F : Field) → 1 ≤ group_of F → (n : ℕ) → own sh y F n ≡ 0
  new_0 F h n = subst (λ (e : Shape). own e (empty_of e) F n ≡ 0) (sym g.shape) (word_0 _ _ _ _ _ F h n)

  -- whose capacities are these
  same_capacity : (n : ℕ) → 1 ≤ n → n ≤ 5 → own sh x Capacity n ≡ own sh y Capacity n
  same_capacity zero l u = absurd (omega arith)
  same_capacity (suc zero) l u = sym (ap (λ (h : Shape). h.solids) g.shape)
  same_capacity (suc (suc zero)) l u = sym (ap (λ (h : Shape). h.faces) g.shape)
  same_capacity (suc (suc (suc zero))) l u = sym (ap (λ (h : Shape). h.loops) g.shape)
  same_capacity (suc (suc (suc (suc zero)))) l u = sym (ap (λ (h : Shape). h.edges) g.shape)
  same_capacity (suc (suc (suc (suc (suc zero))))) l u = sym (ap (λ (h : Shape). h.vertices) g.shape)
  same_capacity (suc (suc (suc (suc (suc (suc n)))))) l u = absurd (omega arith)

  same_word : (F : Field) (n : ℕ) → 1 ≤ n → n ≤ cap_of sh F → own sh x F n ≡ own sh y F n
  same_word = by_fields (Capacity ∷ []) (λ F. (n : ℕ) → 1 ≤ n → n ≤ cap_of sh F → own sh x F n ≡ own sh y F n)
      (same_capacity, tt)
      (λ F e n l u. let h = of_record sh F (only (same_field Capacity F) e) in old_0 F h n (l, u) ∙ sym (new_0 F h n))
    where
      -- the test of a list of one
      only : (b : Bool) → (b || false) ≡ false → b ≡ false
      only true e = e
      only false e = e

  -- the empty table is as long
  fits : Chained 0 (groups sh) (length (empty_of sh))
  fits =
      let c = g.fit in
      let r = links_length sh.solids sh.faces sh.loops sh.edges sh.vertices - head in (
        c.0,
        c.1,
        (
          c.2.0,
          c.2.1,
          (
            c.2.2.0,
            c.2.2.1,
            (
              c.2.2.2.0,
              c.2.2.2.1,
              (
                c.2.2.2.2.0,
                c.2.2.2.2.1,
                (
                  c.2.2.2.2.2.0,
                  c.2.2.2.2.2.1,
                  omega (arith, length-replicate {A = ℕ} r 0),
                ),
              ),
            ),
          ),
        ),
      )

  empty_at : Empty sh x p
  empty_at = record {
    links = shows_ext (good_shows g) (shows_own sh (empty_of sh) fits) same_word;
    points = points_ext sh.vertices p (empty_points sh.vertices) g.points
        (length-replicate (points_length sh.vertices) (pos 0))
        (λ v i j h. (g.sound.point v i).zero (vertex_0 v i) j h
        ∙ sym (zero_coordinate (points_length sh.vertices) v j));
    no_solids = solids_is sh x ∙ words_none sh.solids _ solid_0;
    no_faces = faces_is sh x ∙ words_none sh.faces _ face_0;
    no_loops = loops_is sh x ∙ words_none sh.loops _ loop_0;
    no_edges = edges_is sh x
        ∙ words_none sh.edges _ (λ n i. half_0 (2 * n) (omega (arith, i.0), omega (arith, i.1)));
    no_vertices = vertices_is sh x ∙ words_none sh.vertices _ vertex_0;
  }

pub empty_table : EmptyTable
empty_table sh x p g z = empty_at sh x p g z
