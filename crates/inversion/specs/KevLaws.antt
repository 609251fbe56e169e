-- kev, where k is followed by its mate: one edge and one vertex fewer, all else counted the same.
use Rattle.std.specs.Prelude.{◌≡◌, refl, ◌≢◌, List, [], ◌∷◌, ℕ, suc, ◌*◌, ℤ}
use Rattle.std.proofs.Common.{sym, ap, ◌∙◌, subst, inl, inr}
use Rattle.laws.specs.Bools.{split}
use Rattle.laws.specs.Update.{upd_same, upd_off}
use Rattle.layout.specs.declared.shape.Shape.{Shape}
use Rattle.layout.specs.Mate.{mate}
use Rattle.euler.specs.Exec.{marks_after, links_after, inverse}
use Rattle.layout.specs.Fields.{SolidUsed, Solid, Face, Start, Next, VertexUsed}
use Rattle.sound_tables.specs.Sound.{In, HalfUsed}
use Rattle.sound_tables.specs.Cells.{Shows}
use Rattle.sound_tables.specs.WriteLaws.{with_column}
use Rattle.sound_tables.specs.Good.{Good, own, marked}
use Rattle.sound_spurs.specs.Relation.{spur_of, in_k, in_b, used_b, far_in, far_used}
use Rattle.sound_spurs.specs.KevSound.{Left, kev_columns, out_start_k, out_start_b}
use Rattle.sound_spurs.specs.KevAccepted.{kev_links_lem, kev_accepted, kev_shows}
use Rattle.sound_valence.specs.Kept.{links_shown}
use Rattle.takedown.specs.Inversion.{kev}
use Rattle.inversion.specs.Path.{joins_in}
use Rattle.inversion.specs.Counts.{solids, faces, loops, edges, vertices, strays}
use Rattle.inversion.specs.Same.{words_same, words_fewer, solids_is, faces_is, vertices_is, loops_same}
use Rattle.inversion.specs.Same.{strays_same, vertices_by_marks}
use Rattle.inversion.specs.EdgeOut.{edge_fewer}

-- the table afterwards, as it is counted
pub record KevLaw (sh : Shape) (x y : List ℕ) (k : ℕ) : Type 0 where
  pub mark : (n : ℕ) → In sh.solids n → own sh y SolidUsed n ≡ own sh x SolidUsed n
  pub solid : (n : ℕ) → In sh.faces n → own sh y Solid n ≡ own sh x Solid n
  pub face : (n : ℕ) → In sh.loops n → own sh y Face n ≡ own sh x Face n
  pub gone_k : own sh y Start k ≡ 0
  pub gone_b : own sh y Start (mate k) ≡ 0
  pub start_kept : (i : ℕ) → In (2 * sh.edges) i → own sh x Start i ≡ 0 → own sh y Start i ≡ 0
  pub same_solids : solids sh y ≡ solids sh x
  pub same_faces : faces sh y ≡ faces sh x
  pub same_loops : loops sh y ≡ loops sh x
  pub same_strays : strays sh y ≡ strays sh x
  pub fewer_edges : suc (edges sh y) ≡ edges sh x
  pub fewer_vertices : suc (vertices sh y) ≡ vertices sh x

-- kev is undone by mev, which joins no faces
pub kev_joins : (sh : Shape) (x : List ℕ) (p : List ℤ) (k : ℕ) → joins_in sh x p (kev k ∷ []) ≡ 0
unfolding inverse
kev_joins sh x p k = refl

module _ {sh : Shape} {x : List ℕ} {p : List ℤ} (g : Good sh x p) {k : ℕ} (uk : HalfUsed sh (own sh x) k)
    (nk : own sh x Next k ≡ mate k) where
  module _ {I : ℕ} (left : Left (own sh x) k I) where
    -- the columns afterwards
    marks_shown : Shows sh (marks_after sh x (kev k)) (kev_columns sh (own sh x) k I)
    marks_shown = subst (λ t. Shows sh t (kev_columns sh (own sh x) k I)) (sym (kev_links_lem (marked g) uk nk))
        (kev_shows (marked g) uk nk left)

    -- with the words of vertices
    pub kev_shown : Shows sh (links_after sh x (kev k)) (with_column (kev_columns sh (own sh x) k I) VertexUsed
        (own sh (links_after sh x (kev k)) VertexUsed))
    kev_shown = links_shown (kev k) g refl (kev_accepted (marked g) uk nk) marks_shown

    law_at : KevLaw sh x (links_after sh x (kev k)) k
    law_at =
        let v = kev_shown in
        let sp = spur_of (marked g) uk nk in
        let mark : (n : ℕ) → In sh.solids n → own sh (links_after sh x (kev k)) SolidUsed n ≡ own sh x SolidUsed n =
        λ n i. v.at SolidUsed n i.1 in
        let solid : (n : ℕ) → In sh.faces n → own sh (links_after sh x (kev k)) Solid n ≡ own sh x Solid n =
        λ n i. v.at Solid n i.1 in
        let face : (n : ℕ) → In sh.loops n → own sh (links_after sh x (kev k)) Face n ≡ own sh x Face n =
        λ n i. v.at Face n i.1 in
        let other : (i : ℕ) → In (2 * sh.edges) i → i ≢ k → i ≢ mate k → own sh (links_after sh x (kev k)) Start i
        ≡ own sh x Start i = λ i j d e. v.at Start i j.1 ∙ upd_off _ 0 e ∙ upd_off _ 0 d in
        record {
          mark = mark;
          solid = solid;
          face = face;
          gone_k = v.at Start k uk.1 ∙ out_start_k sp left;
          gone_b = v.at Start (mate k) (in_b sp).1 ∙ out_start_b sp left;
          start_kept =
              λ i j z. other i j (λ e. uk.2 (ap (own sh x Start) (sym e) ∙ z)) (λ e. (used_b sp).2
              (ap (own sh x Start) (sym e) ∙ z)) ∙ z;
          same_solids = solids_is sh _ ∙ words_same sh.solids _ _ mark ∙ sym (solids_is sh x);
          same_faces = faces_is sh _ ∙ words_same sh.faces _ _ solid ∙ sym (faces_is sh x);
          same_loops = loops_same sh x _ face;
          same_strays = strays_same sh x _ face g solid;
          fewer_edges = edge_fewer sh x _ k (in_k sp) uk.2 (used_b sp).2 (v.at Start k uk.1
              ∙ out_start_k sp left) (v.at Start (mate k) (in_b sp).1 ∙ out_start_b sp left) other;
          fewer_vertices = ap suc (vertices_by_marks (kev k) g refl (kev_accepted (marked g) uk nk) ∙ vertices_is sh _)
              ∙ words_fewer sh.vertices _ _ (own sh x Start
              (mate k)) (far_in sp) (marks_shown.at VertexUsed (own sh x Start (mate k)) (far_in sp).1
              ∙ upd_same _ (own sh x Start (mate k)) 0) (far_used sp)
              (λ n i d. marks_shown.at VertexUsed n i.1 ∙ upd_off _ 0 d)
              ∙ sym (vertices_is sh x);
        }

  -- whichever way the loop is left
  pub kev_law : KevLaw sh x (links_after sh x (kev k)) k
  kev_law = split (own sh x Next (mate k)) k (λ e. law_at {I = own sh x Start k} (inl (e, refl)))
      (λ d. law_at {I = 0} (inr (d, refl)))
