-- kef: accepted where k's loop is the only one of its face and the mate's face is another; one edge, face and loop
-- fewer, all else counted the same.
use Rattle.std.specs.Prelude.{◌≡◌, refl, ◌≢◌, List, [], ◌∷◌, ℕ, suc, ◌*◌, ℤ}
use Rattle.std.proofs.Common.{sym, ap, ◌∙◌, subst}
use Rattle.laws.specs.Update.{upd_same, upd_off}
use Rattle.layout.specs.declared.shape.Shape.{Shape}
use Rattle.layout.specs.Mate.{mate}
use Rattle.euler.specs.Exec.{refusal_of, marks_after, links_after, inverse}
use Rattle.layout.specs.Fields.{SolidUsed, Solid, Face, Start, Loop, VertexUsed}
use Rattle.sound_tables.specs.Mates.{mate_other}
use Rattle.sound_tables.specs.Sound.{In, side, Sound}
use Rattle.sound_tables.specs.Cells.{Shows}
use Rattle.sound_tables.specs.WriteLaws.{with_column}
use Rattle.sound_tables.specs.Good.{Good, own, good_shows}
use Rattle.sound_cuts.specs.Relation.{Cut}
use Rattle.sound_cuts.specs.KefShown.{mend_shows}
use Rattle.sound_cuts.specs.Exact.{kef_sound}
use Rattle.sound_cuts.specs.KefPlace.{spot_at, mend_columns, KefPlace}
use Rattle.sound_cuts.specs.KefRelation.{kef_cut}
use Rattle.sound_cuts.specs.KefAccepted.{kef_links_lem, kef_accepted}
use Rattle.sound_valence.specs.Kept.{links_shown}
use Rattle.takedown.specs.Inversion.{kef}
use Rattle.inversion.specs.Path.{joins_in}
use Rattle.inversion.specs.Counts.{solids, faces, loops, edges, vertices}
use Rattle.inversion.specs.Same.{words_same, words_fewer, solids_is, faces_is, loops_is, vertices_is}
use Rattle.inversion.specs.Same.{vertices_by_marks}
use Rattle.inversion.specs.EdgeOut.{edge_fewer}

-- the table afterwards, as it is counted
pub record KefLaw (sh : Shape) (x y : List ℕ) (k : ℕ) : Type 0 where
  pub mark : (n : ℕ) → In sh.solids n → own sh y SolidUsed n ≡ own sh x SolidUsed n
  pub solid_gone : own sh y Solid (side (own sh x) k) ≡ 0
  pub solid : (n : ℕ) → In sh.faces n → n ≢ side (own sh x) k → own sh y Solid n ≡ own sh x Solid n
  pub face_gone : own sh y Face (own sh x Loop k) ≡ 0
  pub face : (n : ℕ) → In sh.loops n → n ≢ own sh x Loop k → own sh y Face n ≡ own sh x Face n
  pub start_kept : (i : ℕ) → In (2 * sh.edges) i → own sh x Start i ≡ 0 → own sh y Start i ≡ 0
  pub same_solids : solids sh y ≡ solids sh x
  pub fewer_faces : suc (faces sh y) ≡ faces sh x
  pub fewer_loops : suc (loops sh y) ≡ loops sh x
  pub fewer_edges : suc (edges sh y) ≡ edges sh x
  pub same_vertices : vertices sh y ≡ vertices sh x

-- kef is undone by mef, which joins no faces
pub kef_joins : (sh : Shape) (x : List ℕ) (p : List ℤ) (k : ℕ) → joins_in sh x p (kef k ∷ []) ≡ 0
unfolding inverse
kef_joins sh x p k = refl

module _ {sh : Shape} {x : List ℕ} {p : List ℤ} (g : Good sh x p) {k : ℕ} (w : KefPlace sh (own sh x) k) where
  -- the loop and the face that go
  loop_in : In sh.loops (own sh x Loop k)
  loop_in = (g.sound.half k (w.used.0, w.used.1) w.used.2).loop_in

  face_in_lem : In sh.faces (side (own sh x) k)
  face_in_lem = let i = g.sound.solids.side_in_lem k w.used in (i.0, i.1)

  -- the relation between the tables before and after
  cut : Cut sh (mend_columns sh (own sh x) (spot_at (own sh x) k)) (own sh x) (spot_at (own sh x) k)
  cut = kef_cut g.sound refl w

  mended : Sound sh p (mend_columns sh (own sh x) (spot_at (own sh x) k))
  mended = kef_sound g.sound refl w

  -- kef at such a place is accepted
  pub place_accepted : refusal_of sh x (kef k) ≡ 0
  place_accepted = kef_accepted cut mended g.sound (good_shows g) g.capacities

  -- the columns afterwards
  marks_shown : Shows sh (marks_after sh x (kef k)) (mend_columns sh (own sh x) (spot_at (own sh x) k))
  marks_shown = subst (λ l. Shows sh l (mend_columns sh (own sh x) (spot_at (own sh x) k)))
      (sym (kef_links_lem cut mended g.sound (good_shows g) g.capacities))
      (mend_shows cut mended g.sound (good_shows g))

  -- with the words of vertices
  pub kef_shown : Shows sh (links_after sh x (kef k)) (with_column (mend_columns sh (own sh x) (spot_at (own sh x) k))
      VertexUsed (own sh (links_after sh x (kef k)) VertexUsed))
  kef_shown = links_shown (kef k) g refl place_accepted marks_shown

  pub kef_law : KefLaw sh x (links_after sh x (kef k)) k
  kef_law =
      let v = kef_shown in
      let um = g.sound.rules.mate_in k w.used in
      let km : k ≢ mate k = mate_other k w.used.0 in
      let mark : (n : ℕ) → In sh.solids n → own sh (links_after sh x (kef k)) SolidUsed n ≡ own sh x SolidUsed n =
      λ n i. v.at SolidUsed n i.1 in
      let solid_gone : own sh (links_after sh x (kef k)) Solid (side (own sh x) k) ≡ 0 =
      v.at Solid (side (own sh x) k) face_in_lem.1 ∙ upd_same _ (side (own sh x) k) 0 in
      let solid : (n : ℕ) → In sh.faces n → n ≢ side (own sh x) k → own sh (links_after sh x (kef k)) Solid n
      ≡ own sh x Solid n = λ n i d. v.at Solid n i.1 ∙ upd_off _ 0 d in
      let face_gone : own sh (links_after sh x (kef k)) Face (own sh x Loop k) ≡ 0 =
      v.at Face (own sh x Loop k) loop_in.1 ∙ upd_same _ (own sh x Loop k) 0 in
      let face : (n : ℕ) → In sh.loops n → n ≢ own sh x Loop k → own sh (links_after sh x (kef k)) Face n
      ≡ own sh x Face n = λ n i d. v.at Face n i.1 ∙ upd_off _ 0 d in
      let other : (i : ℕ) → In (2 * sh.edges) i → i ≢ k → i ≢ mate k → own sh (links_after sh x (kef k)) Start i
      ≡ own sh x Start i = λ i j d e. v.at Start i j.1 ∙ upd_off _ 0 d ∙ upd_off _ 0 e in
      record {
        mark = mark;
        solid_gone = solid_gone;
        solid = solid;
        face_gone = face_gone;
        face = face;
        start_kept =
            λ i j z. other i j (λ e. w.used.2 (ap (own sh x Start) (sym e) ∙ z)) (λ e. um.2
            (ap (own sh x Start) (sym e) ∙ z)) ∙ z;
        same_solids = solids_is sh _ ∙ words_same sh.solids _ _ mark ∙ sym (solids_is sh x);
        fewer_faces = ap suc (faces_is sh _)
            ∙ words_fewer sh.faces _ _ (side (own sh x) k) face_in_lem solid_gone (g.sound.solids.side_in_lem k
            w.used).2 solid ∙ sym (faces_is sh x);
        fewer_loops = ap suc (loops_is sh _)
            ∙ words_fewer sh.loops _ _ (own sh x Loop k) loop_in face_gone (g.sound.half k (w.used.0, w.used.1)
            w.used.2).loop_used face ∙ sym (loops_is sh x);
        fewer_edges = edge_fewer sh x _ k (w.used.0, w.used.1) w.used.2 um.2 (v.at Start k w.used.1
            ∙ upd_same _ k 0) (v.at Start (mate k) um.1 ∙ upd_off _ 0 (λ e. km (sym e))
            ∙ upd_same _ (mate k) 0) other;
        same_vertices = vertices_by_marks (kef k) g refl place_accepted ∙ vertices_is sh _
            ∙ words_same sh.vertices _ _ (λ n i. marks_shown.at VertexUsed n i.1) ∙ sym (vertices_is sh x);
      }
