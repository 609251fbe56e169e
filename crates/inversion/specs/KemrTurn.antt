-- B's last step, kemr of a crossed k: it is accepted, one edge fewer, one loop more, and then some half-edge of a ring
-- has its mate in another loop.
use Rattle.std.specs.Prelude.{◌≡◌, refl, ◌≢◌, Bool, true, false, not, ◌&&◌, List, ℕ, suc, ◌-◌, ◌*◌, ◌≤◌, ◌<◌, eqb, ℤ}
use Rattle.std.proofs.Common.{sym, ap, ◌∙◌, subst, arith}
use Rattle.std.proofs.lemmas.Bool.{false≢true}
use Rattle.laws.specs.Bools.{split, eqb_same, eqb_other}
use Rattle.laws.specs.Permutations.{iter}
use Rattle.laws.specs.Update.{upd_off}
use Rattle.laws.specs.Exchange.{Till, stop, go}
use Rattle.laws.specs.Walks.{walk_till}
use Rattle.sound_tables.specs.Names.{loop_unnamed}
use Rattle.layout.specs.declared.shape.Shape.{Shape}
use Rattle.layout.specs.Mate.{mate}
use Rattle.euler.specs.Exec.{refusal_of, marks_after, links_after}
use Rattle.layout.specs.MateLaws.{mate_mate, mate_range}
use Rattle.layout.specs.Fields.{SolidUsed, Solid, Outer, Face, Start, Loop, Next, VertexUsed}
use Rattle.layout.specs.Items.{face_in}
use Rattle.sound_tables.specs.Mates.{mate_other}
use Rattle.sound_tables.specs.Cells.{Shows}
use Rattle.sound_tables.specs.Sound.{In, HalfUsed}
use Rattle.sound_tables.specs.Walking.{run_columns, run_met, run_off}
use Rattle.sound_tables.specs.WriteLaws.{with_column}
use Rattle.sound_tables.specs.Good.{Good, own, marked}
use Rattle.sound_bridges.specs.Relation.{Bridged}
use Rattle.sound_bridges.specs.KemrColumns.{span_bridge, Span, walk, kemr_columns, down_bridged}
use Rattle.sound_bridges.specs.KemrShown.{kemr_shows}
use Rattle.sound_bridges.specs.KemrAccepted.{kemr_links_lem, kemr_accepted}
use Rattle.sound_valence.specs.Kept.{links_shown}
use Rattle.takedown.specs.Inversion.{in_ring, ring_half, kemr}
use Rattle.inversion.specs.Counts.{solids, faces, loops, edges, vertices, is_stray, strays, count_same}
use Rattle.inversion.specs.Same.{words_same, words_fewer, solids_is, faces_is, loops_is, vertices_is}
use Rattle.inversion.specs.Same.{face_in_same, stray_same, face_or_none, vertices_by_marks}
use Rattle.inversion.specs.EdgeOut.{edge_fewer}
use Rattle.takedown.specs.Crossed.{Crossing}
use Rattle.inversion.specs.Runs.{run_at, at_run}
use Rattle.inversion.specs.OfSolid.{least_there}

module _ {sh : Shape} {x : List ℕ} {p : List ℤ} (g : Good sh x p) {k l2 : ℕ} (o : Span sh (own sh x) k l2) where
  accepted : refusal_of sh x (kemr k l2) ≡ 0
  accepted = kemr_accepted sh x g.capacities o

  -- the columns afterwards
  marks_shown : Shows sh (marks_after sh x (kemr k l2)) (kemr_columns sh (own sh x) k l2 (walk g.sound o).0)
  marks_shown = subst (λ t. Shows sh t (kemr_columns sh (own sh x) k l2 (walk g.sound o).0))
      (sym (kemr_links_lem sh x g.capacities o)) (kemr_shows (marked g) o)

  -- with the words of vertices
  pub v : Shows sh (links_after sh x (kemr k l2)) (with_column (kemr_columns sh (own sh x) k l2 (walk g.sound o).0)
      VertexUsed (own sh (links_after sh x (kemr k l2)) VertexUsed))
  v = links_shown (kemr k l2) g refl accepted marks_shown

  -- before and after
  pub b : Bridged sh (kemr_columns sh (own sh x) k l2 (walk g.sound o).0) (own sh x) (span_bridge (own sh x) k l2)
  b = down_bridged g.sound o

  -- ---- what stays

  pub solid_same : (n : ℕ) → In sh.faces n → own sh (links_after sh x (kemr k l2)) Solid n ≡ own sh x Solid n
  solid_same n i = v.at Solid n i.1 ∙ sym (b.others Solid refl n)

  pub mark_same : (n : ℕ) → In sh.solids n → own sh (links_after sh x (kemr k l2)) SolidUsed n ≡ own sh x SolidUsed n
  mark_same n i = v.at SolidUsed n i.1 ∙ sym (b.others SolidUsed refl n)

  pub face_same : (n : ℕ) → In sh.loops n → n ≢ l2 → own sh (links_after sh x (kemr k l2)) Face n ≡ own sh x Face n
  face_same n i d = v.at Face n i.1 ∙ sym (b.face_o n d)

  -- the new ring lies in the face of k
  pub face_new : own sh (links_after sh x (kemr k l2)) Face l2 ≡ own sh x Face (own sh x Loop k)
  face_new = v.at Face l2 o.ring_in.1 ∙ b.ends.one_face ∙ sym (b.face_o (own sh x Loop k) b.ends.two)

  -- ---- the counts

  pub kemr_solids : solids sh (links_after sh x (kemr k l2)) ≡ solids sh x
  kemr_solids = solids_is sh _ ∙ words_same sh.solids _ _ mark_same ∙ sym (solids_is sh x)

  pub kemr_faces : faces sh (links_after sh x (kemr k l2)) ≡ faces sh x
  kemr_faces = faces_is sh _ ∙ words_same sh.faces _ _ solid_same ∙ sym (faces_is sh x)

  pub kemr_loops : suc (loops sh x) ≡ loops sh (links_after sh x (kemr k l2))
  kemr_loops = ap suc (loops_is sh x)
      ∙ words_fewer sh.loops (own sh x Face) (own sh (links_after sh x (kemr k l2)) Face) l2 o.ring_in o.free
      (λ z.
      b.ends.used (sym b.ends.one_face ∙ sym (v.at Face l2 o.ring_in.1) ∙ z))
      (λ n i d. sym (face_same n i d))
      ∙ sym (loops_is sh _)

  -- a free half-edge stays free
  pub start_kept : (i : ℕ) → In (2 * sh.edges) i → own sh x Start i ≡ 0
      → own sh (links_after sh x (kemr k l2)) Start i ≡ 0
  start_kept i j z =
      let um = g.sound.rules.mate_in k o.half in
      v.at Start i j.1
      ∙ sym (b.start_o i (λ e. o.half.2 (ap (own sh x Start) (sym e) ∙ z))
      (λ e. um.2 (ap (own sh x Start) (sym e) ∙ z))) ∙ z

  pub kemr_edges : suc (edges sh (links_after sh x (kemr k l2))) ≡ edges sh x
  kemr_edges =
      let um = g.sound.rules.mate_in k o.half in
      edge_fewer sh x _ k (o.half.0, o.half.1) o.half.2 um.2 (v.at Start k o.half.1
      ∙ b.ends.zero_k.s) (v.at Start (mate k) um.1 ∙ b.ends.zero_a.s)
      (λ i j d e. v.at Start i j.1 ∙ sym (b.start_o i d e))

  pub kemr_vertices : vertices sh (links_after sh x (kemr k l2)) ≡ vertices sh x
  kemr_vertices = vertices_by_marks (kemr k l2) g refl accepted ∙ vertices_is sh _
      ∙ words_same sh.vertices _ _ (λ n i. marks_shown.at VertexUsed n i.1 ∙ sym (b.others VertexUsed refl n))
      ∙ sym (vertices_is sh x)

  -- ---- the ring and the rest

  -- the half-edges of the run name the ring
  run_loop_lem : (j t : ℕ) → t < (walk g.sound o).0 → iter (own sh x Next) t (own sh x Next k) ≡ j → In (2 * sh.edges) j
      → j ≢ k → j ≢ mate k → own sh (links_after sh x (kemr k l2)) Loop j ≡ l2
  run_loop_lem j t h e i a d =
      v.at Loop j i.1 ∙ upd_off _ 0 d ∙ upd_off _ 0 a
      ∙ ap (run_columns (own sh x) (own sh x Next k) (walk g.sound o).0 l2 Loop) (sym e)
      ∙ run_met (own sh x) (walk g.sound o).0 (own sh x Next k) l2 t h

  -- the others name what they named
  pub rest_loop : (j : ℕ) → ((t : ℕ) → t < (walk g.sound o).0 → iter (own sh x Next) t (own sh x Next k) ≢ j)
      → In (2 * sh.edges) j → j ≢ k → j ≢ mate k
      → own sh (links_after sh x (kemr k l2)) Loop j ≡ own sh x Loop j
  rest_loop j h i a d = v.at Loop j i.1 ∙ upd_off _ 0 d ∙ upd_off _ 0 a
      ∙ run_off (own sh x) (walk g.sound o).0 (own sh x Next k) l2 j h

  -- ---- the face of k is its solid's only one

  module _ (s : ℕ) (ks : own sh x Solid (own sh x Face (own sh x Loop k)) ≡ s) (root : face_in sh x s
      ≡ own sh x Face (own sh x Loop k)) where
    -- no loop becomes stray
    pub kemr_strays : strays sh (links_after sh x (kemr k l2)) ≡ strays sh x
    kemr_strays = count_same sh.loops _ _ (λ l a u. split l l2
        (λ e. rw e (new ∙ sym old))
        (λ d. stray_same sh x _ solid_same l (own sh x Face l) (face_same l (a, u) d) refl (face_or_none g l (a, u))))
      where
        f : ℕ
        f = own sh x Face (own sh x Loop k)

        inf : In sh.faces f
        inf = let i = g.sound.solids.side_in_lem k o.half in (i.0, i.1)

        new : is_stray sh (links_after sh x (kemr k l2)) l2 ≡ false
        new = rw (face_new, solid_same f inf, ks, face_in_same sh x _ solid_same s, root, eqb_same {m = f} refl)
            (last (eqb f 0))
          where
            last : (b : Bool) → (not b && false) ≡ false
            last true = refl
            last false = refl

        old : is_stray sh x l2 ≡ false
        old = rw o.free

    -- and a half-edge that crosses k is in the ring, with its mate outside
    pub kemr_ring : s ≢ 0 → Crossing sh x k → ring_half sh (links_after sh x (kemr k l2)) s ≢ 0
    kemr_ring sn q =
        let n = 2 * sh.edges in
        let w = walk g.sound o in
        let r = run_at sh n w.0 x (own sh x Next k) (mate k) q.j (omega (arith, w.1)) w.2 q.inside in
        let a : q.j ≢ mate k = λ e. w.2.first r.0 r.1 (r.2 ∙ e) in
        let t = subst (Till (own sh x Next) k (mate k)) r.2
        (walk_till g.sound.rules.loops o.half (mate_other k o.half.0) w.0 w.2.at w.2.first
        (w.0 - r.0) r.0 (omega (arith, r.1))) in
        let d : q.j ≢ k = till_off t a in
        let im = mate_range q.j sh.edges q.range.0 q.range.1 in
        let off : (t : ℕ) → t < w.0 → iter (own sh x Next) t (own sh x Next k) ≢ mate q.j = λ t h e.
        false≢true (sym q.outside
        ∙ at_run sh n w.0 x (own sh x Next k) (mate k) (mate q.j) (omega (arith, w.1)) w.2 t h e) in
        let l = run_loop_lem q.j r.0 r.1 r.2 q.range d a in
        let m = rest_loop (mate q.j) off im (λ e. a (sym (mate_mate q.j) ∙ ap mate e))
        (λ e. d (sym (mate_mate q.j) ∙ ap mate e ∙ mate_mate k)) in
        least_there n (in_ring sh (links_after sh x (kemr k l2)) s) q.j q.range
        (rw (
          l,
          m,
          face_new,
          solid_same f inf,
          ks,
          eqb_same {m = s} refl,
          v.at Outer f inf.1 ∙ sym (b.others Outer refl f),
          eqb_other not_outer,
          eqb_other (loop_unnamed g.sound l2 o.ring_in o.free (mate q.j) im),
        ))
      where
        f : ℕ
        f = own sh x Face (own sh x Loop k)

        uf : HalfUsed sh (own sh x) k → (1 ≤ own sh x Face (own sh x Loop k))
            × (own sh x Face (own sh x Loop k) ≤ sh.faces) × (own sh x Solid (own sh x Face (own sh x Loop k)) ≢ 0)
        uf u = g.sound.solids.side_in_lem k u

        inf : In sh.faces f
        inf = let i = uf o.half in (i.0, i.1)

        not_outer : own sh x Outer f ≢ l2
        not_outer e = let i = uf o.half in
            omega (arith, i.0, sym (g.sound.face f inf i.2).outer_face ∙ ap (own sh x Face) e ∙ o.free)

        till_off : {j : ℕ} → Till (own sh x Next) k (mate k) j → j ≢ mate k → j ≢ k
        till_off (stop e) h = absurd (h e)
        till_off (go h e t) z = h
