-- The turn by kvsf, whole.
use Rattle.std.specs.Prelude.{◌≡◌, ◌≢◌, true, false, List, [], ◌∷◌, ℕ, suc, ◌+◌, ◌*◌, ◌≤◌, ◌<◌, eqb, ℤ, pos}
use Rattle.std.proofs.Math.Path.{refl}
use Rattle.std.proofs.Common.{sym, ap, ◌∙◌, inl, arith}
use Rattle.std.proofs.lemmas.Bool.{false≢true}
use Rattle.laws.specs.Bools.{split, eqb_same, eqb_other}
use Rattle.laws.specs.Search.{least_ext}
use Rattle.laws.specs.Update.{upd_same, upd_off}
use Rattle.layout.specs.declared.shape.Shape.{Shape}
use Rattle.euler.specs.Surgery.{put_point}
use Rattle.euler.specs.Queries.{faces_in}
use Rattle.euler.specs.Exec.{links_after, inverse}
use Rattle.euler.specs.ValenceLaws.{still_links}
use Rattle.layout.specs.Fields.{First, SolidUsed, Solid, Outer, Face, Isolated, Start, VertexUsed}
use Rattle.layout.specs.Items.{face_in}
use Rattle.sound_tables.specs.Sound.{In}
use Rattle.sound_tables.specs.Labels.{one_many}
use Rattle.sound_tables.specs.Cells.{Shows}
use Rattle.sound_lone.specs.Placed.{placed, placed_links, shows_placed}
use Rattle.sound_lone.specs.KvsfSound.{OneLoop}
use Rattle.sound_lone.specs.Accepted.{kvsf_links_lem, kvsf_points, kvsf_accepted}
use Rattle.sound_tables.specs.Good.{Good, own, good_shows}
use Rattle.takedown.specs.Inversion.{solid_at, edges_left, ring_of, kvsf}
use Rattle.inversion.specs.Path.{there, first, acted, joins_in}
use Rattle.inversion.specs.Counts.{solids, faces, loops, edges, vertices, is_stray, strays, count_le_by}
use Rattle.inversion.specs.Same.{words_same, words_fewer, solids_is, faces_is, loops_is, edges_is, vertices_is}
use Rattle.inversion.specs.Same.{free_edge_kept}
use Rattle.inversion.specs.OfSolid.{least_there}
use Rattle.inversion.specs.Root.{solid_in, solid_used_lem, root_is, outer_in, outer_face, lone_loop, no_ring}
use Rattle.inversion.specs.Root.{only_outer}
use Rattle.inversion.specs.Turn.{RingAt, Ready, Change, TurnMade}
use Rattle.inversion.specs.TurnShape.{turned_last}

-- kvsf is undone by mvsf, which joins no faces
no_join : (sh : Shape) (x : List ℕ) (p : List ℤ) (s : ℕ) → joins_in sh x p (kvsf s ∷ []) ≡ 0
unfolding inverse
no_join sh x p s = refl

module _ {sh : Shape} {x : List ℕ} {p : List ℤ} (g : Good sh x p) {s f l v : ℕ} (o : OneLoop sh (own sh x) s f l v)
    (mark : own sh x SolidUsed s ≢ 0) (vertex : own sh x VertexUsed v ≢ 0) (sn : s ≢ 0) where
  abbrev y : List ℕ
  y = placed_links sh x s f l v 0 0 0 0 0

  shown : Shows sh (placed_links sh x s f l v 0 0 0 0 0) (placed (own sh x) s f l v 0 0 0 0 0)
  shown = shows_placed (good_shows g) s f l v 0 0 0 0 0 o.solid_in o.face_in_lem o.loop_in o.vertex_in

  solid_gone : own sh (placed_links sh x s f l v 0 0 0 0 0) Solid f ≡ 0
  solid_gone = shown.at Solid f o.face_in_lem.1 ∙ upd_same _ f 0

  solid_else : (n : ℕ) → In sh.faces n → n ≢ f → own sh (placed_links sh x s f l v 0 0 0 0 0) Solid n
      ≡ own sh x Solid n
  solid_else n i d = shown.at Solid n i.1 ∙ upd_off _ 0 d

  face_gone : own sh (placed_links sh x s f l v 0 0 0 0 0) Face l ≡ 0
  face_gone = shown.at Face l o.loop_in.1 ∙ upd_same _ l 0

  face_else : (n : ℕ) → In sh.loops n → n ≢ l → own sh (placed_links sh x s f l v 0 0 0 0 0) Face n ≡ own sh x Face n
  face_else n i d = shown.at Face n i.1 ∙ upd_off _ 0 d

  start_same : (i : ℕ) → In (2 * sh.edges) i → own sh (placed_links sh x s f l v 0 0 0 0 0) Start i ≡ own sh x Start i
  start_same i j = shown.at Start i j.1

  -- another solid keeps its least face
  other_root : (t : ℕ) → t ≢ 0 → t ≢ s → face_in sh (placed_links sh x s f l v 0 0 0 0 0) t ≡ face_in sh x t
  other_root t tn d = least_ext sh.faces _ _ (λ n a b. split n f
      (λ e. eqb_other (λ q. tn (sym q ∙ ap (own sh (placed_links sh x s f l v 0 0 0 0 0) Solid) e ∙ solid_gone))
      ∙ sym (eqb_other (λ q. d (sym q ∙ ap (own sh x Solid) e ∙ o.solid))))
      (λ e. ap (λ m. eqb m t) (solid_else n (a, b) e)))

  gone_off : (n : ℕ) → own sh (placed_links sh x s f l v 0 0 0 0 0) Face n ≡ 0
      → is_stray sh (placed_links sh x s f l v 0 0 0 0 0) n ≡ true → false ≡ true
  gone_off n e t = rw e at t

  -- and its stray loops
  strays_le : strays sh (placed_links sh x s f l v 0 0 0 0 0) ≤ strays sh x
  strays_le = count_le_by sh.loops _ _ (λ n a b t. split n l
      (λ e. absurd (false≢true (gone_off n (ap (own sh (placed_links sh x s f l v 0 0 0 0 0) Face) e ∙ face_gone) t)))
      (λ d. split (own sh x Face n) 0
      (λ z. absurd (false≢true (gone_off n (face_else n (a, b) d ∙ z) t)))
      (λ u. kept n (a, b) d u t)))
    where
      kept : (n : ℕ) → In sh.loops n → n ≢ l → own sh x Face n ≢ 0
          → is_stray sh (placed_links sh x s f l v 0 0 0 0 0) n ≡ true → is_stray sh x n ≡ true
      kept n i d u t =
          let L = g.sound.loop n i u in
          let fn : own sh x Face n ≢ f = λ e. d (o.only_loop_lem n i e) in
          let same : own sh (placed_links sh x s f l v 0 0 0 0 0) Solid (own sh x Face n)
          ≡ own sh x Solid (own sh x Face n) = solid_else (own sh x Face n) L.face_in_lem fn in
          let root = other_root (own sh x Solid (own sh x Face n)) L.face_used
          (λ e. fn (o.only_face (own sh x Face n) L.face_in_lem e)) in
          rw (face_else n i d, same, root) at t

  pub mark_else : (n : ℕ) → In sh.solids n → n ≢ s → own sh (placed_links sh x s f l v 0 0 0 0 0) SolidUsed n
      ≡ own sh x SolidUsed n
  mark_else n i d = shown.at SolidUsed n i.1 ∙ upd_off _ 0 d

  fewer_vertices : suc (vertices sh (placed_links sh x s f l v 0 0 0 0 0)) ≡ vertices sh x
  fewer_vertices = ap suc (vertices_is sh _)
      ∙ words_fewer sh.vertices _ _ v o.vertex_in (shown.at VertexUsed v o.vertex_in.1
      ∙ upd_same _ v 0) vertex (λ n i d. shown.at VertexUsed n i.1 ∙ upd_off _ 0 d) ∙ sym (vertices_is sh x)

  same_edges : edges sh (placed_links sh x s f l v 0 0 0 0 0) ≡ edges sh x
  same_edges = edges_is sh _
      ∙ words_same sh.edges _ _ (λ e i. start_same (2 * e) (omega (arith, i.0), omega (arith, i.1)))
      ∙ sym (edges_is sh x)

  pub last_less : edges sh (placed_links sh x s f l v 0 0 0 0 0) + vertices sh (placed_links sh x s f l v 0 0 0 0 0)
      < edges sh x + vertices sh x
  last_less = omega (arith, fewer_vertices, same_edges)

  pub last_change : (RingAt sh x → ⊥) → Change sh x (placed_links sh x s f l v 0 0 0 0 0) 1 0
  last_change never =
      let cs : suc (solids sh (placed_links sh x s f l v 0 0 0 0 0)) ≡ solids sh x = ap suc (solids_is sh _)
      ∙ words_fewer sh.solids _ _ s o.solid_in (shown.at SolidUsed s o.solid_in.1
      ∙ upd_same _ s 0) mark (λ n i d. shown.at SolidUsed n i.1 ∙ upd_off _ 0 d) ∙ sym (solids_is sh x) in
      let cf : suc (faces sh (placed_links sh x s f l v 0 0 0 0 0)) ≡ faces sh x = ap suc (faces_is sh _)
      ∙ words_fewer sh.faces _ _ f o.face_in_lem solid_gone (λ z. sn (sym o.solid ∙ z)) solid_else
      ∙ sym (faces_is sh x) in
      let cl : suc (loops sh (placed_links sh x s f l v 0 0 0 0 0)) ≡ loops sh x = ap suc (loops_is sh _)
      ∙ words_fewer sh.loops _ _ l o.loop_in face_gone (λ z. omega
      (arith, o.face_in_lem.0, sym o.face ∙ z)) face_else ∙ sym (loops_is sh x) in
      let cv = fewer_vertices in
      let ce = same_edges in
      record {
        euler = omega (arith, cs, cf, cl, cv, ce);
        paid = inl (omega (arith, cs, cl, cv, strays_le));
        back = λ r. absurd (never r);
      }

  pub last_ready : Ready sh x → Ready sh (placed_links sh x s f l v 0 0 0 0 0)
  last_ready ready = record {
    face = least_there sh.faces (λ n. eqb (own sh (placed_links sh x s f l v 0 0 0 0 0) Solid n) 0) f o.face_in_lem
        (eqb_same solid_gone);
    edge = free_edge_kept sh x _ (λ i j z. start_same i j ∙ z) ready.edge;
    loop = inl (least_there sh.loops (λ n. eqb (own sh (placed_links sh x s f l v 0 0 0 0 0) Face n) 0) l o.loop_in
        (eqb_same face_gone));
  }

module _ {sh : Shape} {x : List ℕ} {p : List ℤ} (g : Good sh x p) (sn : solid_at sh x ≢ 0)
    (one : faces_in sh x (solid_at sh x) ≡ 1)
    (left : edges_left sh x (solid_at sh x) ≡ false) (none : ring_of sh x (face_in sh x (solid_at sh x)) ≡ 0) where
  lone : (own sh x First (own sh x Outer (face_in sh x (solid_at sh x))) ≡ 0)
      × In sh.vertices (own sh x Isolated (own sh x Outer (face_in sh x (solid_at sh x))))
      × (own sh x VertexUsed (own sh x Isolated (own sh x Outer (face_in sh x (solid_at sh x)))) ≢ 0)
  lone =
      let f = face_in sh x (solid_at sh x) in
      lone_loop g sn left (own sh x Outer f) (outer_in g sn)
      (λ z. omega (arith, (root_is g sn).range.0, sym (outer_face g sn) ∙ z)) (ap (own sh x Solid) (outer_face g sn)
      ∙ (root_is g sn).label)

  one_loop : OneLoop sh (own sh x) (solid_at sh x) (face_in sh x (solid_at sh x))
      (own sh x Outer (face_in sh x (solid_at sh x)))
      (own sh x Isolated (own sh x Outer (face_in sh x (solid_at sh x))))
  one_loop =
      let r = root_is g sn in
      record {
        solid_in = solid_in g sn;
        face_in_lem = r.range;
        loop_in = outer_in g sn;
        vertex_in = lone.1;
        solid = r.label;
        outer = refl;
        face = outer_face g sn;
        first = lone.0;
        isolated = refl;
        only_face = λ h i e. one_many sh.faces (own sh x Solid) (solid_at sh x) one (face_in sh x (solid_at sh x)) h
            r.range r.label i e;
        only_loop_lem = only_outer g sn none;
      }

  -- the table afterwards; no vertex word but that of the killed one changes
  last_links : links_after sh x (kvsf (solid_at sh x))
      ≡ placed_links sh x (solid_at sh x) (face_in sh x (solid_at sh x))
      (own sh x Outer (face_in sh x (solid_at sh x)))
      (own sh x Isolated (own sh x Outer (face_in sh x (solid_at sh x)))) 0
      0 0 0 0
  last_links = still_links sh x (kvsf (solid_at sh x)) 2 refl (λ y. refl) (λ y. refl)
      ∙ kvsf_links_lem _ one_loop g.capacities

  -- another solid is in use as it was
  pub turn_mark : (n : ℕ) → In sh.solids n → n ≢ solid_at sh x
      → own sh (links_after sh x (kvsf (solid_at sh x))) SolidUsed n ≡ own sh x SolidUsed n
  turn_mark n i d = ap (λ t. own sh t SolidUsed n) last_links
      ∙ mark_else g one_loop (solid_used_lem g sn) lone.2 sn n i d

  pub turn_last : TurnMade sh x p
  unfolding acted
  turn_last =
      let s = solid_at sh x in
      let f = face_in sh x s in
      let l = own sh x Outer f in
      let v = own sh x Isolated l in
      record {
        os = kvsf s ∷ [];
        y = placed_links sh x s f l v 0 0 0 0 0;
        q = put_point p v (pos 0) (pos 0) (pos 0);
        path = first (kvsf s) refl (kvsf_accepted _ one_loop g.capacities (solid_used_lem g sn))
            (there last_links (kvsf_points _ one_loop g.capacities p));
        same = λ w a b. turned_last sh s f w x a one left none;
        change =
            rw (no_join sh x p s)
            (last_change g one_loop (solid_used_lem g sn) lone.2 sn (λ r. no_ring g sn left r.2));
        less = last_less g one_loop (solid_used_lem g sn) lone.2 sn;
        ready = last_ready g one_loop (solid_used_lem g sn) lone.2 sn;
      }
