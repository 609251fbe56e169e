-- The turn by mfkrh and kef, whole: a ring that shares an edge with another loop of the face goes.
use Rattle.std.specs.Prelude.{◌≡◌, ◌≢◌, true, false, not, ◌&&◌, List, [], ◌∷◌, ℕ, suc, ◌+◌, ◌*◌, ◌≤◌, ◌<◌, eqb, ℤ}
use Rattle.std.proofs.Math.Path.{refl}
use Rattle.std.proofs.Common.{sym, ap, ◌∙◌, subst, inl, arith, eqb→eq, T_not, le-leb}
use Rattle.std.proofs.lemmas.Bool.{false≢true}
use Rattle.laws.specs.Bools.{pick, split, true_T, eqb_same}
use Rattle.laws.specs.Sums.{bit}
use Rattle.laws.specs.Linked.{link}
use Rattle.laws.specs.Update.{upd_at, upd_same, upd_off}
use Rattle.bounds.specs.Bounds.{most_halves}
use Rattle.layout.specs.declared.shape.Shape.{Shape}
use Rattle.layout.specs.Mate.{mate}
use Rattle.euler.specs.Queries.{faces_in}
use Rattle.euler.specs.Exec.{refusal_of, links_after, points_after, inverse}
use Rattle.euler.specs.ValenceLaws.{still_links}
use Rattle.layout.specs.Fields.{SolidUsed, Solid, Outer, Face, Start, Loop, VertexUsed}
use Rattle.layout.specs.Items.{is_ring, face_in}
use Rattle.sound_tables.specs.Sound.{In, HalfUsed, side}
use Rattle.sound_tables.specs.Cells.{Shows}
use Rattle.sound_tables.specs.Good.{Good, own, good_shows}
use Rattle.sound_operators.specs.Theorems.{all_hold}
use Rattle.sound_cuts.specs.KefPlace.{KefPlace}
use Rattle.sound_cuts.specs.KefAccepted.{kef_points}
use Rattle.sound_holes.specs.Chains.{chain_after}
use Rattle.sound_holes.specs.MfkrhSound.{cut, RingFace, old_solid, face_unnamed}
use Rattle.sound_holes.specs.KfmrhAccepted.{kfmrh_of, mfkrh_of}
use Rattle.sound_holes.specs.MfkrhAccepted.{Outcome, mfkrh_accepted, mfkrh_inverse_lem, mfkrh_shows, mfkrh_points}
use Rattle.takedown.specs.Inversion.{solid_at, free_face, edges_left, of_solid, in_ring, ring_half, mfkrh, kef}
use Rattle.inversion.specs.Script.{joins_faces}
use Rattle.inversion.specs.Path.{Path, there, first, acted, joins_in}
use Rattle.inversion.specs.Counts.{solids, faces, loops, edges, vertices, is_stray, strays, count_le_by}
use Rattle.inversion.specs.Same.{words_same, words_fewer, solids_is, faces_is, loops_is, edges_is, vertices_is}
use Rattle.inversion.specs.Same.{free_face_same, stray_same, free_edge_kept, face_or_none}
use Rattle.inversion.specs.OfSolid.{least_some, least_there, both, Of, of_solid_lem, of_mate}
use Rattle.inversion.specs.Turn.{Ready, Change, TurnMade}
use Rattle.inversion.specs.TurnShape.{turned_ring}
use Rattle.inversion.specs.KefLaws.{KefLaw, place_accepted, kef_law, kef_joins}
use Rattle.inversion.specs.TurnCross.{only_root}

-- ---- mfkrh of a ring that shares an edge: k in the ring l of face f₀, its mate in another loop of f₀, face f free

module _ {sh : Shape} {x : List ℕ} {p : List ℤ} (g : Good sh x p) {k l f f₀ s : ℕ} (u : HalfUsed sh (own sh x) k)
    (kl : own sh x Loop k ≡ l) (ml : own sh x Loop (mate k) ≢ l)
    (mf : side (own sh x) (mate k) ≡ f₀) (r : RingFace sh (own sh x) l f f₀ s) where
  -- the new face is linked to the old one by k
  outcome : Outcome sh x l f f₀ s s
  outcome =
      inl (
        refl,
        chain_after _ g.sound l f r.face_in_lem f f₀ r.face_in_lem
            (link (k, u, upd_at (own sh x Face) f kl, upd_off (own sh x Face) f ml ∙ mf)),
      )

  -- with s = 0
  operand : mfkrh_of l f (pick (eqb s s) 0 s) ≡ mfkrh l f
  operand = rw (eqb_same {m = s} refl)

  pub ring_accepted : refusal_of sh x (mfkrh l f) ≡ 0
  ring_accepted = subst (λ o. refusal_of sh x o ≡ 0) operand (mfkrh_accepted _ g.sound g.capacities r outcome)

  ring_inverse : (q : List ℤ) → inverse sh x q (mfkrh l f) ≡ kfmrh_of f₀ f
  ring_inverse q =
      subst (λ o. inverse sh x q o ≡ kfmrh_of f₀ f) operand (mfkrh_inverse_lem _ g.sound g.capacities r outcome q)

  -- the columns afterwards
  pub ring_shows : Shows sh (links_after sh x (mfkrh l f)) (cut (own sh x) l f s s (λ h. false))
  ring_shows =
      let m = (old_solid g.sound r).1 in
      let v = mfkrh_shows _ g.sound g.capacities r outcome (good_shows g) m in
      let w = still_links sh x (mfkrh l f) 10 refl (λ y. refl) (λ y. refl) in
      subst (λ t. Shows sh t (cut (own sh x) l f s s (λ h. false))) (sym w) (rw (eqb_same {m = s} refl) at v)

  -- ---- its columns

  pub mark₁ : (n : ℕ) → In sh.solids n → own sh (links_after sh x (mfkrh l f)) SolidUsed n ≡ own sh x SolidUsed n
  mark₁ n i = ring_shows.at SolidUsed n i.1
      ∙ split n s (λ e. rw e (upd_same _ s 1 ∙ sym (old_solid g.sound r).1)) (λ d. upd_off _ 1 d)

  pub solid₁_new : own sh (links_after sh x (mfkrh l f)) Solid f ≡ s
  solid₁_new = ring_shows.at Solid f r.face_in_lem.1 ∙ upd_same _ f s

  pub solid₁ : (n : ℕ) → In sh.faces n → n ≢ f → own sh (links_after sh x (mfkrh l f)) Solid n ≡ own sh x Solid n
  solid₁ n i d = ring_shows.at Solid n i.1 ∙ upd_off _ s d

  pub face₁_new : own sh (links_after sh x (mfkrh l f)) Face l ≡ f
  face₁_new = ring_shows.at Face l r.loop_in.1 ∙ upd_same _ l f

  pub face₁ : (n : ℕ) → In sh.loops n → n ≢ l → own sh (links_after sh x (mfkrh l f)) Face n ≡ own sh x Face n
  face₁ n i d = ring_shows.at Face n i.1 ∙ upd_off _ f d

  pub start₁ : (i : ℕ) → In (2 * sh.edges) i → own sh (links_after sh x (mfkrh l f)) Start i ≡ own sh x Start i
  start₁ i j = ring_shows.at Start i j.1

  pub loop₁ : (i : ℕ) → In (2 * sh.edges) i → own sh (links_after sh x (mfkrh l f)) Loop i ≡ own sh x Loop i
  loop₁ i j = ring_shows.at Loop i j.1

  -- ---- its counts

  s_some : s ≢ 0
  s_some z = omega (arith, (old_solid g.sound r).0.0, z)

  pub solids₁ : solids sh (links_after sh x (mfkrh l f)) ≡ solids sh x
  solids₁ = solids_is sh _ ∙ words_same sh.solids _ _ mark₁ ∙ sym (solids_is sh x)

  pub faces₁ : suc (faces sh x) ≡ faces sh (links_after sh x (mfkrh l f))
  faces₁ = ap suc (faces_is sh x)
      ∙ words_fewer sh.faces _ _ f r.face_in_lem r.face_free (λ z. s_some (sym solid₁_new ∙ z)) (λ n i d. sym
      (solid₁ n i d)) ∙ sym (faces_is sh _)

  pub edges₁ : edges sh (links_after sh x (mfkrh l f)) ≡ edges sh x
  edges₁ = edges_is sh _ ∙ words_same sh.edges _ _ (λ e i. start₁ (2 * e) (omega (arith, i.0), omega (arith, i.1)))
      ∙ sym (edges_is sh x)

  pub vertices₁ : vertices sh (links_after sh x (mfkrh l f)) ≡ vertices sh x
  vertices₁ = vertices_is sh _ ∙ words_same sh.vertices _ _ (λ n i. ring_shows.at VertexUsed n i.1)
      ∙ sym (vertices_is sh x)

  -- its inverse joins two faces of one solid
  pub ring_joins : (q : List ℤ) → bit (joins_faces sh (links_after sh x (mfkrh l f)) (inverse sh x q (mfkrh l f))) ≡ 1
  ring_joins q =
      rw (
        ring_inverse q,
        le-leb f₀ most_halves small,
        le-leb f most_halves (omega (arith, r.face_in_lem.1, g.capacities.faces)),
        solid₁_new,
        solid₁ f₀ in₀ f₀f,
        r.face_solid_lem,
        eqb_same {m = s} refl,
      )
    where
      in₀ : In sh.faces f₀
      in₀ = let i = g.sound.solids.side_in_lem (mate k) (g.sound.rules.mate_in k u) in
          subst (In sh.faces) mf (i.0, i.1)

      small : f₀ ≤ most_halves
      small = omega (arith, in₀.1, g.capacities.faces)

      f₀f : f₀ ≢ f
      f₀f e = s_some (sym r.face_solid_lem ∙ ap (own sh x Solid) e ∙ r.face_free)

  -- ---- then kef k

  pub place₁ : KefPlace sh (own sh (links_after sh x (mfkrh l f))) k
  place₁ =
      let im = g.sound.rules.mate_in k u in
      let lk = loop₁ k (u.0, u.1) ∙ kl in
      let ef : side (own sh (links_after sh x (mfkrh l f))) k ≡ f = ap (own sh (links_after sh x (mfkrh l f)) Face) lk
      ∙ face₁_new in
      record {
        used = (u.0, u.1, λ z. u.2 (sym (start₁ k (u.0, u.1)) ∙ z));
        one = λ n i e. split n l (λ q. q ∙ sym lk)
            (λ d. absurd (face_unnamed g.sound r n i (sym (face₁ n i d) ∙ e ∙ ef)));
        other = λ e.
            let hm = g.sound.half (mate k) (im.0, im.1) im.2 in
            face_unnamed g.sound r (own sh x Loop (mate k)) hm.loop_in
            (sym (face₁ (own sh x Loop (mate k)) hm.loop_in ml)
            ∙ ap (own sh (links_after sh x (mfkrh l f)) Face) (sym (loop₁ (mate k) (im.0, im.1))) ∙ e ∙ ef);
      }

  -- ---- both together

  pub good₁ : Good sh (links_after sh x (mfkrh l f)) p
  good₁ = subst (Good sh (links_after sh x (mfkrh l f))) (mfkrh_points sh x l f 0 p)
      (all_hold sh x p (mfkrh l f) g refl ring_accepted).0

  -- the table after the turn
  abbrev y : List ℕ
  y = links_after sh (links_after sh x (mfkrh l f)) (kef k)

  law₂ : KefLaw sh (links_after sh x (mfkrh l f)) (links_after sh (links_after sh x (mfkrh l f)) (kef k)) k
  law₂ = kef_law good₁ place₁

  loop_k : own sh (links_after sh x (mfkrh l f)) Loop k ≡ l
  loop_k = loop₁ k (u.0, u.1) ∙ kl

  side_k : side (own sh (links_after sh x (mfkrh l f))) k ≡ f
  side_k = ap (own sh (links_after sh x (mfkrh l f)) Face) loop_k ∙ face₁_new

  pub solid₂ : (n : ℕ) → In sh.faces n → own sh (links_after sh (links_after sh x (mfkrh l f)) (kef k)) Solid n
      ≡ own sh x Solid n
  solid₂ n i = split n f
      (λ e. ap (own sh (links_after sh (links_after sh x (mfkrh l f)) (kef k)) Solid) (e ∙ sym side_k) ∙ law₂.solid_gone
      ∙ sym (ap (own sh x Solid) e ∙ r.face_free))
      (λ d. law₂.solid n i (λ e. d (e ∙ side_k)) ∙ solid₁ n i d)

  pub face₂_gone : own sh (links_after sh (links_after sh x (mfkrh l f)) (kef k)) Face l ≡ 0
  face₂_gone = ap (own sh (links_after sh (links_after sh x (mfkrh l f)) (kef k)) Face) (sym loop_k) ∙ law₂.face_gone

  pub face₂ : (n : ℕ) → In sh.loops n → n ≢ l → own sh (links_after sh (links_after sh x (mfkrh l f)) (kef k)) Face n
      ≡ own sh x Face n
  face₂ n i d = law₂.face n i (λ e. d (e ∙ loop_k)) ∙ face₁ n i d

  loops₂ : suc (loops sh (links_after sh (links_after sh x (mfkrh l f)) (kef k))) ≡ loops sh x
  loops₂ = ap suc (loops_is sh _) ∙ words_fewer sh.loops _ _ l r.loop_in face₂_gone r.loop_used face₂
      ∙ sym (loops_is sh x)

  strays₂ : strays sh (links_after sh (links_after sh x (mfkrh l f)) (kef k)) ≤ strays sh x
  strays₂ = count_le_by sh.loops _ _ (λ n a b t. split n l
      (λ e. absurd
      (false≢true (gone n (ap (own sh (links_after sh (links_after sh x (mfkrh l f)) (kef k)) Face) e
      ∙ face₂_gone) t)))
      (λ d. sym (stray_same sh x _ solid₂ n (own sh x Face n) (face₂ n (a, b) d) refl (face_or_none g n (a, b))) ∙ t))
    where
      gone : (n : ℕ) → own sh (links_after sh (links_after sh x (mfkrh l f)) (kef k)) Face n ≡ 0
          → is_stray sh (links_after sh (links_after sh x (mfkrh l f)) (kef k)) n ≡ true → false ≡ true
      gone n e t = rw e at t

  pub ring_path : Path sh (links_after sh (links_after sh x (mfkrh l f)) (kef k)) p (mfkrh l f ∷ kef k ∷ []) x p
  ring_path = first (mfkrh l f) refl ring_accepted (first (kef k) refl (place_accepted good₁ place₁)
      (there refl (kef_points sh (links_after sh x (mfkrh l f)) _ k ∙ mfkrh_points sh x l f 0 p)))

  joins₂ : joins_in sh x p (mfkrh l f ∷ kef k ∷ []) ≡ 1
  joins₂ = omega (arith, ring_joins p, kef_joins sh (links_after sh x (mfkrh l f)) (points_after sh x p (mfkrh l f)) k)

  pub ring_change : Change sh x (links_after sh (links_after sh x (mfkrh l f)) (kef k)) 2
      (joins_in sh x p (mfkrh l f ∷ kef k ∷ []))
  ring_change =
      let K = law₂ in
      record {
        euler = omega (
          arith,
          K.same_solids,
          K.fewer_faces,
          K.fewer_edges,
          K.same_vertices,
          solids₁,
          faces₁,
          edges₁,
          vertices₁,
          loops₂,
          joins₂,
        );
        paid = inl (omega (arith, K.same_solids, K.same_vertices, solids₁, vertices₁, loops₂, strays₂, joins₂));
        back = λ z. inl
            (omega (arith, K.same_solids, K.same_vertices, solids₁, vertices₁, loops₂, strays₂, joins₂));
      }

  pub ring_less : edges sh (links_after sh (links_after sh x (mfkrh l f)) (kef k))
      + vertices sh (links_after sh (links_after sh x (mfkrh l f)) (kef k)) < edges sh x + vertices sh x
  ring_less = omega (arith, law₂.fewer_edges, law₂.same_vertices, edges₁, vertices₁)

  pub ring_ready : Ready sh x → Ready sh (links_after sh (links_after sh x (mfkrh l f)) (kef k))
  ring_ready ready = record {
    face = λ z. ready.face (sym (free_face_same sh x _ solid₂) ∙ z);
    edge = free_edge_kept sh x _ (λ i j z. law₂.start_kept i j (start₁ i j ∙ z)) ready.edge;
    loop = inl
        (least_there sh.loops (λ n. eqb (own sh (links_after sh (links_after sh x (mfkrh l f)) (kef k)) Face n) 0) l
        r.loop_in (eqb_same face₂_gone));
  }

-- ---- the turn

module _ {sh : Shape} {x : List ℕ} {p : List ℤ} (g : Good sh x p) (free : free_face sh x ≢ 0) (sn : solid_at sh x ≢ 0)
    (one : faces_in sh x (solid_at sh x) ≡ 1)
    (left : edges_left sh x (solid_at sh x) ≡ true) (some : ring_half sh x (solid_at sh x) ≢ 0) where
  -- what the search says: of the solid, in a ring, the mate in another loop
  pub found : Of g sn (ring_half sh x (solid_at sh x))
      × (own sh x Outer (side (own sh x) (ring_half sh x (solid_at sh x)))
      ≢ own sh x Loop (ring_half sh x (solid_at sh x)))
      × (own sh x Loop (mate (ring_half sh x (solid_at sh x))) ≢ own sh x Loop (ring_half sh x (solid_at sh x)))
  found =
      let k = ring_half sh x (solid_at sh x) in
      let f = least_some (2 * sh.edges) (in_ring sh x (solid_at sh x)) some in
      let a = both (of_solid sh x (solid_at sh x) k && is_ring sh x (own sh x Loop k))
      (not (eqb (own sh x Loop (mate k)) (own sh x Loop k))) f.1 in
      let b = both (of_solid sh x (solid_at sh x) k) (is_ring sh x (own sh x Loop k)) a.0 in (
        of_solid_lem g sn k f.0 b.0,
        λ e. T_not (eqb (own sh x Outer (side (own sh x) k)) (own sh x Loop k)) (true_T b.1) (true_T (eqb_same e)),
        λ e. T_not (eqb (own sh x Loop (mate k)) (own sh x Loop k)) (true_T a.1) (true_T (eqb_same e)),
      )

  abbrev k : ℕ
  k = ring_half sh x (solid_at sh x)

  abbrev l : ℕ
  l = own sh x Loop (ring_half sh x (solid_at sh x))

  pub ring_face : RingFace sh (own sh x) (own sh x Loop (ring_half sh x (solid_at sh x))) (free_face sh x)
      (side (own sh x) (ring_half sh x (solid_at sh x))) (solid_at sh x)
  ring_face =
      let u = found.0 in
      let h = g.sound.half (ring_half sh x (solid_at sh x)) (u.0.0, u.0.1) u.0.2 in
      let f = least_some sh.faces (λ f. eqb (own sh x Solid f) 0) free in
      record {
        loop_in = h.loop_in;
        loop_used = h.loop_used;
        loop_face = refl;
        face_solid_lem = u.1;
        ring =
            found.1;
        face_in_lem = f.0;
        face_free = eqb→eq _ _ (true_T f.1);
      }

  -- the mate lies in the same face
  pub same_face : side (own sh x) (mate (ring_half sh x (solid_at sh x)))
      ≡ side (own sh x) (ring_half sh x (solid_at sh x))
  same_face =
      sym (only_root g sn one (mate (ring_half sh x (solid_at sh x)))
      (of_mate g sn (ring_half sh x (solid_at sh x)) found.0))
      ∙ only_root g sn one (ring_half sh x (solid_at sh x)) found.0

  pub turn_ring : TurnMade sh x p
  unfolding acted
  turn_ring =
      let u = found.0.0 in
      record {
        os = mfkrh (own sh x Loop (ring_half sh x (solid_at sh x))) (free_face sh x)
            ∷ kef (ring_half sh x (solid_at sh x))
            ∷ [];
        y = links_after sh (links_after sh x (mfkrh (own sh x Loop (ring_half sh x (solid_at sh x))) (free_face sh x)))
            (kef (ring_half sh x (solid_at sh x)));
        q = p;
        path = ring_path g u refl found.2 same_face ring_face;
        same = λ w a b. turned_ring sh (solid_at sh x) (face_in sh x (solid_at sh x)) w x a one left some;
        change = ring_change g u refl found.2 same_face ring_face;
        less = ring_less g u refl found.2 same_face ring_face;
        ready = ring_ready g u refl found.2 same_face ring_face;
      }
