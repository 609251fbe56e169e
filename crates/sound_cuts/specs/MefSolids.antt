-- Rule 6 (the faces of a solid hang together across edges) once the edge is in: the face of l becomes two, and the
-- edge links them.
use Rattle.std.specs.Prelude.{◌≡◌, refl, ◌≢◌, ◌⊎◌, List, ℕ, ℤ}
use Rattle.std.proofs.Common.{sym, ap, ◌∙◌, subst, inl, inr, ⊎_elim}
use Rattle.laws.specs.Bools.{split}
use Rattle.laws.specs.Linked.{Linked, same, link, back, via, map_linked}
use Rattle.layout.specs.declared.shape.Shape.{Shape}
use Rattle.layout.specs.Mate.{mate}
use Rattle.layout.specs.Fields.{Solid, Face, Loop, Columns}
use Rattle.sound_tables.specs.Faces.{Share}
use Rattle.sound_tables.specs.Solids.{Solids}
use Rattle.sound_tables.specs.Sound.{HalfUsed, FaceUsed, side, Sound}
use Rattle.sound_tables.specs.Names.{loop_unnamed}
use Rattle.sound_cuts.specs.Relation.{Spot, ba, Cut, used_a, used_to, each, face_l, loop_stays, loop_goes}

module _ {sh : Shape} {p : List ℤ} {c d : Columns} {q : Spot} (k : Cut sh c d q) (s : Sound sh p c) where
  -- the face of l
  abbrev f0 : ℕ
  f0 = c Face q.l

  -- it is in use in c
  pub old_used : FaceUsed sh c (c Face q.l)
  old_used = let r = s.loop q.l k.site.l_in k.site.l_used in (r.face_in_lem.0, r.face_in_lem.1, r.face_used)

  -- a face in use in c is not the new one
  pub not_new : (g : ℕ) → c Solid g ≢ 0 → g ≢ q.f
  not_new g x e = x (ap (c Solid) e ∙ k.site.f_free)

  -- it is in use in d
  face_to : (g : ℕ) → FaceUsed sh c g → FaceUsed sh d g
  face_to g x = (x.0, x.1, λ z. x.2 (sym (k.solid_else g (not_new g x.2)) ∙ z))

  -- the new face is in use
  pub new_used : FaceUsed sh d q.f
  new_used = (k.site.f_in.0, k.site.f_in.1, λ z. old_used.2 (sym k.solid_new ∙ z))

  -- the sides of the new edge
  pub side_a : side d q.a ≡ c Face q.l
  side_a = ap (d Face) k.loop_a ∙ face_l k

  -- the side of b is the new face
  pub side_b : side d q.b ≡ q.f
  side_b = ap (d Face) k.loop_b ∙ k.face_new

  -- the new loop is named by none in c
  pub unnamed : (i : ℕ) → HalfUsed sh c i → c Loop i ≢ q.m
  unnamed i x = loop_unnamed s q.m k.site.m_in k.site.m_free i (x.0, x.1)

  -- another side is as it was, or goes from the old face to the new one
  sides : (i : ℕ) → HalfUsed sh c i → (side d i ≡ side c i) ⊎ ((side c i ≡ f0) × (side d i ≡ q.f))
  sides i x = split (d Loop i) q.m
      (λ e. inr (ap (c Face) (loop_goes k i x e), ap (d Face) e ∙ k.face_new))
      (λ e. inl (ap (d Face) (loop_stays k i x e) ∙ k.face_else (c Loop i) (unnamed i x)))

  -- the old face stays in its solid
  solid_old : d Solid f0 ≡ c Solid f0
  solid_old = k.solid_else f0 (not_new f0 old_used.2)

  -- in the same solid
  solid_side : (i : ℕ) → HalfUsed sh c i → d Solid (side d i) ≡ c Solid (side c i)
  solid_side i x = ⊎_elim
      (λ e. ap (d Solid) e ∙ k.solid_else (side c i) (not_new (side c i) (s.solids.side_in_lem i x).2))
      (λ e. ap (d Solid) e.1 ∙ k.solid_new ∙ ap (c Solid) (sym e.0)) (sides i x)

  -- linked in d
  abbrev L : ℕ → ℕ → Type 0
  L = Linked (Share (HalfUsed sh d) (side d) mate)

  -- the edge links the two faces
  across : L f0 q.f
  across = link (q.a, used_a k, side_a, ap (side d) k.site.ab ∙ side_b)

  -- an old side is linked to what it becomes
  near_side : (i : ℕ) → HalfUsed sh c i → L (side c i) (side d i)
  near_side i x = ⊎_elim (λ e. same (sym e)) (λ e. via f0 (same e.0) (via q.f across (same (sym e.1))))
      (sides i x)

  -- chains of c are chains of d
  chains : {g h : ℕ} → Linked (Share (HalfUsed sh c) (side c) mate) g h → L g h
  chains = map_linked (λ i. i) (λ g h t.
      let x = s.rules.mate_in t.0 t.1 in
      via (side c t.0) (same (sym t.2))
      (via (side d t.0) (near_side t.0 t.1)
      (via (side d (mate t.0)) (link (t.0, used_to k t.0 t.1, refl, refl))
      (via (side c (mate t.0)) (back (near_side (mate t.0) x)) (same t.3)))))

  -- each face is linked to one of c in the same solid
  to_old : (g : ℕ) → FaceUsed sh d g → (h : ℕ) × FaceUsed sh c h × (d Solid g ≡ c Solid h) × L g h
  to_old g x = split g q.f
      (λ e. (f0, old_used, ap (d Solid) e ∙ k.solid_new, via q.f (same e) (back across)))
      (λ e. (g, (x.0, x.1, λ z. x.2 (k.solid_else g e ∙ z)), k.solid_else g e, same refl))

  -- rule 6 with the edge
  pub cut_solids : Solids (HalfUsed sh d) (FaceUsed sh d) (side d) mate (d Solid)
  cut_solids = record {
    side_in_lem = each k (λ i. FaceUsed sh d (side d i)) (subst (FaceUsed sh d) (sym side_a) (face_to f0 old_used))
        (subst (FaceUsed sh d) (sym side_b) new_used)
        (λ i x. ⊎_elim (λ e. subst (FaceUsed sh d) (sym e) (face_to (side c i) (s.solids.side_in_lem i x)))
        (λ e. subst (FaceUsed sh d) (sym e.1) new_used) (sides i x));
    edge = each k (λ i. d Solid (side d (mate i)) ≡ d Solid (side d i))
        (ap (d Solid) (ap (side d) k.site.ab ∙ side_b) ∙ k.solid_new ∙ sym (ap (d Solid) side_a ∙ solid_old))
        (ap (d Solid) (ap (side d) (ba k.site) ∙ side_a) ∙ solid_old ∙ sym (ap (d Solid) side_b ∙ k.solid_new))
        (λ i x. solid_side (mate i) (s.rules.mate_in i x) ∙ s.solids.edge i x ∙ sym (solid_side i x));
    one = λ g h x y e.
        let A = to_old g x in
        let B = to_old h y in
        via A.0 A.3 (via B.0 (chains (s.solids.one A.0 B.0 A.1 B.1 (sym A.2 ∙ e ∙ B.2)))
        (back B.3));
  }
