-- The columns with the edge are sound where those without it are: rule by rule, the new face and loop, the two loops,
-- the ends.
use Rattle.std.specs.Prelude.{◌≡◌, ◌≢◌, List, ℕ, ◌*◌, ℤ}
use Rattle.std.proofs.Common.{sym, ap, ◌∙◌, subst, inl, inr, ⊎_elim, arith}
use Rattle.laws.specs.Bools.{split}
use Rattle.laws.specs.Search.{least_ext}
use Rattle.layout.specs.declared.shape.Shape.{Shape}
use Rattle.layout.specs.Fields.{Solid, Outer, Face, Isolated, Start, Loop, VertexUsed, Columns}
use Rattle.sound_tables.specs.Sound.{In, HalfUsed, FaceSound, LoopSound, HalfSound, HalfFree, VertexSound, alone}
use Rattle.sound_tables.specs.Sound.{joined, Sound, half_by_lem}
use Rattle.sound_tables.specs.Labels.{label_some}
use Rattle.sound_cuts.specs.Relation.{Spot, Cut, Marked, solid_used_lem, vertex_used, same_name}
use Rattle.sound_cuts.specs.Relation.{each, around, Met, met_u, met_v, isolated_or, face_l, start_c, loop_stays}
use Rattle.sound_cuts.specs.MefRules.{cut_rules}
use Rattle.sound_cuts.specs.MefSolids.{old_used, not_new, new_used, unnamed, cut_solids}

module _ {sh : Shape} {p : List ℤ} {c d : Columns} {q : Spot} (k : Cut sh c d q) (w : Marked sh c d q)
    (s : Sound sh p c) where
  -- as many half-edges
  abbrev n : ℕ
  n = 2 * sh.edges

  -- ---- faces

  -- the new face is sound
  new_face : FaceSound sh d q.f
  new_face =
      let r = s.face (c Face q.l) ((old_used k s).0, (old_used k s).1) (old_used k s).2 in
      record {
        solid_in = rw k.solid_new r.solid_in;
        solid_used_lem = rw (k.solid_new, solid_used_lem k (c Solid (c Face q.l))) r.solid_used_lem;
        outer_in = rw k.outer_new k.site.m_in;
        outer_face = ap (d Face) k.outer_new ∙ k.face_new;
      }

  -- the others stay so
  old_face : (g : ℕ) → In sh.faces g → g ≢ q.f → FaceSound sh c g → FaceSound sh d g
  old_face g i e r = record {
    solid_in = rw (k.solid_else g e) r.solid_in;
    solid_used_lem = rw (k.solid_else g e, solid_used_lem k (c Solid g)) r.solid_used_lem;
    outer_in = rw (k.outer_else g e) r.outer_in;
    outer_face = ap (d Face) (k.outer_else g e)
        ∙ k.face_else (c Outer g) (λ z. omega (arith, i.0, sym r.outer_face ∙ ap (c Face) z ∙ k.site.m_free))
        ∙ r.outer_face;
  }

  -- ---- loops

  -- the new loop has b
  loop_new : LoopSound sh d q.m
  loop_new = record {
    face_in_lem = rw k.face_new k.site.f_in;
    face_used = rw k.face_new (new_used k s).2;
    first = w.first_m;
    either =
        inl (
          λ z. label_some n (d Loop) q.m q.b k.site.b_in k.loop_b
              (sym w.first_m ∙ z),
          k.isolated_m,
        );
  }

  -- the old loop has a
  loop_split : LoopSound sh d q.l
  loop_split = record {
    face_in_lem = rw (face_l k) ((old_used k s).0, (old_used k s).1);
    face_used =
        rw (face_l k, k.solid_else (c Face q.l) (not_new k s _ (old_used k s).2))
        (old_used k s).2;
    first = w.first_l;
    either =
        inl (
          λ z. label_some n (d Loop) q.l q.a k.site.a_in k.loop_a
              (sym w.first_l ∙ z),
          k.isolated_l,
        );
  }

  -- the other loops stay sound
  loop_old : (m : ℕ) → In sh.loops m → m ≢ q.l → m ≢ q.m → LoopSound sh c m → LoopSound sh d m
  loop_old m y e g r = record {
    face_in_lem = rw (k.face_else m g) r.face_in_lem;
    face_used = rw (k.face_else m g, k.solid_else (c Face m) (not_new k s _ r.face_used)) r.face_used;
    first = k.first_else m e g ∙ r.first ∙ least_ext n _ _ (λ i x z. same_name k m y e g i z);
    either = ⊎_elim (λ h. inl (rw (k.first_else m e g, k.isolated_else m e g) h))
        (λ h. inr (rw (k.first_else m e g, k.isolated_else m e g, vertex_used k (c Isolated m)) h)) r.either;
  }

  -- ---- half-edges

  -- a free one is neither of the new ones
  free_half : (i : ℕ) → d Start i ≡ 0 → (i ≢ q.a) × (i ≢ q.b)
  free_half i z = (
    λ e. k.site.u_some (sym k.start_a ∙ ap (d Start) (sym e) ∙ z),
    λ e. k.site.v_some
        (sym k.start_b ∙ ap (d Start) (sym e) ∙ z),
  )

  -- a free half-edge is all zero
  half_free : (i : ℕ) → In n i → d Start i ≡ 0 → HalfFree sh d i
  half_free i j z =
      let x = free_half i z in
      let r = s.half_free i j (sym (k.start_else i x.0 x.1) ∙ z) in
      let o = around k in
      let off : (m : ℕ) → HalfUsed sh d m → i ≢ m = λ m t e. t.2 (ap (d Start) (sym e) ∙ z) in
      record {
        loop = k.loop_else i j.1 x.0 (λ t. omega
            (arith, k.site.l_in.0, sym (k.loop_new i j.1 x.1 t) ∙ r.loop)) ∙ r.loop;
        next = k.next_else i x.0 x.1 (off q.P o.0) (off q.Q o.2) ∙ r.next;
        prev = k.prev_else i x.0 x.1 (off q.N o.1) (off q.M o.3) ∙ r.prev;
      }

  -- the ends of the edge are vertices in use
  end_used : (x : ℕ) → x ≢ 0 → Met sh c q.l x → In sh.vertices x × (c VertexUsed x ≢ 0)
  end_used x o (inl t) = let r = s.half t.0 (t.1.0, t.1.1) t.1.2 in rw (← t.2) (r.start_in, r.start_used)
  end_used x o (inr t) = ⊎_elim (λ h. absurd (o (sym t ∙ h.1))) (λ h. rw (← t) (h.1, h.2))
      (s.loop q.l k.site.l_in k.site.l_used).either

  -- from the values of start and loop
  half_at : (i v m : ℕ) → d Start i ≡ v → d Loop i ≡ m → In sh.vertices v × (c VertexUsed v ≢ 0) → In sh.loops m
      → d Face m ≢ 0 → HalfSound sh d i
  half_at i v m es em x y z = half_by_lem v m es em x.0 (rw (vertex_used k v) x.1) y z

  -- a half-edge in use is sound
  half : (i : ℕ) → HalfUsed sh d i → HalfSound sh d i
  half = each k (HalfSound sh d)
      (half_at q.a q.u q.l k.start_a k.loop_a (end_used q.u k.site.u_some (met_u k))
      k.site.l_in (λ z. k.site.l_used (sym (face_l k) ∙ z)))
      (half_at q.b q.v q.m k.start_b k.loop_b (end_used q.v k.site.v_some (met_v k))
      k.site.m_in new_loop_used)
      (λ i x. let r = s.half i (x.0, x.1) x.2 in split (d Loop i) q.m
      (λ e. half_at i (c Start i) q.m (start_c k i x) e
      (r.start_in, r.start_used) k.site.m_in new_loop_used)
      (λ e. half_at i (c Start i) (c Loop i) (start_c k i x)
      (loop_stays k i x e) (r.start_in, r.start_used) r.loop_in
      (λ z. r.loop_used (sym (k.face_else (c Loop i) (unnamed k s i x)) ∙ z))))
    where
      -- the new loop is in use
      new_loop_used : d Face q.m ≢ 0
      new_loop_used z = omega (arith, k.site.f_in.0, sym k.face_new ∙ z)

  -- ---- vertices

  -- a loop isolated in d is another one, and is isolated in c
  isolated_old : (m x : ℕ) → x ≢ 0 → d Isolated m ≡ x → (m ≢ q.l) × (c Isolated m ≡ x)
  isolated_old m x o e =
      let f : m ≢ q.l = λ z. o (sym e ∙ ap (d Isolated) z ∙ k.isolated_l) in
      let g : m ≢ q.m = λ z. o (sym e ∙ ap (d Isolated) z ∙ k.isolated_m) in
      (f, sym (k.isolated_else m f g) ∙ e)

  -- a vertex is isolated, or starts something, as before
  vertex : (x : ℕ) → In sh.vertices x → VertexSound sh c x → VertexSound sh d x
  vertex x i (alone m j e only st) =
      let o : x ≢ 0 = λ z. omega (arith, i.0, z) in
      split m q.l
      (λ f. joined (λ m' j' z. let t = isolated_old m' x o z in t.0 (only m' j' t.1 ∙ f)) q.a k.site.a_in
      (⊎_elim (λ t. absurd (o (sym e ∙ ap (c Isolated) f ∙ t))) (λ t. k.start_a ∙ sym t ∙ ap (c Isolated) (sym f) ∙ e)
      (isolated_or k.site.near)))
      (λ f. alone m j (k.isolated_else m f (λ z. o (sym e ∙ ap (c Isolated) z ∙ k.isolated_free)) ∙ e)
      (λ m' j' z. only m' j' (isolated_old m' x o z).1)
      (λ i' j' z. split i' q.a
      (λ g. not_met f q.u (sym k.start_a ∙ ap (d Start) (sym g) ∙ z) (met_u k))
      (λ g. split i' q.b
      (λ g'. not_met f q.v (sym k.start_b ∙ ap (d Start) (sym g') ∙ z) (met_v k))
      (λ g'. st i' j' (sym (k.start_else i' g g') ∙ z)))))
    where
      -- a vertex isolated elsewhere is no end of the edge
      not_met : m ≢ q.l → (y : ℕ) → y ≡ x → Met sh c q.l y → ⊥
      not_met f y z (inl t) = st t.0 (t.1.0, t.1.1) (t.2 ∙ z)
      not_met f y z (inr t) = f (sym (only q.l k.site.l_in (t ∙ z)))
  vertex x i (joined st i' j e) =
      let o : x ≢ 0 = λ z. omega (arith, i.0, z) in
      joined (λ m j' z. st m j' (isolated_old m x o z).1) i' j
      (k.start_else i' (λ z. o (sym e ∙ ap (c Start) z ∙ k.zero_a.s))
      (λ z. o (sym e ∙ ap (c Start) z ∙ k.zero_b.s)) ∙ e)

  -- ---- all

  -- a face in use in d was in use, or is the new one
  face_was : (g : ℕ) → d Solid g ≡ 0 → g ≢ q.f
  face_was g z e = (new_used k s).2 (ap (d Solid) (sym e) ∙ z)

  -- the columns with the edge are sound
  pub cut_sound : Sound sh p d
  cut_sound = record {
    solid_mark = λ m i. rw (solid_used_lem k m) (s.solid_mark m i);
    solid = λ m i h. let r = s.solid m i (λ z. h (solid_used_lem k m ∙ z)) in (
      r.0,
      r.1,
      k.solid_else r.0 (λ z. omega (arith, i.0, sym r.2 ∙ ap (c Solid) z ∙ k.site.f_free))
          ∙ r.2,
    );
    face_free = λ g i h. let e = face_was g h in k.outer_else g e ∙ s.face_free g i (sym (k.solid_else g e) ∙ h);
    face = λ g i h. split g q.f (λ e. subst (FaceSound sh d) (sym e) new_face)
        (λ e. old_face g i e (s.face g i (λ z. h (k.solid_else g e ∙ z))));
    loop_free = λ m i h.
        let g : m ≢ q.m = λ z. omega (arith, k.site.f_in.0, sym k.face_new ∙ ap (d Face) (sym z) ∙ h) in
        let e : m ≢ q.l = λ z. k.site.l_used (sym (face_l k) ∙ ap (d Face) (sym z) ∙ h) in
        let r = s.loop_free m i (sym (k.face_else m g) ∙ h) in
        (k.first_else m e g ∙ r.0, k.isolated_else m e g ∙ r.1);
    loop = λ m i h. split m q.m (λ e. subst (LoopSound sh d) (sym e) loop_new)
        (λ e. split m q.l (λ g. subst (LoopSound sh d) (sym g) loop_split)
        (λ g. loop_old m i g e (s.loop m i (λ z. h (k.face_else m e ∙ z)))));
    half_free = half_free;
    half = λ i j h. half i (j.0, j.1, h);
    vertex = λ x i h. vertex x i (s.vertex x i (λ z. h (vertex_used k x ∙ z)));
    point = λ x i. record { range = (s.point x i).range; zero = λ h. (s.point x i).zero (sym (vertex_used k x) ∙ h) };
    rules = cut_rules k w s;
    solids = cut_solids k s;
  }
