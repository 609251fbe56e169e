-- The columns without the edge are sound where those with it are: rule by rule, the joined loop, the ends, a loop left
-- isolated.
use Rattle.std.specs.Prelude.{◌≡◌, refl, ◌≢◌, ◌⊎◌, List, ℕ, ◌*◌, ◌≤◌, ℤ}
use Rattle.std.proofs.Common.{sym, ap, ◌∙◌, subst, inl, inr, ⊎_elim, arith}
use Rattle.laws.specs.Bools.{split}
use Rattle.laws.specs.Search.{least_ext}
use Rattle.laws.specs.Linked.{carry}
use Rattle.laws.specs.Permutations.{inj}
use Rattle.laws.specs.Cycles.{alone as lonely}
use Rattle.layout.specs.declared.shape.Shape.{Shape}
use Rattle.layout.specs.Mate.{mate}
use Rattle.layout.specs.Fields.{SolidUsed, Solid, Outer, Face, First, Isolated, Start, Loop, Next, VertexUsed, Columns}
use Rattle.sound_tables.specs.Sound.{In, HalfUsed, first_of, FaceSound, FirstOrIsolated, LoopSound, HalfSound, HalfFree}
use Rattle.sound_tables.specs.Sound.{VertexSound, alone, joined, Sound}
use Rattle.sound_tables.specs.Labels.{label_some, label_none}
use Rattle.sound_cuts.specs.Relation.{Spot, seat, off_a, off_b, Lone, first_corner, ba, Cut, solid_used_lem}
use Rattle.sound_cuts.specs.Relation.{vertex_used, used_a, used_b, used_to, same_name, around, met_u, met_v, Met}
use Rattle.sound_cuts.specs.Relation.{isolated_or, start_c, loop_stays, loop_goes}
use Rattle.sound_cuts.specs.KefRules.{mend_rules}
use Rattle.sound_cuts.specs.KefSolids.{Only, old_used, mend_solids}

module _ {sh : Shape} {p : List ℤ} {c d : Columns} {q : Spot} (k : Cut sh c d q) (only : Only sh d q)
    (first_l : c First q.l ≡ first_of sh c q.l) (t : Sound sh p d) where
  -- as many half-edges
  abbrev n : ℕ
  n = 2 * sh.edges

  -- ---- half-edges

  -- a free half-edge is all zero
  half_free : (i : ℕ) → In n i → c Start i ≡ 0 → HalfFree sh c i
  half_free i j z = split i q.a
      (λ e. subst (HalfFree sh c) (sym e) (record { loop = k.zero_a.l; next = k.zero_a.n; prev = k.zero_a.p }))
      (λ e. split i q.b
      (λ g. subst (HalfFree sh c) (sym g) (record { loop = k.zero_b.l; next = k.zero_b.n; prev = k.zero_b.p }))
      (λ g.
      let z' : d Start i ≡ 0 = k.start_else i e g ∙ z in
      let r = t.half_free i j z' in
      let o = around k in
      let off : (m : ℕ) → HalfUsed sh d m → i ≢ m = λ m x y. x.2 (ap (d Start) (sym y) ∙ z') in
      record {
        loop = sym (k.loop_else i j.1 e (λ y. omega (arith, k.site.m_in.0, sym y ∙ r.loop))) ∙ r.loop;
        next = sym (k.next_else i e g (off q.P o.0) (off q.Q o.2)) ∙ r.next;
        prev = sym (k.prev_else i e g (off q.N o.1) (off q.M o.3)) ∙ r.prev;
      }))

  -- one in use is sound
  half : (i : ℕ) → HalfUsed sh c i → HalfSound sh c i
  half i x =
      let r = t.half i (x.0, x.1) (used_to k i x).2 in
      let e : d Start i ≡ c Start i = start_c k i x in
      let si : In sh.vertices (c Start i) = subst (In sh.vertices) e r.start_in in
      let su : c VertexUsed (c Start i) ≢ 0 =
      λ z. r.start_used (ap (d VertexUsed) e ∙ vertex_used k (c Start i) ∙ z) in
      split (d Loop i) q.m
      (λ g. let y = loop_goes k i x g in
      record { start_in = si; start_used = su; loop_in = rw y k.site.l_in; loop_used = rw y k.site.l_used })
      (λ g. let y = loop_stays k i x g in record {
        start_in = si;
        start_used = su;
        loop_in = subst (In sh.loops) y r.loop_in;
        loop_used = λ z. r.loop_used (k.face_else (d Loop i) g ∙ ap (c Face) y ∙ z);
      })

  -- ---- both halves are alone

  module _ (o : Lone k.site) where
    -- none is left in the loop
    unnamed : (i : ℕ) → In n i → c Loop i ≢ q.l
    unnamed i j e = split (c Start i) 0
        (λ z. omega (arith, k.site.l_in.0, sym e ∙ (half_free i j z).loop))
        (λ z.
        let x : HalfUsed sh c i = (j.0, j.1, z) in
        split (d Loop i) q.m
        (λ g. off_b k.site i x (lonely t.rules.loops (used_b k) (k.next_b ∙ o.1.after) i (used_to k i x)
        (g ∙ sym k.loop_b)))
        (λ g. off_a k.site i x (lonely t.rules.loops (used_a k) (k.next_a ∙ o.0.after) i (used_to k i x)
        (loop_stays k i x g ∙ e ∙ sym k.loop_a))))

    -- and none but the two starts at their vertex
    unstarted : (i : ℕ) → HalfUsed sh c i → c Start i ≢ q.u
    unstarted i x e = ⊎_elim (off_a k.site i x) (off_b k.site i x) ((carry (λ j. (j ≡ q.a) ⊎ (j ≡ q.b)) step
        (t.rules.verts.one q.a i (used_a k) (used_to k i x)
        (k.start_a ∙ sym e ∙ sym (start_c k i x)))).0 (inl refl))
      where
        -- around the vertex b comes after a
        after_a : d Next (mate q.a) ≡ q.b
        after_a = ap (d Next) k.site.ab ∙ k.next_b ∙ o.1.after

        -- and a after b
        after_b : d Next (mate q.b) ≡ q.a
        after_b = ap (d Next) (ba k.site) ∙ k.next_a ∙ o.0.after

        -- so a step leads from the two to the two only
        step : (i j : ℕ) → HalfUsed sh d i × (d Next (mate i) ≡ j)
            → ((i ≡ q.a) ⊎ (i ≡ q.b) → (j ≡ q.a) ⊎ (j ≡ q.b)) × ((j ≡ q.a) ⊎ (j ≡ q.b) → (i ≡ q.a) ⊎ (i ≡ q.b))
        step i j r = (
          ⊎_elim (λ z. inr (sym r.1 ∙ ap (λ y. d Next (mate y)) z ∙ after_a))
              (λ z. inl (sym r.1 ∙ ap (λ y. d Next (mate y)) z ∙ after_b)),
          ⊎_elim (λ z. inr (inj t.rules.verts.perm r.0 (used_b k) (r.1 ∙ z ∙ sym after_b)))
              (λ z. inl (inj t.rules.verts.perm r.0 (used_a k) (r.1 ∙ z ∙ sym after_a))),
        )

  -- a vertex isolated in l starts nothing
  starts_none : (x : ℕ) → x ≢ 0 → c Isolated q.l ≡ x → (i : ℕ) → HalfUsed sh c i → c Start i ≢ x
  starts_none x o e i y z = ⊎_elim (λ r. o (sym e ∙ r.2)) (λ r. unstarted r i y (z ∙ sym e ∙ r.2))
      (first_corner k.site)

  -- ---- loops

  -- loop l has a half-edge, or the vertex of the two
  either_l : FirstOrIsolated sh c q.l
  either_l = ⊎_elim
      (λ o. inl (
        λ z. label_some n (c Loop) q.l (seat q) (o.1.before.0, o.1.before.1) o.1.loop
            (sym first_l ∙ z),
        o.2,
      ))
      (λ o.
      let r = t.half q.a k.site.a_in (used_a k).2 in
      let e : d Start q.a ≡ c Isolated q.l = k.start_a ∙ sym o.2 in
      inr (
        first_l ∙ label_none n (c Loop) q.l (unnamed o),
        subst (In sh.vertices) e r.start_in,
        λ z. r.start_used (ap (d VertexUsed) e ∙ vertex_used k _ ∙ z),
      ))
      (first_corner k.site)

  -- so it is sound
  loop_l : LoopSound sh c q.l
  loop_l =
      let x = old_used k only t in
      record { face_in_lem = (x.0, x.1); face_used = x.2; first = first_l; either = either_l }

  -- the other loops stay so
  loop_old : (m : ℕ) → In sh.loops m → m ≢ q.l → m ≢ q.m → LoopSound sh d m → LoopSound sh c m
  loop_old m y e g r =
      let fe = k.face_else m g in
      let ff = k.first_else m e g in
      let fi = k.isolated_else m e g in
      record {
        face_in_lem = subst (In sh.faces) fe r.face_in_lem;
        face_used = λ z. r.face_used (k.solid_else (d Face m) (only m y g) ∙ ap (c Solid) fe ∙ z);
        first = sym ff ∙ r.first ∙ least_ext n _ _ (λ i x z. sym (same_name k m y e g i z));
        either = ⊎_elim (λ h. inl (λ z. h.0 (ff ∙ z), sym fi ∙ h.1))
            (λ h. inr (
              sym ff ∙ h.0,
              subst (In sh.vertices) fi h.1,
              λ z. h.2
                  (ap (d VertexUsed) fi ∙ vertex_used k _ ∙ z),
            )) r.either;
      }

  -- ---- vertices

  -- a loop isolated in c is l, or is isolated in d
  isolated_old : (m x : ℕ) → x ≢ 0 → c Isolated m ≡ x → m ≢ q.l → d Isolated m ≡ x
  isolated_old m x o e f = k.isolated_else m f (λ z. o (sym e ∙ ap (c Isolated) z ∙ k.isolated_free)) ∙ e

  -- a vertex that is isolated in no loop of d
  module _ (x : ℕ) (o : x ≢ 0) (st : (m : ℕ) → In sh.loops m → d Isolated m ≢ x) where
    -- it still starts one
    by_half : (i : ℕ) → HalfUsed sh c i → c Start i ≡ x → VertexSound sh c x
    by_half i y e = joined (λ m j z. split m q.l (λ g. starts_none x o (ap (c Isolated) (sym g) ∙ z) i y e)
        (λ g. st m j (isolated_old m x o z g))) i (y.0, y.1) e

    -- an end of the edge starts another, or is isolated in l
    by_end : Met sh c q.l x → VertexSound sh c x
    by_end (inl r) = by_half r.0 r.1 r.2
    by_end (inr r) = alone q.l k.site.l_in r
        (λ m j z. split m q.l (λ g. g) (λ g. absurd (st m j (isolated_old m x o z g))))
        (λ i j z. starts_none x o r i (j.0, j.1, λ y. o (sym z ∙ y)) z)

  -- a vertex is isolated, or starts something, as before
  vertex : (x : ℕ) → In sh.vertices x → VertexSound sh d x → VertexSound sh c x
  vertex x i (alone m j e un st) =
      let o : x ≢ 0 = λ z. omega (arith, i.0, z) in
      let f : m ≢ q.l = λ z. o (sym e ∙ ap (d Isolated) z ∙ k.isolated_l) in
      let g : m ≢ q.m = λ z. o (sym e ∙ ap (d Isolated) z ∙ k.isolated_m) in
      alone m j (sym (k.isolated_else m f g) ∙ e)
      (λ m' j' z. split m' q.l
      (λ y. absurd (⊎_elim (λ r. o (sym z ∙ ap (c Isolated) y ∙ r))
      (λ r. st q.a k.site.a_in (k.start_a ∙ sym r ∙ ap (c Isolated) (sym y) ∙ z))
      (isolated_or k.site.near)))
      (λ y. un m' j' (isolated_old m' x o z y)))
      (λ i' j' z. st i' j' (k.start_else i' (λ y. o (sym z ∙ ap (c Start) y ∙ k.zero_a.s))
      (λ y. o (sym z ∙ ap (c Start) y ∙ k.zero_b.s)) ∙ z))
  vertex x i (joined st i' j e) =
      let o : x ≢ 0 = λ z. omega (arith, i.0, z) in
      split i' q.a
      (λ g. by_end x o st (subst (Met sh c q.l) (sym k.start_a ∙ ap (d Start) (sym g) ∙ e) (met_u k)))
      (λ g. split i' q.b
      (λ g'. by_end x o st (subst (Met sh c q.l) (sym k.start_b ∙ ap (d Start) (sym g') ∙ e) (met_v k)))
      (λ g'. let y = sym (k.start_else i' g g') ∙ e in by_half x o st i' (j.0, j.1, λ z. o (sym y ∙ z)) y))

  -- ---- all

  -- the face f is free
  not_f : (g : ℕ) → c Solid g ≢ 0 → g ≢ q.f
  not_f g x e = x (ap (c Solid) e ∙ k.site.f_free)

  -- the other faces stay sound
  face : (g : ℕ) → In sh.faces g → g ≢ q.f → FaceSound sh d g → FaceSound sh c g
  face g i e r =
      let fs = k.solid_else g e in
      let fo = k.outer_else g e in
      record {
        solid_in = subst (In sh.solids) fs r.solid_in;
        solid_used_lem = λ z. r.solid_used_lem (ap (d SolidUsed) fs ∙ solid_used_lem k _ ∙ z);
        outer_in = subst (In sh.loops) fo r.outer_in;
        outer_face = ap (c Face) (sym fo) ∙ sym
            (k.face_else (d Outer g) (λ z. e (sym r.outer_face ∙ ap (d Face) z ∙ k.face_new))) ∙ r.outer_face;
      }

  -- the columns without the edge are sound
  pub mend_sound : Sound sh p c
  mend_sound = record {
    solid_mark = λ m i. subst (λ y. y ≤ 1) (solid_used_lem k m) (t.solid_mark m i);
    solid = λ m i h. let r = t.solid m i (λ z. h (sym (solid_used_lem k m) ∙ z)) in split r.0 q.f
        (λ e. let x = old_used k only t in
        (c Face q.l, (x.0, x.1), sym k.solid_new ∙ ap (d Solid) (sym e) ∙ r.2))
        (λ e. (r.0, r.1, sym (k.solid_else r.0 e) ∙ r.2));
    face_free = λ g i h. split g q.f (λ e. ap (c Outer) e ∙ k.outer_free)
        (λ e. sym (k.outer_else g e) ∙ t.face_free g i (k.solid_else g e ∙ h));
    face = λ g i h. let e = not_f g h in face g i e (t.face g i (λ z. h (sym (k.solid_else g e) ∙ z)));
    loop_free = λ m i h. split m q.m
        (λ e. (ap (c First) e ∙ k.first_free, ap (c Isolated) e ∙ k.isolated_free))
        (λ e. let g : m ≢ q.l = λ z. k.site.l_used (ap (c Face) (sym z) ∙ h) in
        let r = t.loop_free m i (k.face_else m e ∙ h) in
        (sym (k.first_else m g e) ∙ r.0, sym (k.isolated_else m g e) ∙ r.1));
    loop = λ m i h. let e : m ≢ q.m = λ z. h (ap (c Face) z ∙ k.site.m_free) in
        split m q.l (λ g. subst (LoopSound sh c) (sym g) loop_l)
        (λ g. loop_old m i g e (t.loop m i (λ z. h (sym (k.face_else m e) ∙ z))));
    half_free = half_free;
    half = λ i j h. half i (j.0, j.1, h);
    vertex = λ x i h. vertex x i (t.vertex x i (λ z. h (sym (vertex_used k x) ∙ z)));
    point = λ x i. record { range = (t.point x i).range; zero = λ h. (t.point x i).zero (vertex_used k x ∙ h) };
    rules = mend_rules k t.rules;
    solids = mend_solids k only t;
  }
