-- What mef between two half-edges of a loop leaves, column by column; the same for mef with way 2 at one half-edge.
use Rattle.std.specs.Prelude.{◌≡◌, refl, ◌≢◌, false, List, ℕ, ◌-◌, ◌*◌, ◌≤◌, ℤ}
use Rattle.std.proofs.Common.{sym, ap, ◌∙◌, subst, inl, inr, arith}
use Rattle.laws.specs.Bools.{eqb_same, eqb_other}
use Rattle.layout.specs.declared.shape.Shape.{Shape}
use Rattle.layout.specs.Mate.{mate}
use Rattle.layout.specs.MateLaws.{mate_range}
use Rattle.layout.specs.Fields.{Field, SolidUsed, Solid, Outer, Face, Isolated, Start, Loop, Next, Prev, VertexUsed}
use Rattle.layout.specs.Fields.{Columns, cap_of, same_field}
use Rattle.euler.specs.Exec.{refusal_of, links_after, points_after}
use Rattle.sound_tables.specs.EdgeIn.{prev_in, next_prev, prev_loop}
use Rattle.sound_tables.specs.Sound.{In, HalfUsed, Sound}
use Rattle.sound_tables.specs.HalfNumbers.{edge_by, way_rest, mate_edge}
use Rattle.sound_tables.specs.Names.{not_isolated, free_halves}
use Rattle.sound_tables.specs.Good.{own, Good, good_shows}
use Rattle.sound_cuts.specs.Relation.{Spot, Seated, Site, Cut}
use Rattle.sound_cuts.specs.MefSound.{cut_sound}
use Rattle.sound_cuts.specs.MefShown.{cut_shows}
use Rattle.sound_cuts.specs.MefOperands.{mef_of}
use Rattle.sound_cuts.specs.MefAccepted.{mef_at, mef_accepted, mef_links_lem, mef_points}
use Rattle.sound_cuts.specs.MefPlace.{cut_columns, mef_cut, mef_marked}
use Rattle.sound_valence.specs.Kept.{links_else, links_used}

-- what mef needs: a loop in use, a free edge, face and loop
pub record MefFits (sh : Shape) (c : Columns) (l e f m : ℕ) : Type 0 where
  pub l_in : In sh.loops l
  pub l_used : c Face l ≢ 0
  pub e_in : In sh.edges e
  pub e_free : c Start (2 * e) ≡ 0
  pub f_in : In sh.faces f
  pub f_free : c Solid f ≡ 0
  pub m_in : In sh.loops m
  pub m_free : c Face m ≡ 0

-- what it leaves of all that it does not touch, and of the loops: half a in loop l, which has no lone vertex, its mate
-- b in loop m, the outer one of the new face f
pub record Parted (sh : Shape) (c d : Columns) (l a b f m : ℕ) : Type 0 where
  pub start_a : d Start a ≢ 0
  pub start_b : d Start b ≢ 0
  pub start_else : (i : ℕ) → i ≤ 2 * sh.edges → i ≢ a → i ≢ b → d Start i ≡ c Start i
  pub loop_a : d Loop a ≡ l
  pub loop_b : d Loop b ≡ m
  pub loop_new : (i : ℕ) → i ≤ 2 * sh.edges → i ≢ b → d Loop i ≡ m → c Loop i ≡ l
  pub loop_else : (i : ℕ) → i ≤ 2 * sh.edges → i ≢ a → d Loop i ≢ m → d Loop i ≡ c Loop i
  pub face_new : d Face m ≡ f
  pub face_else : (n : ℕ) → n ≤ sh.loops → n ≢ m → d Face n ≡ c Face n
  -- loop l has no lone vertex
  pub isolated_l : d Isolated l ≡ 0
  -- a loop that is neither l nor m has the one it had, 0 for none
  pub isolated_else : (n : ℕ) → n ≤ sh.loops → n ≢ l → n ≢ m → d Isolated n ≡ c Isolated n
  pub solid_else : (n : ℕ) → n ≤ sh.faces → n ≢ f → d Solid n ≡ c Solid n
  -- the new face has loop m as its outer one
  pub outer_new : d Outer f ≡ m
  -- each other face has its outer loop
  pub outer_else : (n : ℕ) → n ≤ sh.faces → n ≢ f → d Outer n ≡ c Outer n
  pub vertex : (w : ℕ) → In sh.vertices w → c VertexUsed w ≡ 0 → d VertexUsed w ≡ 0
  pub vertex_back : (w : ℕ) → In sh.vertices w → d VertexUsed w ≡ 0 → c VertexUsed w ≡ 0
  pub solid_new : d Solid f ≢ 0
  pub solids : (n : ℕ) → n ≤ sh.solids → d SolidUsed n ≡ c SolidUsed n

-- next and previous after mef from h1 to h2
pub record Closed (sh : Shape) (c d : Columns) (h1 h2 a : ℕ) : Type 0 where
  pub next_P : d Next (c Prev h1) ≡ a
  pub next_Q : d Next (c Prev h2) ≡ mate a
  pub next_a : d Next a ≡ h2
  pub next_b : d Next (mate a) ≡ h1
  pub next_else : (i : ℕ) → i ≤ 2 * sh.edges → i ≢ a → i ≢ mate a → i ≢ c Prev h1 → i ≢ c Prev h2 → d Next i ≡ c Next i
  pub prev_else : (i : ℕ) → i ≤ 2 * sh.edges → i ≢ a → i ≢ mate a → i ≢ h1 → i ≢ h2 → d Prev i ≡ c Prev i

-- and after mef with way 2 at h
pub record Lapped (sh : Shape) (c d : Columns) (h a : ℕ) : Type 0 where
  pub next_a : d Next a ≡ a
  pub next_b : d Next (mate a) ≡ h
  pub next_Q : d Next (c Prev h) ≡ mate a
  pub next_else : (i : ℕ) → i ≤ 2 * sh.edges → i ≢ a → i ≢ mate a → i ≢ c Prev h → d Next i ≡ c Next i
  pub prev_else : (i : ℕ) → i ≤ 2 * sh.edges → i ≢ a → i ≢ mate a → i ≢ h → d Prev i ≡ c Prev i

-- ---- for any place of the edge

module _ {sh : Shape} {x : List ℕ} {p : List ℤ} (g : Good sh x p) {q : Spot} (o : Site sh (own sh x) q) where
  -- the columns with the edge
  abbrev e : Columns
  e = cut_columns sh (own sh x) q

  -- the edge in them
  k : Cut sh (own sh x) (cut_columns sh (own sh x) q) q
  k = mef_cut g.sound refl o

  -- they are sound
  t : Sound sh p (cut_columns sh (own sh x) q)
  t = cut_sound k (mef_marked g.sound refl o) g.sound

  -- mef is accepted
  accepted : refusal_of sh x (mef_at q) ≡ 0
  accepted = mef_accepted k t (good_shows g) g.capacities g.sound

  -- the columns afterwards, but for words
  read : (F : Field) → same_field VertexUsed F ≡ false → (n : ℕ) → n ≤ cap_of sh F
      → own sh (links_after sh x (mef_at q)) F n ≡ cut_columns sh (own sh x) q F n
  read F s n h =
      links_else (mef_at q) g refl accepted F s n h
      ∙ ap (λ y. own sh y F n) (mef_links_lem k t (good_shows g) g.capacities g.sound)
      ∙ (cut_shows k t (good_shows g) g.sound).at F n h

  -- what is left
  parted : Parted sh (own sh x) (own sh (links_after sh x (mef_at q))) q.l q.a q.b q.f q.m
  parted = record {
    start_a = λ z. o.u_some (sym k.start_a ∙ sym (read Start refl q.a o.a_in.1) ∙ z);
    start_b = λ z. o.v_some (sym k.start_b ∙ sym (read Start refl q.b o.b_in.1) ∙ z);
    start_else = λ i u f n. read Start refl i u ∙ k.start_else i f n;
    loop_a = read Loop refl q.a o.a_in.1 ∙ k.loop_a;
    loop_b = read Loop refl q.b o.b_in.1 ∙ k.loop_b;
    loop_new = λ i u f z. k.loop_new i u f (sym (read Loop refl i u) ∙ z);
    loop_else = λ i u f z. read Loop refl i u ∙ k.loop_else i u f (λ y. z (read Loop refl i u ∙ y));
    face_new = read Face refl q.m o.m_in.1 ∙ k.face_new;
    face_else = λ n u f. read Face refl n u ∙ k.face_else n f;
    isolated_l = read Isolated refl q.l o.l_in.1 ∙ k.isolated_l;
    isolated_else = λ n u f h. read Isolated refl n u ∙ k.isolated_else n f h;
    solid_else = λ n u f. read Solid refl n u ∙ k.solid_else n f;
    outer_new = read Outer refl q.f o.f_in.1 ∙ k.outer_new;
    outer_else = λ n u f. read Outer refl n u ∙ k.outer_else n f;
    vertex = λ w i z.
        (links_used (mef_at q) g refl accepted w i).1
        (ap (λ y. own sh y VertexUsed w) (mef_links_lem k t (good_shows g) g.capacities g.sound)
        ∙ (cut_shows k t (good_shows g) g.sound).at VertexUsed w i.1 ∙ k.others VertexUsed refl w ∙ z);
    vertex_back = λ w i z.
        sym (ap (λ y. own sh y VertexUsed w) (mef_links_lem k t (good_shows g) g.capacities g.sound)
        ∙ (cut_shows k t (good_shows g) g.sound).at VertexUsed w i.1 ∙ k.others VertexUsed refl w)
        ∙ (links_used (mef_at q) g refl accepted w i).0 z;
    solid_new = λ z.
        let u = (t.loop q.m o.m_in (λ y. omega (arith, o.f_in.0, sym k.face_new ∙ y))).face_used in
        u (ap (cut_columns sh (own sh x) q Solid) k.face_new ∙ sym (read Solid refl q.f o.f_in.1) ∙ z);
    solids = λ n u. read SolidUsed refl n u ∙ k.others SolidUsed refl n;
  }

-- ---- by the corners

module _ {sh : Shape} {x : List ℕ} {p : List ℤ} (g : Good sh x p) {l e f m : ℕ} (r : MefFits sh (own sh x) l e f m)
  where
    -- the columns
    abbrev c : Columns
    c = own sh x

    -- the new half
    abbrev a : ℕ
    a = 2 * e - 1

    -- the edge is free
    free : In (2 * sh.edges) (2 * e - 1) × (own sh x Start (2 * e - 1) ≡ 0) × (own sh x Start (mate (2 * e - 1)) ≡ 0)
    free = free_halves g.sound e 0 r.e_in r.e_free

    -- the spot
    abbrev spot : ℕ → ℕ → ℕ → ℕ → ℕ → ℕ → Spot
    spot u v P N Q M = record {
      l = l;
      m = m;
      f = f;
      a = 2 * e - 1;
      b = mate (2 * e - 1);
      u = u;
      v = v;
      P = P;
      N = N;
      Q
          = Q;
      M = M;
    }

    -- half-edges in use are not a
    off_a : (i : ℕ) → HalfUsed sh c i → i ≢ a
    off_a i u z = u.2 (ap (c Start) z ∙ free.1)

    -- nor its mate
    off_b : (i : ℕ) → HalfUsed sh c i → i ≢ mate a
    off_b i u z = u.2 (ap (c Start) z ∙ free.2)

    -- how a half-edge stands before h
    seated : (h N : ℕ) → HalfUsed sh c h → c Loop h ≡ l → HalfUsed sh c N → Seated sh c l (c Start h) (c Prev h) N h
    seated h N u lo v = record {
      before = prev_in g.sound.rules h u;
      after = v;
      corner = u;
      next = next_prev g.sound.rules h u;
      prev = refl;
      loop = prev_loop g.sound.rules h u ∙ lo;
      start = refl;
    }

    -- two corners
    module _ (h1 h2 : ℕ) (u1 : HalfUsed sh (own sh x) h1) (l1 : own sh x Loop h1 ≡ l) (u2 : HalfUsed sh (own sh x) h2)
        (l2 : own sh x Loop h2 ≡ l) (ne : h1 ≢ h2) where
      -- the place of the edge
      abbrev q2 : Spot
      q2 = spot (own sh x Start h1) (own sh x Start h2) (own sh x Prev h1) h2 (own sh x Prev h2) h1

      -- it is one
      site2 : Site sh (own sh x) q2
      site2 =
          let A = eqb_other (off_a h2 u2) in
          let B = eqb_other (off_b h1 u1) in
          record {
            l_in = r.l_in;
            m_in = r.m_in;
            f_in = r.f_in;
            a_in = free.0;
            b_in = mate_range a sh.edges free.0.0 free.0.1;
            ab = refl;
            l_used = r.l_used;
            m_free = r.m_free;
            f_free = r.f_free;
            a_free = free.1;
            b_free = free.2;
            u_some = u1.2;
            v_some = u2.2;
            near = record {
              at_a = rw B (inr (seated h1 h2 u1 l1 u2));
              at_b = rw A (inr (seated h2 h1 u2 l2 u1));
              apart = λ z. ne (sym (next_prev g.sound.rules h1 u1) ∙ ap (c Next) z ∙ next_prev g.sound.rules h2
                  u2);
              N_M = λ z. ne (sym z);
              isolated = rw A (not_isolated g.sound h1 u1 l1);
            };
          }

      -- the operator there
      is2 : mef_at q2 ≡ mef_of l h1 h2 e f m 0
      is2 =
          let A = eqb_other (off_a h2 u2) in
          let B = eqb_other (off_b h1 u1) in
          let w = way_rest e 0 r.e_in.0 in
          let y = mate_edge a free.0.0 ∙ edge_by e 0 r.e_in.0 in
          rw (A, B, w, y)

      -- it is accepted
      pub mef_accepted2 : refusal_of sh x (mef_of l h1 h2 e f m 0) ≡ 0
      mef_accepted2 = subst (λ o. refusal_of sh x o ≡ 0) is2 (accepted g site2)

      -- points stay
      pub mef_points2 : points_after sh x p (mef_of l h1 h2 e f m 0) ≡ p
      mef_points2 = subst (λ o. points_after sh x p o ≡ p) is2 (mef_points sh x p q2)

      -- what is left
      pub mef_parted2 : Parted sh (own sh x) (own sh (links_after sh x (mef_of l h1 h2 e f m 0))) l (2 * e - 1)
          (mate (2 *
          e - 1)) f m
      mef_parted2 = subst (λ o. Parted sh (own sh x) (own sh (links_after sh x o)) l (2 * e - 1) (mate (2 * e - 1)) f m)
          is2 (parted g site2)

      -- what follows what
      pub mef_closed : Closed sh (own sh x) (own sh (links_after sh x (mef_of l h1 h2 e f m 0))) h1 h2 (2 * e - 1)
      mef_closed =
          let k2 = k g site2 in
          let P = prev_in g.sound.rules h1 u1 in
          let Q = prev_in g.sound.rules h2 u2 in
          subst (λ o. Closed sh (own sh x) (own sh (links_after sh x o)) h1 h2 (2 * e - 1)) is2 (record {
            next_P = read g site2 Next refl (c Prev h1) P.1 ∙ k2.next_P;
            next_Q = read g site2 Next refl (c Prev h2) Q.1 ∙ k2.next_Q;
            next_a = read g site2 Next refl a site2.a_in.1 ∙ k2.next_a;
            next_b = read g site2 Next refl (mate a) site2.b_in.1 ∙ k2.next_b;
            next_else = λ i u e1 e2 e3 e4. read g site2 Next refl i u ∙ k2.next_else i e1 e2 e3 e4;
            prev_else = λ i u e1 e2 e3 e4. read g site2 Prev refl i u ∙ k2.prev_else i e1 e2 e4 e3;
          })

    -- one corner
    module _ (h : ℕ) (u : HalfUsed sh (own sh x) h) (lo : own sh x Loop h ≡ l) where
      -- the place of the edge
      abbrev q1 : Spot
      q1 = spot (own sh x Start h) (own sh x Start h) (2 * e - 1) (2 * e - 1) (own sh x Prev h) h

      -- it is one
      site1 : Site sh (own sh x) q1
      site1 =
          let A : _ = eqb_same {m = a} refl in
          let B = eqb_other (off_b h u) in
          record {
            l_in = r.l_in;
            m_in = r.m_in;
            f_in = r.f_in;
            a_in = free.0;
            b_in = mate_range a sh.edges free.0.0 free.0.1;
            ab = refl;
            l_used = r.l_used;
            m_free = r.m_free;
            f_free = r.f_free;
            a_free = free.1;
            b_free = free.2;
            u_some = u.2;
            v_some = u.2;
            near = record {
              at_a = inl (record { before = refl; after = refl; ends = refl });
              at_b = rw A (inr (seated h h u lo u));
              apart = λ z. off_a (c Prev h) (prev_in g.sound.rules h u) (sym z);
              N_M = λ z. off_a h u (sym z);
              isolated = rw (A, B) (not_isolated g.sound h u lo);
            };
          }

      -- the operator there
      is1 : mef_at q1 ≡ mef_of l h h e f m 2
      is1 =
          let A : _ = eqb_same {m = a} refl in
          let B = eqb_other (off_b h u) in
          let w = way_rest e 0 r.e_in.0 in
          let y = mate_edge a free.0.0 ∙ edge_by e 0 r.e_in.0 in
          rw (A, B, w, y)

      -- it is accepted
      pub mef_accepted1 : refusal_of sh x (mef_of l h h e f m 2) ≡ 0
      mef_accepted1 = subst (λ o. refusal_of sh x o ≡ 0) is1 (accepted g site1)

      -- points stay
      pub mef_points1 : points_after sh x p (mef_of l h h e f m 2) ≡ p
      mef_points1 = subst (λ o. points_after sh x p o ≡ p) is1 (mef_points sh x p q1)

      -- what is left
      pub mef_parted1 : Parted sh (own sh x) (own sh (links_after sh x (mef_of l h h e f m 2))) l (2 * e - 1)
          (mate (2 * e
          - 1)) f m
      mef_parted1 = subst (λ o. Parted sh (own sh x) (own sh (links_after sh x o)) l (2 * e - 1) (mate (2 * e - 1)) f m)
          is1 (parted g site1)

      -- what follows what
      pub mef_lapped : Lapped sh (own sh x) (own sh (links_after sh x (mef_of l h h e f m 2))) h (2 * e - 1)
      mef_lapped =
          let k1 = k g site1 in
          let Q = prev_in g.sound.rules h u in
          subst (λ o. Lapped sh (own sh x) (own sh (links_after sh x o)) h (2 * e - 1)) is1 (record {
            next_a = read g site1 Next refl a site1.a_in.1 ∙ k1.next_a;
            next_b = read g site1 Next refl (mate a) site1.b_in.1 ∙ k1.next_b;
            next_Q = read g site1 Next refl (c Prev h) Q.1 ∙ k1.next_Q;
            next_else = λ i v e1 e2 e3. read g site1 Next refl i v ∙ k1.next_else i e1 e2 e1 e3;
            prev_else = λ i v e1 e2 e3. read g site1 Prev refl i v ∙ k1.prev_else i e1 e2 e1 e3;
          })
