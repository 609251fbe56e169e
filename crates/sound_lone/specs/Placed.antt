-- A solid s with one face f, whose one loop l is isolated at vertex v: four numbers that name each other and nothing
-- else. mvsf fills this place of a table, kvsf empties it. Both write the same seven words, and both leave a sound
-- table: one proof, with a Bool for the way.
use Rattle.std.specs.Prelude.{◌≡◌, refl, ◌≢◌, Bool, true, false, List, [], ◌∷◌, ◌++◌, ℕ, ◌*◌, ◌≤◌, ℤ}
use Rattle.std.proofs.Common.{sym, ap, ◌∙◌, inl, inr, arith}
use Rattle.laws.specs.Bools.{pick, split, eqb_other}
use Rattle.laws.specs.Update.{upd, upd_same, upd_off}
use Rattle.laws.specs.Search.{least_none}
use Rattle.laws.specs.Linked.{same, link, map_linked}
use Rattle.layout.specs.declared.shape.Shape.{Shape}
use Rattle.layout.specs.Mate.{mate}
use Rattle.layout.specs.Fields.{SolidUsed, Solid, Outer, Face, First, Isolated, Start, Loop, VertexUsed, Columns}
use Rattle.layout.specs.Writes.{Write, write, writes, changes}
use Rattle.euler.specs.Surgery.{face_record, loop_record}
use Rattle.sound_tables.specs.Cells.{Shows}
use Rattle.sound_tables.specs.WriteLaws.{shows_writes}
use Rattle.sound_tables.specs.Solids.{Solids}
use Rattle.sound_tables.specs.Sound.{In, HalfUsed, FaceUsed, side, FaceSound, FirstOrIsolated, LoopSound, HalfSound}
use Rattle.sound_tables.specs.Sound.{VertexSound, alone, joined, PointSound, Sound}

-- solid s and vertex v get the mark m, face f the words s' l', loop l the words f' 0 v'
abbrev pub placed_writes : ℕ → ℕ → ℕ → ℕ → ℕ → ℕ → ℕ → ℕ → ℕ → List Write
placed_writes s f l v m s' l' f' v' =
    write SolidUsed s m ∷ (face_record f s' l' ++ (loop_record l f' 0 v' ++ (write VertexUsed v m ∷ [])))

-- on the columns
abbrev pub placed : Columns → ℕ → ℕ → ℕ → ℕ → ℕ → ℕ → ℕ → ℕ → ℕ → Columns
placed c s f l v m s' l' f' v' = changes (placed_writes s f l v m s' l' f' v') c

-- and on the list
abbrev pub placed_links : Shape → List ℕ → ℕ → ℕ → ℕ → ℕ → ℕ → ℕ → ℕ → ℕ → ℕ → List ℕ
placed_links sh x s f l v m s' l' f' v' = writes sh (placed_writes s f l v m s' l' f' v') x

-- the list shows the columns
pub shows_placed : {sh : Shape} {x : List ℕ} {c : Columns} → Shows sh x c → (s f l v m s' l' f' v' : ℕ)
    → In sh.solids s → In sh.faces f → In sh.loops l → In sh.vertices v
    → Shows sh (placed_links sh x s f l v m s' l' f' v') (placed c s f l v m s' l' f' v')
shows_placed h s f l v m s' l' f' v' is jf il iv =
    shows_writes (placed_writes s f l v m s' l' f' v') h (is, (jf, (jf, (il, (il, (il, (iv, tt)))))))

-- no other item names one of the four, and none of the four names another item
pub record Detached (sh : Shape) (c : Columns) (s f l v : ℕ) : Type 0 where
  pub solid_in : In sh.solids s
  pub face_in_lem : In sh.faces f
  pub loop_in : In sh.loops l
  pub vertex_in : In sh.vertices v
  pub no_face : (g : ℕ) → In sh.faces g → g ≢ f → c Solid g ≢ s
  pub no_loop : (m : ℕ) → In sh.loops m → m ≢ l → c Face m ≢ f
  pub no_lone : (m : ℕ) → In sh.loops m → m ≢ l → c Isolated m ≢ v
  pub no_half : (k : ℕ) → In (2 * sh.edges) k → c Loop k ≢ l
  pub no_start : (k : ℕ) → In (2 * sh.edges) k → c Start k ≢ v
  pub face_own : (n : ℕ) → In sh.solids n → n ≢ s → c Solid f ≢ n
  pub loop_own : (g : ℕ) → In sh.faces g → g ≢ f → c Face l ≢ g
  pub lone_own : (w : ℕ) → In sh.vertices w → w ≢ v → c Isolated l ≢ w

module _ {sh : Shape} {p : List ℤ} {c : Columns} (a : Sound sh p c) {s f l v : ℕ} (o : Detached sh c s f l v) where
  -- the columns afterwards: the place is filled (true) or empty (false)
  abbrev d : Bool → Columns
  d b = placed c s f l v (pick b 1 0) (pick b s 0) (pick b l 0) (pick b f 0) (pick b v 0)

  -- ---- marks

  -- a mark is 0 or 1
  mark : (b : Bool) → pick b 1 0 ≤ 1
  mark true = omega arith
  mark false = omega arith

  -- the solid is in use where the face is
  solid_has : (b : Bool) → d b SolidUsed s ≢ 0 → d b Solid f ≡ s
  solid_has true h = upd_same (c Solid) f s
  solid_has false h = absurd (h (upd_same (c SolidUsed) s 0))

  -- ---- faces

  -- a free face has no outer loop
  face_free : (b : Bool) → d b Solid f ≡ 0 → d b Outer f ≡ 0
  face_free true h = absurd (omega (arith, o.solid_in.0, sym (upd_same (c Solid) f s) ∙ h))
  face_free false h = upd_same (c Outer) f 0

  -- the face of the place
  own_face : (b : Bool) → d b Solid f ≢ 0 → FaceSound sh (d b) f
  own_face true h = record {
    solid_in = simp upd_same o.solid_in;
    solid_used_lem = simp upd_same (λ z. omega (arith, z));
    outer_in = simp upd_same o.loop_in;
    outer_face = simp upd_same;
  }
  own_face false h = absurd (h (upd_same (c Solid) f 0))

  -- another face
  old_face : (b : Bool) (g : ℕ) → In sh.faces g → g ≢ f → d b Solid g ≢ 0 → FaceSound sh (d b) g
  old_face b g i n h =
      let r = a.face g i (simp upd_off at h) in
      let n1 : c Solid g ≢ s = o.no_face g i n in
      let n2 : c Outer g ≢ l = λ e. o.loop_own g i n (ap (c Face) (sym e) ∙ r.outer_face) in
      record {
        solid_in = simp upd_off r.solid_in;
        solid_used_lem = simp upd_off r.solid_used_lem;
        outer_in = simp upd_off r.outer_in;
        outer_face = simp upd_off r.outer_face;
      }

  -- ---- loops

  -- a free loop has no first and is not isolated
  loop_free : (b : Bool) → d b Face l ≡ 0 → (d b First l ≡ 0) × (d b Isolated l ≡ 0)
  loop_free true h = absurd (omega (arith, o.face_in_lem.0, sym (upd_same (c Face) l f) ∙ h))
  loop_free false h = (upd_same (c First) l 0, upd_same (c Isolated) l 0)

  -- the loop of the place
  own_loop : (b : Bool) → d b Face l ≢ 0 → LoopSound sh (d b) l
  own_loop true h = record {
    face_in_lem = simp upd_same o.face_in_lem;
    face_used = simp upd_same (λ z. omega (arith, o.solid_in.0, z));
    first = simp upd_same (sym (least_none (2 * sh.edges) _ (λ k x y. eqb_other (o.no_half k (x, y)))));
    either = inr (simp upd_same (refl, o.vertex_in, λ z. omega (arith, z)));
  }
  own_loop false h = absurd (h (upd_same (c Face) l 0))

  -- another loop has its first or its isolated vertex
  old_either : (b : Bool) (m : ℕ) → In sh.loops m → m ≢ l → FirstOrIsolated sh c m → FirstOrIsolated sh (d b) m
  old_either b m i n (inl y) = inl (simp upd_off y)
  old_either b m i n (inr y) = let n2 : c Isolated m ≢ v = o.no_lone m i n in inr (simp upd_off y)

  -- and its face
  old_loop : (b : Bool) (m : ℕ) → In sh.loops m → m ≢ l → d b Face m ≢ 0 → LoopSound sh (d b) m
  old_loop b m i n h =
      let r = a.loop m i (simp upd_off at h) in
      let n1 : c Face m ≢ f = o.no_loop m i n in
      record {
        face_in_lem = simp upd_off r.face_in_lem;
        face_used = simp upd_off r.face_used;
        first = simp upd_off r.first;
        either = old_either b m i n r.either;
      }

  -- ---- half-edges

  -- each is as before
  half_sound : (b : Bool) (k : ℕ) → In (2 * sh.edges) k → c Start k ≢ 0 → HalfSound sh (d b) k
  half_sound b k i h =
      let r = a.half k i h in
      let n1 : c Start k ≢ v = o.no_start k i in
      let n2 : c Loop k ≢ l = o.no_half k i in
      record {
        start_in = r.start_in;
        start_used = simp upd_off r.start_used;
        loop_in = r.loop_in;
        loop_used = simp upd_off r.loop_used;
      }

  -- ---- vertices

  -- the vertex of the place
  own_vertex : (b : Bool) → d b VertexUsed v ≢ 0 → VertexSound sh (d b) v
  own_vertex true h = alone l o.loop_in (upd_same (c Isolated) l v)
      (λ m j y. split m l (λ x. x) (λ x. absurd (o.no_lone m j x (sym (upd_off (c Isolated) v x) ∙ y)))) o.no_start
  own_vertex false h = absurd (h (upd_same (c VertexUsed) v 0))

  -- another vertex is not that of the place, nor 0
  other : (b : Bool) (w : ℕ) → In sh.vertices w → w ≢ v → pick b v 0 ≢ w
  other true w i n e = n (sym e)
  other false w i n e = omega (arith, i.0, e)

  -- so a loop that is isolated there was so
  was : (b : Bool) (w m : ℕ) → In sh.vertices w → w ≢ v → d b Isolated m ≡ w → c Isolated m ≡ w
  was b w m i n e = split m l
      (λ x. absurd (other b w i n (sym (upd_same (c Isolated) l _) ∙ ap (upd (c Isolated) l (pick b v 0)) (sym x) ∙ e)))
      (λ x. sym (upd_off (c Isolated) _ x) ∙ e)

  -- and all else that is known of it stays
  old_vertex : (b : Bool) (w : ℕ) → In sh.vertices w → w ≢ v → VertexSound sh c w → VertexSound sh (d b) w
  old_vertex b w i n (alone m j e u k) =
      alone m j (upd_off _ _ (λ x. o.lone_own w i n (ap (c Isolated) (sym x) ∙ e)) ∙ e)
      (λ m' j' e'. u m' j' (was b w m' i n e')) k
  old_vertex b w i n (joined u k j e) = joined (λ m j' e'. u m j' (was b w m i n e')) k j e

  -- ---- rule 6

  -- the sides of half-edges stay
  side_same : (b : Bool) (k : ℕ) → HalfUsed sh c k → side (d b) k ≡ side c k
  side_same b k u = upd_off (c Face) _ (o.no_half k (u.0, u.1))

  -- none is the face of the place
  side_other : (k : ℕ) → HalfUsed sh c k → side c k ≢ f
  side_other k u = o.no_loop (c Loop k) (a.half k (u.0, u.1) u.2).loop_in (o.no_half k (u.0, u.1))

  -- another face does not lie in the solid of the place
  apart : (b : Bool) (g h : ℕ) → FaceUsed sh (d b) g → g ≡ f → FaceUsed sh (d b) h → h ≢ f → d b Solid g ≢ d b Solid h
  apart true g h u x w n e =
      o.no_face h (w.0, w.1) n
      (sym (upd_off (c Solid) s n) ∙ sym e ∙ ap (upd (c Solid) f s) x ∙ upd_same (c Solid) f s)
  apart false g h u x w n e = u.2 (ap (upd (c Solid) f 0) x ∙ upd_same (c Solid) f 0)

  -- another face was in use
  used_old : (b : Bool) (g : ℕ) → FaceUsed sh (d b) g → g ≢ f → FaceUsed sh c g
  used_old b g u n = (u.0, u.1, λ z. u.2 (upd_off (c Solid) _ n ∙ z))

  -- so solids are what they were, but for that of the place
  solids : (b : Bool) → Solids (HalfUsed sh (d b)) (FaceUsed sh (d b)) (side (d b)) mate (d b Solid)
  solids b = record {
    side_in_lem = λ k u.
        let r = a.solids.side_in_lem k u in
        let n = side_other k u in
        rw (side_same b k u) (r.0, r.1, simp upd_off r.2);
    edge = λ k u.
        let w = a.rules.mate_in k u in
        let n1 = side_other k u in
        let n2 = side_other (mate k) w in
        rw (side_same b k u, side_same b (mate k) w) (simp upd_off (a.solids.edge k u));
    one = λ g h u w e. split g f
        (λ x. split h f (λ y. same (x ∙ sym y)) (λ y. absurd (apart b g h u x w y e)))
        (λ x. split h f (λ y. absurd (apart b h g w y u x (sym e))) (λ y. map_linked (λ i. i)
        (λ i j t.
        link (
          t.0,
          t.1,
          side_same b t.0 t.1 ∙ t.2,
          side_same b (mate t.0) (a.rules.mate_in t.0 t.1) ∙ t.3,
        ))
        (a.solids.one g h (used_old b g u x) (used_old b h w y)
        (sym (upd_off (c Solid) _ x) ∙ e ∙ upd_off (c Solid) _ y))));
  }

  -- the table is sound afterwards, either way
  pub placed_sound : {q : List ℤ} (b : Bool) → ((w : ℕ) → In sh.vertices w → PointSound q (d b) w) → Sound sh q (d b)
  placed_sound b points = record {
    solid_mark = λ n i. split n s (λ e. rw e (simp upd_same (mark b))) (λ x. simp upd_off (a.solid_mark n i));
    solid = λ n i h. split n s (λ e. (f, o.face_in_lem, solid_has b (λ z. h (ap (d b SolidUsed) e ∙ z)) ∙ sym e)) (λ x.
        let r = a.solid n i (simp upd_off at h) in
        (r.0, r.1, upd_off _ _ (λ e. o.face_own n i x (ap (c Solid) (sym e) ∙ r.2)) ∙ r.2));
    face_free = λ g i h. split g f (λ e. rw e (face_free b (rw e at h)))
        (λ x. upd_off _ _ x ∙ a.face_free g i (sym (upd_off (c Solid) _ x) ∙ h));
    face = λ g i h. split g f (λ e. rw e (own_face b (rw e at h))) (λ x. old_face b g i x h);
    loop_free = λ m i h. split m l (λ e. rw e (loop_free b (rw e at h)))
        (λ x. let r = a.loop_free m i (sym (upd_off (c Face) _ x) ∙ h) in
        (upd_off _ _ x ∙ r.0, upd_off _ _ x ∙ r.1));
    loop = λ m i h. split m l (λ e. rw e (own_loop b (rw e at h))) (λ x. old_loop b m i x h);
    half_free = λ k i h. let r = a.half_free k i h in record { loop = r.loop; next = r.next; prev = r.prev };
    half = half_sound b;
    vertex = λ w i h. split w v (λ e. rw e (own_vertex b (rw e at h)))
        (λ x. old_vertex b w i x (a.vertex w i (simp upd_off at h)));
    point = points;
    rules = a.rules;
    solids = solids b;
  }
