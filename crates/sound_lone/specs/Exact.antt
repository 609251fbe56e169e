-- The pair mvsf and kvsf, vertex words read as marks (`Marked`): a marked table stays marked, and each is undone by
-- the other to the word, kvsf where the word of the vertex that it kills is 1. Both are `placed` on the columns; going
-- there and back is `place_back`, one lemma for both ways.
use Rattle.std.specs.Prelude.{◌≡◌, refl, ◌≢◌, List, ℕ, ◌≤◌, ◌<◌, T, ℤ, pos, length}
use Rattle.std.proofs.Common.{sym, ap, ◌∙◌, subst, inl, inr, arith}
use Rattle.laws.specs.Bools.{split}
use Rattle.laws.specs.Update.{upd_same, upd_off, upd_at}
use Rattle.script.specs.declared.Operator.{Operator}
use Rattle.layout.specs.declared.shape.Shape.{Shape}
use Rattle.layout.specs.Points.{point_width, coordinate, range_test}
use Rattle.euler.specs.Surgery.{put_point}
use Rattle.codec.specs.Operands.{pattern, rows}
use Rattle.euler.specs.Exec.{use_word, condition, refusal_of, only_loop, only_vertex}
use Rattle.layout.specs.Items.{face_in}
use Rattle.layout.specs.Fields.{Field, SolidUsed, Solid, Face, VertexUsed, Columns}
use Rattle.sound_tables.specs.Cells.{Shows, shows_ext}
use Rattle.sound_tables.specs.WriteLaws.{frame}
use Rattle.sound_tables.specs.WriteBack.{Stand, write_back}
use Rattle.sound_tables.specs.PointLists.{three, put_length, put_at, put_back, put_cleared, points_new, points_cleared}
use Rattle.sound_tables.specs.Good.{own, Marked, marked_shows, marked_after}
use Rattle.sound_tables.specs.Balance.{Balanced, shown_still}
use Rattle.sound_tables.specs.Undone.{Kept, Undone, exact, Low, Gone}
use Rattle.sound_tables.specs.OneOperand.{one_operand}
use Rattle.sound_lone.specs.Placed.{placed_writes, placed, placed_links, shows_placed}
use Rattle.sound_lone.specs.MvsfSound.{Free, mvsf_sound}
use Rattle.sound_lone.specs.KvsfSound.{OneLoop, one_used, kvsf_sound}
use Rattle.sound_lone.specs.Accepted.{mvsf_of, kvsf_of, mvsf_facts, made_one, tested_one, kvsf_links_lem, kvsf_points}
use Rattle.sound_lone.specs.Accepted.{kvsf_inverse, kvsf_accepted, mvsf_links_lem, mvsf_points, mvsf_inverse_lem}
use Rattle.sound_lone.specs.Accepted.{mvsf_accepted, kvsf_killed}

-- ---- there and back

-- the places of a solid, its face, its loop and its vertex written over, and what stood there written back
place_back : (c : Columns) (s f l v m s' l' f' v' m₀ s₀ l₀ f₀ v₀ : ℕ) → Stand c (placed_writes s f l v m₀ s₀ l₀ f₀ v₀)
    → (F : Field) (n : ℕ) → placed (placed c s f l v m s' l' f' v') s f l v m₀ s₀ l₀ f₀ v₀ F n ≡ c F n
place_back c s f l v m s' l' f' v' m₀ s₀ l₀ f₀ v₀ e = write_back (placed_writes s f l v m₀ s₀ l₀ f₀ v₀) c _ e
    (λ F n a. frame (placed_writes s f l v m s' l' f' v') c F n a)

-- ---- mvsf

module _ {sh : Shape} {x : List ℕ} {p : List ℤ} (g : Marked sh x p) {s f l v : ℕ} (r : Free sh (own sh x) s f l v)
    (a b z : ℤ) (range : (i : ℕ) → i < point_width → T (range_test (three a b z i))) where
  -- the columns afterwards
  abbrev d : Columns
  d = placed (own sh x) s f l v 1 s l f v

  -- the list
  abbrev y : List ℕ
  y = placed_links sh x s f l v 1 s l f v

  -- the points
  abbrev q : List ℤ
  q = put_point p v a b z

  -- the list shows the columns
  y_shows : Shows sh y d
  y_shows = shows_placed (marked_shows g) s f l v 1 s l f v r.solid_in r.face_in_lem r.loop_in r.vertex_in

  -- list and points are marked
  y_good : Marked sh y q
  y_good = marked_after g y_shows (λ n. refl) (put_length p v a b z) (mvsf_sound g.sound r
      (points_new sh p (own sh x) d v g.points r.vertex_in g.sound.point
      (λ w n. upd_off (own sh x VertexUsed) 1 n)
      a b z (range 0 (omega arith)) (range 1 (omega arith)) (range 2 (omega arith))
      (upd_same (own sh x VertexUsed) v 1)))

  -- there is the solid that kvsf kills
  y_one : OneLoop sh (own sh y) s f l v
  y_one = made_one g.sound r (λ F n h. y_shows.at F n h)

  -- it is in use
  y_used : own sh y SolidUsed s ≢ 0
  y_used e = omega (arith, sym (upd_same (own sh x SolidUsed) s 1) ∙ sym (y_shows.at SolidUsed s r.solid_in.1) ∙ e)

  -- killed, it leaves the first list
  mvsf_back : placed_links sh y s f l v 0 0 0 0 0 ≡ x
  mvsf_back =
      let k = g.sound.loop_free l r.loop_in r.loop in
      let o = g.sound.face_free f r.face_in_lem r.face in
      let stood : Stand (own sh x) (placed_writes s f l v 0 0 0 0 0)
      = (r.solid, (r.face, (o, (r.loop, (k.0, (k.1, (r.vertex, tt))))))) in
      shows_ext (shows_placed y_shows s f l v 0 0 0 0 0 r.solid_in r.face_in_lem r.loop_in r.vertex_in)
      (marked_shows g) (λ F n i j. place_back (own sh x) s f l v 1 s l f v 0 0 0 0 0 stood F n)

  -- and its point cleared, the first points
  point_back : put_point q v (pos 0) (pos 0) (pos 0) ≡ p
  point_back = put_cleared sh.vertices p v a b z g.points r.vertex_in
      ((g.sound.point v r.vertex_in).zero r.vertex)

  -- the point is read back
  point_at : (i : ℕ) → i < point_width → coordinate q v i ≡ three a b z i
  point_at = put_at p v a b z r.vertex_in.0 (omega (arith, g.points, r.vertex_in.1))

  -- a marked table stays marked, and kvsf gives everything back
  pub mvsf_exact : Kept sh x p (mvsf_of s f l v a b z) × Undone sh x p (mvsf_of s f l v a b z)
  mvsf_exact =
      let caps = g.capacities in
      exact (mvsf_links_lem sh x s f l v a b z caps r) (mvsf_points sh x s f l v a b z caps r p)
      (mvsf_inverse_lem sh x s f l v a b z caps r p)
      y_good (kvsf_accepted _ y_one caps y_used) (kvsf_links_lem _ y_one caps ∙ mvsf_back)
      (kvsf_points _ y_one caps q ∙ point_back) (kvsf_inverse _ y_one caps q
      ∙ (λ t. mvsf_of s f l v (point_at 0 (omega arith) t) (point_at 1 (omega arith) t) (point_at 2 (omega arith) t)))

  -- a vertex is made, no half-edge
  mvsf_still : Balanced sh x (mvsf_of s f l v a b z)
  mvsf_still = shown_still
      (subst (λ t. Shows sh t d) (sym (mvsf_links_lem sh x s f l v a b z g.capacities r)) y_shows) refl refl
      (λ i. refl)
      (λ w i. split w v (λ e. inr (inl (ap (own sh x VertexUsed) e ∙ r.vertex, upd_at (own sh x VertexUsed) 1 e)))
      (λ e. inl (upd_off (own sh x VertexUsed) 1 e)))

-- ---- kvsf

module _ {sh : Shape} {x : List ℕ} {p : List ℤ} (g : Marked sh x p) {s f l v : ℕ} (o : OneLoop sh (own sh x) s f l v)
    (used : own sh x SolidUsed s ≢ 0) where
  -- the columns afterwards
  abbrev kd : Columns
  kd = placed (own sh x) s f l v 0 0 0 0 0

  -- the list
  abbrev ky : List ℕ
  ky = placed_links sh x s f l v 0 0 0 0 0

  -- the points
  abbrev kq : List ℤ
  kq = put_point p v (pos 0) (pos 0) (pos 0)

  -- the list shows the columns
  ky_shows : Shows sh ky kd
  ky_shows = shows_placed (marked_shows g) s f l v 0 0 0 0 0 o.solid_in o.face_in_lem o.loop_in o.vertex_in

  -- list and points are marked
  ky_good : Marked sh ky kq
  ky_good = marked_after g ky_shows (λ n. refl) (put_length p v (pos 0) (pos 0) (pos 0)) (kvsf_sound g.sound o
      (points_cleared sh p (own sh x) kd v g.points o.vertex_in g.sound.point
      (λ w n. upd_off (own sh x VertexUsed) 0 n)))

  -- the four numbers are free
  ky_free : Free sh (own sh ky) s f l v
  ky_free = record {
    solid_in = o.solid_in;
    face_in_lem = o.face_in_lem;
    loop_in = o.loop_in;
    vertex_in = o.vertex_in;
    solid = ky_shows.at SolidUsed s o.solid_in.1 ∙ upd_same _ s 0;
    face = ky_shows.at Solid f o.face_in_lem.1 ∙ upd_same _ f 0;
    loop = ky_shows.at Face l o.loop_in.1 ∙ upd_same _ l 0;
    vertex = ky_shows.at VertexUsed v o.vertex_in.1 ∙ upd_same _ v 0;
  }

  -- a mark that is set is 1
  s_mark : own sh x SolidUsed s ≡ 1
  s_mark = let m = g.sound.solid_mark s o.solid_in in omega (arith, m, used)

  -- made again, it leaves the first list, where the word of the vertex was 1
  kvsf_back : own sh x VertexUsed v ≡ 1 → placed_links sh ky s f l v 1 s l f v ≡ x
  kvsf_back v-mark =
      shows_ext (shows_placed ky_shows s f l v 1 s l f v o.solid_in o.face_in_lem o.loop_in o.vertex_in)
      (marked_shows g) (λ F n i j. place_back (own sh x) s f l v 0 0 0 0 0 1 s l f v
      (s_mark, (o.solid, (o.outer, (o.face, (o.first, (o.isolated, (v-mark, tt))))))) F n)

  -- a marked table stays marked, and mvsf gives everything back
  kvsf_exact : own sh x VertexUsed v ≡ 1 → Kept sh x p (kvsf_of s) × Undone sh x p (kvsf_of s)
  kvsf_exact v-mark =
      let caps = g.capacities in
      let a = coordinate p v 0 in
      let b = coordinate p v 1 in
      let z = coordinate p v 2 in
      let r = (g.sound.point v o.vertex_in).range in
      exact (kvsf_links_lem _ o caps) (kvsf_points _ o caps p) (kvsf_inverse _ o caps p) ky_good
      (mvsf_accepted sh ky s f l v a b z caps ky_free (r 0 (omega arith)) (r 1 (omega arith)) (r 2 (omega arith)))
      (mvsf_links_lem sh ky s f l v a b z caps ky_free ∙ kvsf_back v-mark)
      (mvsf_points sh ky s f l v a b z caps ky_free kq ∙ put_back sh.vertices p v (pos 0) (pos 0) (pos 0)
      g.points o.vertex_in) (mvsf_inverse_lem sh ky s f l v a b z caps ky_free kq)

  -- its vertex is free afterwards
  kvsf_free : Gone sh x (kvsf_of s)
  kvsf_free = rw (kvsf_killed _ o g.capacities, kvsf_links_lem _ o g.capacities)
      (inr (o.vertex_in, ky_free.vertex))

  -- the first of the two
  kvsf_kept : Kept sh x p (kvsf_of s)
  kvsf_kept = rw (kvsf_links_lem _ o g.capacities, kvsf_points _ o g.capacities p) ky_good

  -- and the second
  kvsf_undone : own sh x VertexUsed v ≤ 1 → Undone sh x p (kvsf_of s)
  kvsf_undone low =
      let u : own sh x VertexUsed v ≢ 0 = one_used g.sound o in
      (kvsf_exact (omega (arith, low, u))).1

  -- a vertex is killed, no half-edge
  kvsf_still : Balanced sh x (kvsf_of s)
  kvsf_still = shown_still
      (subst (λ t. Shows sh t kd) (sym (kvsf_links_lem _ o g.capacities)) ky_shows) refl refl (λ i. refl)
      (λ w i. split w v (λ e. inr (inr (upd_at (own sh x VertexUsed) 0 e)))
      (λ e. inl (upd_off (own sh x VertexUsed) 0 e)))

-- ---- as operators

-- what an accepted kvsf kills
kvsf_one : (sh : Shape) (x : List ℕ) (p : List ℤ) (o : Operator) → Marked sh x p → length o.args ≡ 8 → o.code ≡ 2
    → refusal_of sh x o ≡ 0
    → (s : ℕ) × (o ≡ kvsf_of s) × (own sh x SolidUsed s ≢ 0)
    × OneLoop sh (own sh x) s (face_in sh x s) (only_loop sh x s) (only_vertex sh x s)
unfolding pattern rows use_word condition
kvsf_one sh x p o g len e h =
    let k = one_operand sh x 2 1 refl refl refl refl (omega (arith, g.capacities.solids)) refl o len e h in
    (k.n, k.is, k.used, tested_one x g.sound k.n k.range k.used (rw k.small at k.holds))

-- both for mvsf
pub mvsf_holds : (sh : Shape) (x : List ℕ) (p : List ℤ) (o : Operator) → Marked sh x p → length o.args ≡ 8
    → o.code ≡ 1 → refusal_of sh x o ≡ 0 → Kept sh x p o × Undone sh x p o
mvsf_holds sh x p o g len e h =
    let k = mvsf_facts sh x o g.capacities len e h in
    subst (λ q. Kept sh x p q × Undone sh x p q) (sym k.is) (mvsf_exact g k.free k.x k.y k.z k.range)

-- both for kvsf: it is undone where the word of the vertex that it kills is 1
pub kvsf_holds : (sh : Shape) (x : List ℕ) (p : List ℤ) (o : Operator) → Marked sh x p → length o.args ≡ 8
    → o.code ≡ 2 → refusal_of sh x o ≡ 0 → Kept sh x p o × (Low sh x o → Undone sh x p o)
kvsf_holds sh x p o g len e h =
    let k = kvsf_one sh x p o g len e h in
    subst (λ q. Kept sh x p q × (Low sh x q → Undone sh x p q)) (sym k.1)
    (kvsf_kept g k.3 k.2, λ low. kvsf_undone g k.3 k.2 (rw (kvsf_killed _ k.3 g.capacities) at low))

-- what they do to starts and marks
pub mvsf_balanced : (sh : Shape) (x : List ℕ) (p : List ℤ) (o : Operator) → Marked sh x p → length o.args ≡ 8
    → o.code ≡ 1 → refusal_of sh x o ≡ 0 → Balanced sh x o
mvsf_balanced sh x p o g len e h =
    let k = mvsf_facts sh x o g.capacities len e h in
    subst (Balanced sh x) (sym k.is) (mvsf_still g k.free k.x k.y k.z k.range)

pub kvsf_balanced : (sh : Shape) (x : List ℕ) (p : List ℤ) (o : Operator) → Marked sh x p → length o.args ≡ 8
    → o.code ≡ 2 → refusal_of sh x o ≡ 0 → Balanced sh x o
kvsf_balanced sh x p o g len e h =
    let k = kvsf_one sh x p o g len e h in
    subst (Balanced sh x) (sym k.1) (kvsf_still g k.3 k.2)

-- the vertex that kvsf kills is free afterwards
pub kvsf_gone : (sh : Shape) (x : List ℕ) (p : List ℤ) (o : Operator) → Marked sh x p → length o.args ≡ 8
    → o.code ≡ 2 → refusal_of sh x o ≡ 0 → Gone sh x o
kvsf_gone sh x p o g len e h =
    let k = kvsf_one sh x p o g len e h in
    subst (Gone sh x) (sym k.1) (kvsf_free g k.3 k.2)
