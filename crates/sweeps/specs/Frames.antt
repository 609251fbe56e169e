-- What a sweep of loop l leaves alone: half-edges of other loops, starts, loops' faces and lone vertices, faces' solids
-- and outer loops, marks of solids, points of vertices. And how the counts grow.
use Rattle.std.specs.Prelude.{◌≡◌, refl, ◌≢◌, ℕ, suc, ◌+◌, ◌-◌, ◌*◌, ◌<◌, ℤ, List, not}
use Rattle.std.proofs.Common.{sym, ap, ◌∙◌, subst, arith}
use Rattle.laws.specs.Bools.{split, eqb_same, eqb_other}
use Rattle.inversion.specs.Same.{words, words_same, words_fewer, count_fewer_in}
use Rattle.inversion.specs.Counts.{count_same}
use Rattle.layout.specs.declared.shape.Shape.{Shape}
use Rattle.layout.specs.Mate.{mate}
use Rattle.layout.specs.Points.{point_width, coordinate}
use Rattle.layout.specs.Fields.{SolidUsed, Solid, Outer, Face, Isolated, Start, Loop, Next, Prev, VertexUsed}
use Rattle.layout.specs.Fields.{Columns}
use Rattle.sound_tables.specs.EdgeIn.{prev_loop}
use Rattle.sound_tables.specs.Sound.{In, HalfUsed, Sound}
use Rattle.sound_tables.specs.Names.{not_isolated}
use Rattle.chains.specs.Numbers.{odd_mate, same_some, edge_more}
use Rattle.sweeps.specs.Raised.{Raised}
use Rattle.sweeps.specs.Rising.{On}
use Rattle.sweeps.specs.Closed.{Parted, Closed, Lapped}

-- ---- half-edges, loops and points

-- half-edge i is the same in c and in d
pub record SameHalf (c d : Columns) (i : ℕ) : Type 0 where
  pub start : d Start i ≡ c Start i
  pub loop : d Loop i ≡ c Loop i
  pub next : d Next i ≡ c Next i
  pub prev : d Prev i ≡ c Prev i

-- vertex w lies where it lay
abbrev pub SamePoint : List ℤ → List ℤ → ℕ → Type 0
SamePoint p q w = (i : ℕ) → i < point_width → coordinate q w i ≡ coordinate p w i

-- from the table c, p to d, q: the half-edges of loops of which Out holds are the same, each half-edge starts where it
-- did, each loop lies in its face and has its lone vertex or none, each face is of its solid and has its outer loop,
-- each solid has its mark, and each vertex stays in use and lies where it lay
pub record Keeps (sh : Shape) (c : Columns) (p : List ℤ) (d : Columns) (q : List ℤ) (Out : ℕ → Type 0) : Type 0 where
  -- a half-edge in use of such a loop has its start, loop, next and previous one as before
  pub half : (i : ℕ) → HalfUsed sh c i → Out (c Loop i) → SameHalf c d i
  -- each half-edge in use starts where it did
  pub start : (i : ℕ) → HalfUsed sh c i → d Start i ≡ c Start i
  -- each loop in use lies in its face
  pub face : (n : ℕ) → In sh.loops n → c Face n ≢ 0 → d Face n ≡ c Face n
  -- and has the lone vertex that it had, 0 if it had none
  pub isolated : (n : ℕ) → In sh.loops n → c Face n ≢ 0 → d Isolated n ≡ c Isolated n
  -- each face in use is of its solid
  pub solid : (n : ℕ) → In sh.faces n → c Solid n ≢ 0 → d Solid n ≡ c Solid n
  -- and has its outer loop
  pub outer : (n : ℕ) → In sh.faces n → c Solid n ≢ 0 → d Outer n ≡ c Outer n
  -- each solid, in use or not, has its mark
  pub solid_mark : (n : ℕ) → In sh.solids n → d SolidUsed n ≡ c SolidUsed n
  -- each vertex in use stays in use
  pub used : (w : ℕ) → In sh.vertices w → c VertexUsed w ≢ 0 → d VertexUsed w ≢ 0
  -- and lies where it lay
  pub point : (w : ℕ) → In sh.vertices w → c VertexUsed w ≢ 0 → SamePoint p q w

-- at first
pub keeps_all : (sh : Shape) (c : Columns) (p : List ℤ) (Out : ℕ → Type 0) → Keeps sh c p c p Out
keeps_all sh c p Out = record {
  half = λ i u h. record { start = refl; loop = refl; next = refl; prev = refl };
  start = λ i u. refl;
  face = λ n i h. refl;
  isolated = λ n i h. refl;
  solid = λ n i h. refl;
  outer = λ n i h. refl;
  solid_mark = λ n i. refl;
  used = λ w i h. h;
  point = λ w i h j b. refl;
}

-- fewer loops
pub keeps_less : {sh : Shape} {c d : Columns} {p q : List ℤ} {O O' : ℕ → Type 0} → Keeps sh c p d q O
    → ((n : ℕ) → O' n → O n) → Keeps sh c p d q O'
keeps_less k h = record {
  half = λ i u o. k.half i u (h _ o);
  start = k.start;
  face = k.face;
  isolated = k.isolated;
  solid = k.solid;
  outer = k.outer;
  solid_mark = k.solid_mark;
  used = k.used;
  point = k.point;
}

module _ {sh : Shape} {c d : Columns} {p q : List ℤ} {O : ℕ → Type 0} (k : Keeps sh c p d q O) where
  -- half-edges stay in use
  pub half_keeps : (i : ℕ) → HalfUsed sh c i → HalfUsed sh d i
  half_keeps i u = (u.0, u.1, λ z. u.2 (sym (k.start i u) ∙ z))

  -- loops stay in use
  pub loop_keeps : (n : ℕ) → In sh.loops n → c Face n ≢ 0 → d Face n ≢ 0
  loop_keeps n i u z = u (sym (k.face n i u) ∙ z)

  -- faces too
  pub face_keeps : (n : ℕ) → In sh.faces n → c Solid n ≢ 0 → d Solid n ≢ 0
  face_keeps n i u z = u (sym (k.solid n i u) ∙ z)

  -- and half-edges of such a loop are followed as they were
  pub on_keeps : (m i j : ℕ) → O m → On sh c m i j → On sh d m i j
  on_keeps m i j h o =
      let s = k.half i o.0 (subst O (sym o.1) h) in
      (half_keeps i o.0, s.loop ∙ o.1, s.next ∙ o.2)

  -- one after the other
  pub keeps_then : {e : Columns} {r : List ℤ} {O' : ℕ → Type 0} → Keeps sh d q e r O'
      → Keeps sh c p e r (λ n. O n × O' n)
  keeps_then {O' = O'} t = record {
    half = λ i u o.
        let a = k.half i u o.0 in
        let b = t.half i (half_keeps i u) (subst O' (sym a.loop) o.1) in
        record {
          start = b.start ∙ a.start;
          loop = b.loop ∙ a.loop;
          next = b.next ∙ a.next;
          prev = b.prev ∙ a.prev;
        };
    start = λ i u. t.start i (half_keeps i u) ∙ k.start i u;
    face = λ n i u. t.face n i (loop_keeps n i u) ∙ k.face n i u;
    isolated = λ n i u. t.isolated n i (loop_keeps n i u) ∙ k.isolated n i u;
    solid = λ n i u. t.solid n i (face_keeps n i u) ∙ k.solid n i u;
    outer = λ n i u. t.outer n i (face_keeps n i u) ∙ k.outer n i u;
    solid_mark = λ n i. t.solid_mark n i ∙ k.solid_mark n i;
    used = λ w i u. t.used w i (k.used w i u);
    point = λ w i u j h. t.point w i (k.used w i u) j h ∙ k.point w i u j h;
  }

-- mev
pub raised_keeps : {sh : Shape} {p q : List ℤ} {c d : Columns} {l h k v : ℕ} → Sound sh p c → Raised sh c d l h k v
    → HalfUsed sh c h → c Loop h ≡ l → c Start k ≡ 0 → c Start (mate k) ≡ 0 → c VertexUsed v ≡ 0
    → ((w : ℕ) → w ≢ v → SamePoint p q w) → Keeps sh c p d q (λ n. n ≢ l)
raised_keeps {sh} {c = c} {d} {l} {h} {k} {v} S R u lo kf bf vf pt = record {
  half = λ i w e.
      let f1 : i ≢ k = λ z. w.2 (ap (c Start) z ∙ kf) in
      let f2 : i ≢ mate k = λ z. w.2 (ap (c Start) z ∙ bf) in
      let f3 : i ≢ c Prev h = λ z. e (ap (c Loop) z ∙ prev_loop S.rules h u ∙ lo) in
      let f4 : i ≢ h = λ z. e (ap (c Loop) z ∙ lo) in
      record {
        start = R.start_else i w.1 f1 f2;
        loop = R.loop_else i w.1 f1 f2;
        next = R.next_else i w.1 f3 f1 f2;
        prev = R.prev_else i w.1 f4 f1 f2;
      };
  start = λ i w. R.start_else i w.1 (λ z. w.2 (ap (c Start) z ∙ kf)) (λ z. w.2 (ap (c Start) z ∙ bf));
  face = λ n i e. R.face n i.1;
  isolated = λ n i e. split n l
      (λ z. rw z (R.isolated_l ∙ sym (not_isolated S h u lo)))
      (λ z. R.isolated_else n i.1 z);
  solid = λ n i e. R.solid n i.1;
  outer = λ n i e. R.outer n i.1;
  solid_mark = λ n i. R.solids n i.1;
  used = λ w i e z. e (R.vertex_back w i (λ y. e (ap (c VertexUsed) y ∙ vf)) z);
  point = λ w i e. pt w (λ y. e (ap (c VertexUsed) y ∙ vf));
}

-- mef
pub closed_keeps : {sh : Shape} {p q : List ℤ} {c d : Columns} {l h1 h2 a f m : ℕ} → Sound sh p c
    → Parted sh c d l a (mate a) f m → Closed sh c d h1 h2 a
    → HalfUsed sh c h1 → c Loop h1 ≡ l → HalfUsed sh c h2 → c Loop h2 ≡ l → c Start a ≡ 0 → c Start (mate a) ≡ 0
    → c Face m ≡ 0 → c Solid f ≡ 0 → q ≡ p → Keeps sh c p d q (λ n. n ≢ l)
closed_keeps {sh} {c = c} {d} {l} {h1} {h2} {a} {f} {m} S A B u1 l1 u2 l2 af bf mf ff pt = record {
  half = λ i w e.
      let f1 : i ≢ a = λ z. w.2 (ap (c Start) z ∙ af) in
      let f2 : i ≢ mate a = λ z. w.2 (ap (c Start) z ∙ bf) in
      let f3 : i ≢ c Prev h1 = λ z. e (ap (c Loop) z ∙ prev_loop S.rules h1 u1 ∙ l1) in
      let f4 : i ≢ c Prev h2 = λ z. e (ap (c Loop) z ∙ prev_loop S.rules h2 u2 ∙ l2) in
      let f5 : i ≢ h1 = λ z. e (ap (c Loop) z ∙ l1) in
      let f6 : i ≢ h2 = λ z. e (ap (c Loop) z ∙ l2) in
      record {
        start = A.start_else i w.1 f1 f2;
        loop = A.loop_else i w.1 f1 (λ z. e (A.loop_new i w.1 f2 z));
        next = B.next_else i w.1 f1 f2 f3 f4;
        prev = B.prev_else i w.1 f1 f2 f5 f6;
      };
  start = λ i w. A.start_else i w.1 (λ z. w.2 (ap (c Start) z ∙ af)) (λ z. w.2 (ap (c Start) z ∙ bf));
  face = λ n i e. A.face_else n i.1 (λ z. e (ap (c Face) z ∙ mf));
  isolated = λ n i e. split n l
      (λ z. rw z (A.isolated_l ∙ sym (not_isolated S h1 u1 l1)))
      (λ z. A.isolated_else n i.1 z (λ y. e (ap (c Face) y ∙ mf)));
  solid = λ n i e. A.solid_else n i.1 (λ z. e (ap (c Solid) z ∙ ff));
  outer = λ n i e. A.outer_else n i.1 (λ z. e (ap (c Solid) z ∙ ff));
  solid_mark = λ n i. A.solids n i.1;
  used = λ w i e z. e (A.vertex_back w i z);
  point = λ w i e j h. ap (λ t. coordinate t w j) pt;
}

-- mef with way 2
pub lapped_keeps : {sh : Shape} {p q : List ℤ} {c d : Columns} {l h a f m : ℕ} → Sound sh p c
    → Parted sh c d l a (mate a) f m → Lapped sh c d h a → HalfUsed sh c h → c Loop h ≡ l → c Start a ≡ 0
    → c Start (mate a) ≡ 0 → c Face m ≡ 0 → c Solid f ≡ 0 → q ≡ p → Keeps sh c p d q (λ n. n ≢ l)
lapped_keeps {sh} {c = c} {d} {l} {h} {a} {f} {m} S A B u lo af bf mf ff pt = record {
  half = λ i w e.
      let f1 : i ≢ a = λ z. w.2 (ap (c Start) z ∙ af) in
      let f2 : i ≢ mate a = λ z. w.2 (ap (c Start) z ∙ bf) in
      let f3 : i ≢ c Prev h = λ z. e (ap (c Loop) z ∙ prev_loop S.rules h u ∙ lo) in
      let f5 : i ≢ h = λ z. e (ap (c Loop) z ∙ lo) in
      record {
        start = A.start_else i w.1 f1 f2;
        loop = A.loop_else i w.1 f1 (λ z. e (A.loop_new i w.1 f2 z));
        next = B.next_else i w.1 f1 f2 f3;
        prev = B.prev_else i w.1 f1 f2 f5;
      };
  start = λ i w. A.start_else i w.1 (λ z. w.2 (ap (c Start) z ∙ af)) (λ z. w.2 (ap (c Start) z ∙ bf));
  face = λ n i e. A.face_else n i.1 (λ z. e (ap (c Face) z ∙ mf));
  isolated = λ n i e. split n l
      (λ z. rw z (A.isolated_l ∙ sym (not_isolated S h u lo)))
      (λ z. A.isolated_else n i.1 z (λ y. e (ap (c Face) y ∙ mf)));
  solid = λ n i e. A.solid_else n i.1 (λ z. e (ap (c Solid) z ∙ ff));
  outer = λ n i e. A.outer_else n i.1 (λ z. e (ap (c Solid) z ∙ ff));
  solid_mark = λ n i. A.solids n i.1;
  used = λ w i e z. e (A.vertex_back w i z);
  point = λ w i e j h. ap (λ t. coordinate t w j) pt;
}

-- ---- counts

-- e edges, v vertices, f faces and f loops more than in c₀, and the same number of solids
pub record Grew (sh : Shape) (c₀ c : Columns) (e v f : ℕ) : Type 0 where
  pub edges : words sh.edges (λ i. c Start (2 * i)) ≡ words sh.edges (λ i. c₀ Start (2 * i)) + e
  pub vertices : words sh.vertices (c VertexUsed) ≡ words sh.vertices (c₀ VertexUsed) + v
  pub faces : words sh.faces (c Solid) ≡ words sh.faces (c₀ Solid) + f
  pub loops : words sh.loops (c Face) ≡ words sh.loops (c₀ Face) + f
  pub solids : words sh.solids (c SolidUsed) ≡ words sh.solids (c₀ SolidUsed)

-- at first
pub grew_none : (sh : Shape) (c : Columns) → Grew sh c c 0 0 0
grew_none sh c = record {
  edges = omega arith;
  vertices = omega arith;
  faces = omega arith;
  loops = omega arith;
  solids = refl;
}

module _ {sh : Shape} {c₀ c d : Columns} {e v f l : ℕ} (q : Grew sh c₀ c e v f) (k : ℕ) (ki : In sh.edges k)
    (kf : c Start (2 * k) ≡ 0) where
  -- mev
  pub grew_raised : {h w : ℕ} → In sh.vertices w → c VertexUsed w ≡ 0 → Raised sh c d l h (2 * k - 1) w
      → Grew sh c₀ d (e + 1) (v + 1) f
  grew_raised {h} {w} wi wf R =
      let m = odd_mate k ki.0 in
      let a = edge_more sh c d k ki kf (λ z. omega (arith, wi.0, sym R.start_b ∙ ap (d Start) m ∙ z))
      (λ i u x y. R.start_else i u x (λ z. y (z ∙ m))) in
      let b : suc (words sh.vertices (c VertexUsed)) ≡ words sh.vertices (d VertexUsed) =
      count_fewer_in sh.vertices _ _ w wi (ap not (eqb_same wf)) (ap not (eqb_other R.vertex_new))
      (λ i u x. same_some _ _ (R.vertex i u x) (R.vertex_back i u x)) in
      let s = words_same sh.faces (d Solid) (c Solid) (λ n u. R.solid n u.1) in
      let t = words_same sh.loops (d Face) (c Face) (λ n u. R.face n u.1) in
      let o = words_same sh.solids (d SolidUsed) (c SolidUsed) (λ n u. R.solids n u.1) in
      record {
        edges = omega (arith, a, q.edges);
        vertices = omega (arith, b, q.vertices);
        faces = s ∙ q.faces;
        loops = t ∙ q.loops;
        solids = o ∙ q.solids;
      }

  -- mef
  pub grew_parted : {g m : ℕ} → In sh.faces g → c Solid g ≡ 0 → In sh.loops m → c Face m ≡ 0
      → Parted sh c d l (2 * k - 1) (mate (2 * k - 1)) g m → Grew sh c₀ d (e + 1) v (f + 1)
  grew_parted {g} {m} gi gf mi mf A =
      let y = odd_mate k ki.0 in
      let a = edge_more sh c d k ki kf (λ z. A.start_b (ap (d Start) y ∙ z))
      (λ i u x w. A.start_else i u x (λ z. w (z ∙ y))) in
      let b : words sh.vertices (d VertexUsed) ≡ words sh.vertices (c VertexUsed) =
      count_same sh.vertices _ _ (λ i u w. same_some _ _ (A.vertex_back i (u, w)) (A.vertex i (u, w))) in
      let s = words_fewer sh.faces (c Solid) (d Solid) g gi gf A.solid_new
      (λ n u x. sym (A.solid_else n u.1 x)) in
      let t = words_fewer sh.loops (c Face) (d Face) m mi mf (λ z. omega (arith, gi.0, sym A.face_new ∙ z))
      (λ n u x. sym (A.face_else n u.1 x)) in
      let o = words_same sh.solids (d SolidUsed) (c SolidUsed) (λ n u. A.solids n u.1) in
      record {
        edges = omega (arith, a, q.edges);
        vertices = b ∙ q.vertices;
        faces = omega (arith, s, q.faces);
        loops = omega (arith, t, q.loops);
        solids = o ∙ q.solids;
      }
