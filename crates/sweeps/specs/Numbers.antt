-- The numbers that a sweep takes, in order: those that are not yet taken are free, those that were taken and those in
-- use at the call are in use. So the next of a kind is the least that is free.
use Rattle.std.specs.Prelude.{◌≡◌, refl, ◌≢◌, false, List, ℕ, ◌+◌, ◌-◌, ◌*◌, ◌≤◌, ◌<◌, eqb, ℤ}
use Rattle.std.proofs.Common.{sym, ap, ◌∙◌, arith}
use Rattle.laws.specs.Bools.{eqb_same, eqb_other}
use Rattle.laws.specs.Search.{least}
use Rattle.codec.specs.Operands.{pattern, rows}
use Rattle.layout.specs.declared.shape.Shape.{Shape}
use Rattle.layout.specs.Mate.{mate}
use Rattle.layout.specs.Fields.{Solid, Face, Start, VertexUsed, Columns}
use Rattle.euler.specs.Exec.{use_word}
use Rattle.sound_tables.specs.Sound.{In}
use Rattle.sound_tables.specs.Good.{own}
use Rattle.sound_spurs.specs.MevAccepted.{Mev, mev_of}
use Rattle.sound_cuts.specs.MefOperands.{mef_of}
use Rattle.chains.specs.Numbers.{Names, odd_mate}
use Rattle.chains.specs.Least.{is_least, all_least, LeastNew, Below, Held, held_none, held_still, held_more, name_least}
use Rattle.sweeps.specs.Raised.{Raised}
use Rattle.sweeps.specs.Closed.{Parted}

-- they are in range, each rank has a number of its own, and what lies below one was in use in c₀ or has an earlier
-- rank; so many edges, so many of the others
pub record Supply (sh : Shape) (c₀ : Columns) (N : Names) (ne n : ℕ) : Type 0 where
  pub edge_in_range : (j : ℕ) → j < ne → In sh.edges (N.edge j)
  pub edge_apart : (i j : ℕ) → i < ne → j < ne → N.edge i ≡ N.edge j → i ≡ j
  pub edge_below : (j : ℕ) → j < ne → Below (λ i. c₀ Start (2 * i)) N.edge j
  pub vertex_in : (j : ℕ) → j < n → In sh.vertices (N.vertex j)
  pub vertex_apart : (i j : ℕ) → i < n → j < n → N.vertex i ≡ N.vertex j → i ≡ j
  pub vertex_below : (j : ℕ) → j < n → Below (c₀ VertexUsed) N.vertex j
  pub face_in_lem : (j : ℕ) → j < n → In sh.faces (N.face j)
  pub face_apart : (i j : ℕ) → i < n → j < n → N.face i ≡ N.face j → i ≡ j
  pub face_below : (j : ℕ) → j < n → Below (c₀ Solid) N.face j
  pub loop_in : (j : ℕ) → j < n → In sh.loops (N.loop j)
  pub loop_apart : (i j : ℕ) → i < n → j < n → N.loop i ≡ N.loop j → i ≡ j
  pub loop_below : (j : ℕ) → j < n → Below (c₀ Face) N.loop j

-- those from these places on are free
pub record Fresh (c : Columns) (N : Names) (ne n e v f : ℕ) : Type 0 where
  pub edges : (j : ℕ) → e ≤ j → j < ne → c Start (2 * N.edge j) ≡ 0
  pub vertices : (j : ℕ) → v ≤ j → j < n → c VertexUsed (N.vertex j) ≡ 0
  pub faces : (j : ℕ) → f ≤ j → j < n → c Solid (N.face j) ≡ 0
  pub loops : (j : ℕ) → f ≤ j → j < n → c Face (N.loop j) ≡ 0

-- the second half of another edge is neither half of edge e
other : (e m : ℕ) → 1 ≤ e → m ≢ e → (2 * m ≢ 2 * e - 1) × (2 * m ≢ mate (2 * e - 1))
other e m i h = (λ y. omega (arith, i, y), λ y. h (omega (arith, y ∙ odd_mate e i)))

module _ {sh : Shape} {N : Names} {ne n e v f : ℕ} {c₀ : Columns} (s : Supply sh c₀ N ne n) {c : Columns}
    (q : Fresh c N ne n e v f) where
  -- the second half of another edge is neither half of this one
  apart : (i j : ℕ) → i < ne → j < ne → i ≢ j
      → (2 * N.edge j ≢ 2 * N.edge i - 1) × (2 * N.edge j ≢ mate (2 * N.edge i - 1))
  apart i j a b z = other (N.edge i) (N.edge j) (s.edge_in_range i a).0 (λ y. z (sym (s.edge_apart j i b a y)))

  -- it is a half-edge
  high : (j : ℕ) → j < ne → 2 * N.edge j ≤ 2 * sh.edges
  high j h = omega (arith, (s.edge_in_range j h).1)

  -- mev with the next edge and vertex
  pub fresh_raised : {d : Columns} {l h : ℕ} → e < ne → v < n → Raised sh c d l h (2 * N.edge e - 1) (N.vertex v)
      → Fresh d N ne n (e + 1) (v + 1) f
  fresh_raised a b R = record {
    edges = λ j h u. let w = apart e j a u (omega arith) in
        R.start_else (2 * N.edge j) (high j u) w.0 w.1 ∙ q.edges j (omega arith) u;
    vertices = λ j h u. R.vertex (N.vertex j) (s.vertex_in j u) (λ z. omega (arith, h, s.vertex_apart j v u b z))
        (q.vertices j (omega arith) u);
    faces = λ j h u. R.solid (N.face j) (s.face_in_lem j u).1 ∙ q.faces j h u;
    loops = λ j h u. R.face (N.loop j) (s.loop_in j u).1 ∙ q.loops j h u;
  }

  -- mef with the next edge, face and loop
  pub fresh_parted : {d : Columns} {l : ℕ} → e < ne → f < n → Parted sh c d l (2 * N.edge e - 1) (mate (2 * N.edge e
      - 1)) (N.face f) (N.loop f)
      → Fresh d N ne n (e + 1) v (f + 1)
  fresh_parted a b A = record {
    edges = λ j h u. let w = apart e j a u (omega arith) in
        A.start_else (2 * N.edge j) (high j u) w.0 w.1 ∙ q.edges j (omega arith) u;
    vertices = λ j h u. A.vertex (N.vertex j) (s.vertex_in j u) (q.vertices j h u);
    faces = λ j h u. A.solid_else (N.face j) (s.face_in_lem j u).1 (λ z. omega (arith, h, s.face_apart j f u b z))
        ∙ q.faces j (omega arith) u;
    loops = λ j h u. A.face_else (N.loop j) (s.loop_in j u).1 (λ z. omega (arith, h, s.loop_apart j f u b z))
        ∙ q.loops j (omega arith) u;
  }

-- ---- those in use

-- what was in use in c₀, and the numbers before these places, are in use in c
pub record Taking (sh : Shape) (c₀ c : Columns) (N : Names) (e v f : ℕ) : Type 0 where
  pub edges : Held sh.edges (λ i. c₀ Start (2 * i)) (λ i. c Start (2 * i)) N.edge e
  pub vertices : Held sh.vertices (c₀ VertexUsed) (c VertexUsed) N.vertex v
  pub faces : Held sh.faces (c₀ Solid) (c Solid) N.face f
  pub loops : Held sh.loops (c₀ Face) (c Face) N.loop f

-- at first
pub taking_none : (sh : Shape) (c : Columns) (N : Names) → Taking sh c c N 0 0 0
taking_none sh c N = record {
  edges = held_none sh.edges (λ i. c Start (2 * i)) N.edge;
  vertices = held_none sh.vertices (c VertexUsed) N.vertex;
  faces = held_none sh.faces (c Solid) N.face;
  loops = held_none sh.loops (c Face) N.loop;
}

module _ {sh : Shape} {c₀ c d : Columns} {N : Names} {e v f l : ℕ} (q : Taking sh c₀ c N e v f) (ei : 1 ≤ N.edge e)
  where
    -- mev with the next edge and vertex
    pub taking_raised : {h : ℕ} → 1 ≤ N.vertex v → Raised sh c d l h (2 * N.edge e - 1) (N.vertex v)
        → Taking sh c₀ d N (e + 1) (v + 1) f
    taking_raised vi R = record {
      edges = held_more sh.edges q.edges
          (λ z. omega (arith, vi, sym R.start_b ∙ ap (d Start) (odd_mate (N.edge e) ei) ∙ z))
          (λ m i n u z. let w = other (N.edge e) m ei n in
          u (sym (R.start_else (2 * m) (omega (arith, i.1)) w.0 w.1) ∙ z));
      vertices = held_more sh.vertices q.vertices R.vertex_new
          (λ m i n u z. u (R.vertex_back m i n z));
      faces = held_still sh.faces q.faces (λ m i u z. u (sym (R.solid m i.1) ∙ z));
      loops = held_still sh.loops q.loops (λ m i u z. u (sym (R.face m i.1) ∙ z));
    }

    -- mef with the next edge, face and loop
    pub taking_parted : 1 ≤ N.face f
        → Parted sh c d l (2 * N.edge e - 1) (mate (2 * N.edge e - 1)) (N.face f) (N.loop f)
        → Taking sh c₀ d N (e + 1) v (f + 1)
    taking_parted fi A = record {
      edges = held_more sh.edges q.edges
          (λ z. A.start_b (ap (d Start) (odd_mate (N.edge e) ei) ∙ z))
          (λ m i n u z. let w = other (N.edge e) m ei n in
          u (sym (A.start_else (2 * m) (omega (arith, i.1)) w.0 w.1) ∙ z));
      vertices = held_still sh.vertices q.vertices (λ m i u z. u (A.vertex_back m i z));
      faces = held_more sh.faces q.faces A.solid_new
          (λ m i n u z. u (sym (A.solid_else m i.1 n) ∙ z));
      loops = held_more sh.loops q.loops (λ z. omega (arith, fi, sym A.face_new ∙ z))
          (λ m i n u z. u (sym (A.face_else m i.1 n) ∙ z));
    }

-- ---- the least

-- a number that is not 0
one : (n : ℕ) → 1 ≤ n → eqb n 0 ≡ false
one n h = let f : n ≢ 0 = λ z. omega (arith, h, z) in eqb_other f

-- mev with the least edge and vertex
mev_least : (sh : Shape) (x : List ℕ) (m : Mev) → 1 ≤ m.edge → 1 ≤ m.vertex
    → least sh.edges (λ i. eqb (own sh x Start (2 * i)) 0) ≡ m.edge
    → least sh.vertices (λ i. eqb (own sh x VertexUsed i) 0) ≡ m.vertex → LeastNew sh x (mev_of m)
unfolding is_least all_least pattern rows use_word
mev_least sh x m ei vi a b =
    rw (a, b, eqb_same {m = m.edge} refl, eqb_same {m = m.vertex} refl, one m.edge ei, one m.vertex vi)

-- mef with the least edge, face and loop
mef_least : (sh : Shape) (x : List ℕ) (l h1 h2 e f m w : ℕ) → 1 ≤ e → 1 ≤ f → 1 ≤ m
    → least sh.edges (λ i. eqb (own sh x Start (2 * i)) 0) ≡ e
    → least sh.faces (λ i. eqb (own sh x Solid i) 0) ≡ f → least sh.loops (λ i. eqb (own sh x Face i) 0) ≡ m
    → LeastNew sh x (mef_of l h1 h2 e f m w)
unfolding is_least all_least pattern rows use_word
mef_least sh x l h1 h2 e f m w ei fi mi a b c =
    rw (a, b, c, eqb_same {m = e} refl, eqb_same {m = f} refl, eqb_same {m = m} refl, one e ei, one f fi, one m mi)

module _ {sh : Shape} (x : List ℕ) {c₀ : Columns} {N : Names} {ne n e v f : ℕ} (s : Supply sh c₀ N ne n)
    (q : Fresh (own sh x) N ne n e v f) (t : Taking sh c₀ (own sh x) N e v f) (ej : e < ne) where
  -- the next edge is the least
  edge_least : least sh.edges (λ i. eqb (own sh x Start (2 * i)) 0) ≡ N.edge e
  edge_least = name_least sh.edges (λ i. c₀ Start (2 * i)) (λ i. own sh x Start (2 * i)) N.edge e
      (s.edge_in_range e ej) (s.edge_below e ej) t.edges (q.edges e (omega arith) ej)

  -- MEV WITH THE NEXT NUMBERS has the least
  pub next_mev : v < n → (l h w : ℕ) (X Y Z : ℤ) → LeastNew sh x (mev_of (record {
    loop = l;
    half = h;
    edge = N.edge e;
    vertex = N.vertex v;
    way = w;
    x = X;
    y = Y;
    z = Z;
  }))
  next_mev vj l h w X Y Z = mev_least sh x _ (s.edge_in_range e ej).0 (s.vertex_in v vj).0 edge_least
      (name_least sh.vertices (c₀ VertexUsed) (own sh x VertexUsed) N.vertex v (s.vertex_in v vj)
      (s.vertex_below v vj) t.vertices (q.vertices v (omega arith) vj))

  -- MEF WITH THE NEXT NUMBERS has the least
  pub next_mef : f < n → (l h1 h2 w : ℕ) → LeastNew sh x (mef_of l h1 h2 (N.edge e) (N.face f) (N.loop f) w)
  next_mef fj l h1 h2 w = mef_least sh x l h1 h2 _ _ _ w (s.edge_in_range e ej).0 (s.face_in_lem f fj).0
      (s.loop_in f fj).0
      edge_least
      (name_least sh.faces (c₀ Solid) (own sh x Solid) N.face f (s.face_in_lem f fj) (s.face_below f fj)
      t.faces (q.faces f (omega arith) fj))
      (name_least sh.loops (c₀ Face) (own sh x Face) N.loop f (s.loop_in f fj) (s.loop_below f fj)
      t.loops (q.loops f (omega arith) fj))
