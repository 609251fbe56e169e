-- The ranks of a solid's vertices: each vertex has one, they are 1 up to how many there are, and the corners of the
-- faces are written by them. So a reader finds at each index the point of that corner.
use Rattle.std.specs.Prelude.{◌≡◌, refl, ◌≢◌, List, [], ◌∷◌, map, ℕ, zero, suc, ◌-◌, ◌*◌, ◌≤◌, ◌<◌, T, eqb, ℤ, length}
use Rattle.std.specs.Prelude.{get_or}
use Rattle.std.proofs.Common.{sym, ap, ◌∙◌, inl, inr, ⊎_elim, arith}
use Rattle.std.proofs.Math.Path.{subst}
use Rattle.std.proofs.lemmas.Simd.{map-map}
use Rattle.std.proofs.Math.Dec.{eqb→eq, eqb_refl}
use Rattle.laws.specs.Bools.{true_T, and_T, T_and, eqb_same}
use Rattle.laws.specs.Search.{any_at, any_of}
use Rattle.layout.specs.declared.shape.Shape.{Shape}
use Rattle.layout.specs.Layout.{face_solid, loop_face, loop_isolated, loop_of, start_of, side}
use Rattle.sound_tables.specs.Sound.{In, HalfUsed, Sound}
use Rattle.sound_tables.specs.Good.{own}
use Rattle.wavefront.specs.Obj.{own_vertex, own_vertices, rank, backwards}
use Rattle.wavefront_read.specs.ReadBack.{point_of, points_of, cycle_of}
use Rattle.wavefront_read.specs.Laps.{Among, turn_among, among_turn}
use Rattle.wavefront_read.specs.TurnedRound.{Showable, onwards, turned_round}
use Rattle.wavefront_read.specs.Passing.{place_of, placed_at}

-- ---- lists

-- what is among a list is, mapped, among the list mapped
among_map : (f : ℕ → ℕ) (k : ℕ) (l : List ℕ) → Among k l → Among (f k) (map f l)
among_map f k [] h = h
among_map f k (a ∷ l) h = ⊎_elim (λ e. inl (ap f e)) (λ i. inr (among_map f k l i)) h

-- and nothing else is
map_among : (f : ℕ → ℕ) (j : ℕ) (l : List ℕ) → Among j (map f l) → (k : ℕ) × Among k l × (f k ≡ j)
map_among f j [] h = absurd h
map_among f j (a ∷ l) h = ⊎_elim (λ e. (a, inl refl, sym e))
    (λ i. let r = map_among f j l i in (r.0, inr r.1, r.2)) h

-- maps that agree on a list
pub map_same : {A : Type 0} (f g : ℕ → A) (l : List ℕ) → ((k : ℕ) → Among k l → f k ≡ g k) → map f l ≡ map g l
map_same f g [] h = refl
map_same f g (a ∷ l) h = rw (h a (inl refl), map_same f g l (λ k i. h k (inr i)))

-- an element of a list that is mapped
get_d_map : {A : Type 0} (f : ℕ → A) (l : List ℕ) (i : ℕ) (d : A) → i < length l
    → get_or (map f l) i d ≡ f (get_or l i 0)
get_d_map f [] i d h = absurd (omega arith)
get_d_map f (a ∷ l) zero d h = refl
get_d_map f (a ∷ l) (suc i) d h = get_d_map f l i d (omega arith)

-- ---- ranks, of any table

module _ (sh : Shape) (x : List ℕ) (s : ℕ) where
  -- v is a vertex of the table that a half-edge of solid s starts at
  abbrev pub OwnVertex : ℕ → Type 0
  OwnVertex v = In sh.vertices v × T (own_vertex sh x s v)

  -- the vertex of a rank, and the range of ranks
  pub rank_names : (v : ℕ) → OwnVertex v
      → (get_or (own_vertices sh x s) (rank sh x s v - 1) 0 ≡ v) × (1 ≤ rank sh x s v)
      × (rank sh x s v ≤ length (own_vertices sh x s))
  rank_names v o =
      let r = place_of sh.vertices (own_vertex sh x s) v o.0 o.1 in
      let e : rank sh x s v - 1 ≡ r.0 = omega (arith, r.1.count) in
      (rw e r.1.at, omega (arith, r.1.count), omega (arith, r.1.count, r.1.within))

  -- two vertices have two ranks
  pub rank_one_to_one : (v w : ℕ) → OwnVertex v → OwnVertex w → rank sh x s v ≡ rank sh x s w → v ≡ w
  rank_one_to_one v w o q e =
      sym (rank_names v o).0 ∙ ap (λ r. get_or (own_vertices sh x s) (r - 1) 0) e ∙ (rank_names w q).0

  -- every number from 1 on up to how many vertices there are is the rank of one
  pub rank_onto : (i : ℕ) → 1 ≤ i → i ≤ length (own_vertices sh x s)
      → OwnVertex (get_or (own_vertices sh x s) (i - 1) 0) × (rank sh x s (get_or (own_vertices sh x s) (i - 1) 0) ≡ i)
  rank_onto i l h =
      let r = placed_at sh.vertices (own_vertex sh x s) (i - 1) (omega arith) in
      rw r.1.at ((r.1.range, r.1.passes), omega (arith, r.1.count))

-- ---- the corners of a solid that OBJ can show

-- where a half-edge of the solid starts is a vertex of it
pub start_own : {sh : Shape} (x : List ℕ) {p : List ℤ} → Sound sh p (own sh x) → {s : ℕ} (k : ℕ)
    → HalfUsed sh (own sh x) k → face_solid sh x (side sh x k) ≡ s → OwnVertex sh x s (start_of sh x k)
unfolding own_vertex
start_own {sh} x a {s} k u e = (
  (a.half k (u.0, u.1) u.2).start_in,
  any_of (2 * sh.edges) _ k u.0 u.1
      (T_and (eqb (start_of sh x k) (start_of sh x k)) (eqb (face_solid sh x (side sh x k)) s)
      (eqb_refl (start_of sh x k))
      (true_T (eqb_same e))),
)

module _ {sh : Shape} {x : List ℕ} {p : List ℤ} (a : Sound sh p (own sh x)) {s : ℕ} (q : Showable sh x s) where
  -- no loop of the solid has an isolated vertex, so all its vertices are starts
  pub all_vertices : (l : ℕ) → In sh.loops l → face_solid sh x (loop_face sh x l) ≡ s → loop_isolated sh x l ≡ 0
  all_vertices l i e =
      let u : loop_face sh x l ≢ 0 = λ z. omega (arith, ap (face_solid sh x) z, e, q.number.0) in
      ⊎_elim (λ h. h.1) (λ h. absurd (q.edged l i e h.0)) (a.loop l i u).either

  module _ (f : ℕ) (i : In sh.faces f) (e : face_solid sh x f ≡ s) where
    -- a half-edge that is written is in use and lies in f
    written_in : (k : ℕ) → Among k (backwards sh x f) → HalfUsed sh (own sh x) k × (side sh x k ≡ f)
    written_in k h =
        let r = turned_round a q f i e in
        r.only k (among_turn k (onwards sh x f) (subst (Among k) r.written h))

    -- and starts at a vertex of the solid
    pub corner_own : (k : ℕ) → Among k (backwards sh x f) → OwnVertex sh x s (start_of sh x k)
    corner_own k h = let w = written_in k h in start_own _ a k w.0 (ap (face_solid sh x) w.1 ∙ e)

    -- each index of a cycle is the rank of a vertex
    pub index_names : (j : ℕ) → Among j (cycle_of sh x s f) → (v : ℕ) × OwnVertex sh x s v × (rank sh x s v ≡ j)
    index_names j h =
        let r = map_among (λ k. rank sh x s (start_of sh x k)) j (backwards sh x f) h in
        (start_of sh x r.0, corner_own r.0 r.1, r.2)

    -- and a reader finds there the point of that corner
    pub corner_points : map (λ j. get_or (points_of sh x p s) (j - 1) []) (cycle_of sh x s f)
        ≡ map (λ k. point_of p (start_of sh x k)) (backwards sh x f)
    corner_points =
        map-map (λ j. get_or (points_of sh x p s) (j - 1) []) (λ k. rank sh x s (start_of sh x k)) (backwards sh x f)
        ∙ map_same _ _ (backwards sh x f) (λ k h.
        let r = rank_names sh x s (start_of sh x k) (corner_own k h) in
        get_d_map (point_of p) (own_vertices sh x s) _ [] (omega (arith, r)) ∙ ap (point_of p) r.0)

  -- the rank of each vertex stands in the cycle of a face
  pub every_used : (v : ℕ) → OwnVertex sh x s v
      → (f : ℕ) × In sh.faces f × (face_solid sh x f ≡ s) × Among (rank sh x s v) (cycle_of sh x s f)
  unfolding own_vertex
  every_used v o =
      let r = any_at (2 * sh.edges) _ o.1 in
      let k = r.0 in
      let y = and_T (eqb (start_of sh x k) v) (eqb (face_solid sh x (side sh x k)) s) r.3 in
      let v_is = eqb→eq (start_of sh x k) v y.0 in
      let u : HalfUsed sh (own sh x) k = (r.1, r.2, λ z. omega (arith, z, v_is, o.0)) in
      let h = a.half k (r.1, r.2) u.2 in
      let f = side sh x k in
      let i = (a.loop (loop_of sh x k) h.loop_in h.loop_used).face_in_lem in
      let e = eqb→eq (face_solid sh x f) s y.1 in
      let w = turned_round a q f i e in
      let m : Among k (backwards sh x f) =
      subst (Among k) (sym w.written) (turn_among k (onwards sh x f) (w.whole k u refl)) in (
        f,
        i,
        e,
        subst (λ j. Among (rank sh x s j) (cycle_of sh x s f)) v_is
            (among_map (λ k. rank sh x s (start_of sh x k)) k (backwards sh x f) m),
      )
