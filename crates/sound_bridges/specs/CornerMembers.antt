-- A corner in the form with dummies (`WithDummies` of crate sound_tables): the member before it and the member after
-- it, which are two half-edges of the loop or twice its dummy. And what a member of a loop or of a vertex is: a
-- half-edge, or a dummy.
use Rattle.std.specs.Prelude.{◌≡◌, refl, ◌≢◌, ◌⊎◌, ℕ, ◌+◌, ◌-◌, ◌*◌, ◌≤◌, ◌<◌}
use Rattle.std.proofs.Common.{sym, ap, ◌∙◌, inl, inr, ⊎_elim, arith}
use Rattle.layout.specs.declared.shape.Shape.{Shape}
use Rattle.layout.specs.Fields.{Isolated, Start, Loop, Next, Columns}
use Rattle.sound_tables.specs.Sound.{In, HalfUsed}
use Rattle.sound_tables.specs.WithDummies.{up_to_low, up_to_high, extended, Dummy, Member, dummy_of, dummy_loop}
use Rattle.sound_tables.specs.WithDummies.{dummy_start}
use Rattle.sound_bridges.specs.Relation.{Corner, HasCorner}

-- member y comes before it and z after it: the dummy, or the two half-edges
pub record Seat (sh : Shape) (c : Columns) (s : Corner) : Type 0 where
  pub y : ℕ
  pub z : ℕ
  pub member : Member sh c y
  pub next : (extended sh c).next y ≡ z
  pub loop : (extended sh c).loop y ≡ s.l
  pub loop_z : (extended sh c).loop z ≡ s.l
  pub start : (extended sh c).start z ≡ s.u
  pub which : ((y ≡ 2 * sh.edges + s.l) × (z ≡ 2 * sh.edges + s.l) × (s.P ≡ s.b) × (s.N ≡ s.k))
      ⊎ ((y ≡ s.P) × (z ≡ s.N) × HalfUsed sh c s.P × HalfUsed sh c s.N × (c Isolated s.l ≡ 0))

module _ {sh : Shape} {c : Columns} {s : Corner} (i : In sh.loops s.l) (x : s.u ≢ 0)
    (keeps : (i : ℕ) → HalfUsed sh c i → c Loop (c Next i) ≡ c Loop i) where
  open s use {l, P, N}

  -- of each corner
  pub seat : HasCorner sh c s → Seat sh c s
  seat = ⊎_elim
      (λ r. let w = dummy_of sh c l i (λ e. x (sym r.isolated ∙ e)) in record {
        y = 2 * sh.edges + l;
        z = 2 * sh.edges + l;
        member = inr w;
        next = up_to_high (2 * sh.edges) (c Next) (λ j. j) _ w.0;
        loop = dummy_loop sh c l i;
        loop_z = dummy_loop sh c l i;
        start = dummy_start sh c l i ∙ r.isolated;
        which = inl (refl, refl, r.before, r.after);
      })
      (λ r. record {
        y = P;
        z = N;
        member = inl r.before;
        next = up_to_low (2 * sh.edges) (c Next) _ P r.before.1 ∙ r.next;
        loop = up_to_low (2 * sh.edges) (c Loop) _ P r.before.1 ∙ sym (keeps P r.before) ∙ ap (c Loop) r.next
            ∙ r.loop;
        loop_z = up_to_low (2 * sh.edges) (c Loop) _ N r.after.1 ∙ r.loop;
        start = up_to_low (2 * sh.edges) (c Start) _ N r.after.1 ∙ r.start;
        which = inr (refl, refl, r.before, r.after, r.isolated);
      })

-- ---- which numbers it can be

-- a half-edge is no dummy
pub low : (sh : Shape) {l i : ℕ} → In sh.loops l → i ≤ 2 * sh.edges → i ≢ 2 * sh.edges + l
low sh m h e = omega (arith, h, m.0, e)

-- dummies of two loops differ
pub not_dummy : (sh : Shape) {l i : ℕ} → i - 2 * sh.edges ≢ l → i ≢ 2 * sh.edges + l
not_dummy sh h e = h (omega (arith, e))

module _ {sh : Shape} {c : Columns} {s : Corner} (t : Seat sh c s) where
  open s use {l, P, N, k, b}

  -- a half-edge there is P or N
  pub seat_P : {i : ℕ} → In sh.loops l → HalfUsed sh c i → i ≡ t.y → i ≡ P
  seat_P m w e = ⊎_elim (λ r. absurd (low sh m w.1 (e ∙ r.0))) (λ r. e ∙ r.0) t.which

  -- away from there it is neither
  pub off_P : {i : ℕ} → i ≢ b → i ≢ t.y → i ≢ P
  off_P f e z = ⊎_elim (λ r. f (z ∙ r.2)) (λ r. e (z ∙ sym r.0)) t.which

  -- a dummy of another loop is not there
  pub far_y : {i : ℕ} → 2 * sh.edges < i → i - 2 * sh.edges ≢ l → i ≢ t.y
  far_y w h e = ⊎_elim (λ r. not_dummy sh h (e ∙ r.0)) (λ r. omega (arith, w, r.2.1, e ∙ r.0)) t.which

  -- a dummy of the loop is there
  pub dummy_seat : Dummy sh c (2 * sh.edges + l) → (t.y ≡ 2 * sh.edges + l) × (t.z ≡ 2 * sh.edges + l) × (P ≡ b)
      × (N ≡ k)
  dummy_seat w = ⊎_elim (λ r. r) (λ r. absurd (w.2 (ap (c Isolated) (omega arith) ∙ r.4))) t.which

-- ---- members of a loop and of a vertex

-- loop m has a member
abbrev pub LoopMember : Shape → Columns → ℕ → Type 0
LoopMember sh c m = (j : ℕ) × Member sh c j × ((extended sh c).loop j ≡ m)

-- vertex v has one
abbrev pub VertexMember : Shape → Columns → ℕ → Type 0
VertexMember sh c v = (j : ℕ) × Member sh c j × ((extended sh c).start j ≡ v)

module _ (sh : Shape) (c : Columns) where
  -- how many half-edges there are at most
  abbrev n : ℕ
  n = 2 * sh.edges

  -- a half-edge of the loop
  pub half_loop : (i : ℕ) {m : ℕ} → HalfUsed sh c i → c Loop i ≡ m → LoopMember sh c m
  half_loop i w e = (i, inl w, up_to_low n (c Loop) _ i w.1 ∙ e)

  -- its dummy
  pub lone_loop : (i : ℕ) {m : ℕ} → Dummy sh c i → i - n ≡ m → LoopMember sh c m
  lone_loop i w e = (i, inr w, up_to_high n (c Loop) (λ j. j - n) i w.0 ∙ e)

  -- there is no other
  pub of_loop : {A : Type 0} {m : ℕ} → LoopMember sh c m → ((i : ℕ) → HalfUsed sh c i → c Loop i ≡ m → A)
      → ((i : ℕ) → Dummy sh c i → i - n ≡ m → A) → A
  of_loop (i, q, e) f g = ⊎_elim (λ w. f i w (sym (up_to_low n (c Loop) _ i w.1) ∙ e))
      (λ w. g i w (sym (up_to_high n (c Loop) (λ j. j - n) i w.0) ∙ e)) q

  -- a half-edge that starts at the vertex
  pub half_vertex : (i : ℕ) {v : ℕ} → HalfUsed sh c i → c Start i ≡ v → VertexMember sh c v
  half_vertex i w e = (i, inl w, up_to_low n (c Start) _ i w.1 ∙ e)

  -- the dummy of a loop that is isolated there
  pub lone_vertex : (i : ℕ) {v : ℕ} → Dummy sh c i → c Isolated (i - n) ≡ v → VertexMember sh c v
  lone_vertex i w e = (i, inr w, up_to_high n (c Start) (λ j. c Isolated (j - n)) i w.0 ∙ e)

  -- there is no other
  pub of_vertex : {A : Type 0} {v : ℕ} → VertexMember sh c v → ((i : ℕ) → HalfUsed sh c i → c Start i ≡ v → A)
      → ((i : ℕ) → Dummy sh c i → c Isolated (i - n) ≡ v → A) → A
  of_vertex (i, q, e) f g = ⊎_elim (λ w. f i w (sym (up_to_low n (c Start) _ i w.1) ∙ e))
      (λ w. g i w (sym (up_to_high n (c Start) (λ j. c Isolated (j - n)) i w.0) ∙ e)) q

  -- a corner is a member of its loop and of its vertex
  pub corner_members : {s : Corner} → In sh.loops s.l → s.u ≢ 0 → HasCorner sh c s
      → LoopMember sh c s.l × VertexMember sh c s.u
  corner_members {s} i x = ⊎_elim
      (λ r.
      let w = dummy_of sh c s.l i (λ e. x (sym r.isolated ∙ e)) in
      (lone_loop (n + s.l) w (omega arith), lone_vertex (n + s.l) w (ap (c Isolated) (omega arith) ∙ r.isolated)))
      (λ r. (half_loop s.N r.after r.loop, half_vertex s.N r.after r.start))
