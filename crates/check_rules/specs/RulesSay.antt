-- What the rules of a sound table say in plain words: each rule's test passes just if the facts of its record hold. Of
-- rules 4 to 6 the parts that look at one item are here, and the cycles and chains in CyclesSay.
use Rattle.std.specs.Prelude.{◌≡◌, ◌≢◌, ◌⊎◌, List, ℕ, ◌+◌, ◌*◌, ◌≤◌, ℤ, pos, negsuc, ◌≤ℤ◌}
use Rattle.layout.specs.declared.shape.Shape.{Shape}
use Rattle.layout.specs.Layout.{solid_used, face_solid, face_outer, loop_face, loop_first, loop_isolated, start_of}
use Rattle.layout.specs.Layout.{loop_of}
use Rattle.layout.specs.Layout.{next_of, prev_of, vertex_used, side}
use Rattle.layout.specs.Mate.{mate}
use Rattle.layout.specs.Points.{coordinate, range_test, zero_test}
use Rattle.layout.specs.Items.{face_in}
use Rattle.check_rules.specs.Says.{Says, reword, says_le, says_eq, says_some, says_le_z, says_and, says_or}
use Rattle.check_rules.specs.Says.{says_where, says_all, last, more, says_every}
use Rattle.check_items.specs.Rules.{together, only_with, solid_range, face_range, loop_range, half_range}
use Rattle.check_items.specs.Rules.{vertex_range, rule1, solid_names, face_names, loop_names, half_names, rule2}
use Rattle.check_items.specs.Rules.{loop_either}
use Rattle.check_items.specs.Rules.{rule3, half_links, first_names, isolated_in, starts_at, vertex_either, half_sides}

-- ---- small statements

-- both are 0 or neither is
abbrev pub Together : ℕ → ℕ → Type 0
Together a b = ((a ≡ 0) × (b ≡ 0)) ⊎ ((a ≢ 0) × (b ≢ 0))

says_together : (a b : ℕ) → Says (together a b) (Together a b)
says_together a b = says_or (says_and (says_eq a 0) (says_eq b 0)) (says_and (says_some a) (says_some b))

-- b is 0 unless a is there
abbrev pub OnlyWith : ℕ → ℕ → Type 0
OnlyWith a b = (a ≢ 0) ⊎ (b ≡ 0)

says_only_with : (a b : ℕ) → Says (only_with a b) (OnlyWith a b)
says_only_with a b = says_or (says_some a) (says_eq b 0)

-- one is there and the other is not
abbrev pub Either : ℕ → ℕ → Type 0
Either a b = ((a ≢ 0) × (b ≡ 0)) ⊎ ((a ≡ 0) × (b ≢ 0))

-- −50,000 ≤ c ≤ 50,000
abbrev pub InRange : ℤ → Type 0
InRange c = (negsuc 49999 ≤ℤ c) × (c ≤ℤ pos 50000)

-- 0 ≤ c ≤ 0
abbrev pub IsZero : ℤ → Type 0
IsZero c = (pos 0 ≤ℤ c) × (c ≤ℤ pos 0)

says_range : (c : ℤ) → Says (range_test c) (InRange c)
says_range c = says_and (says_le_z (negsuc 49999) c) (says_le_z c (pos 50000))

says_zero : (c : ℤ) → Says (zero_test c) (IsZero c)
says_zero c = says_and (says_le_z (pos 0) c) (says_le_z c (pos 0))

module _ (sh : Shape) (x : List ℕ) where
  -- ---- rule 1

  pub record FaceRange (f : ℕ) : Type 0 where
    pub solid : face_solid sh x f ≤ sh.solids
    pub outer : face_outer sh x f ≤ sh.loops
    pub together : Together (face_solid sh x f) (face_outer sh x f)

  pub says_face_range : (f : ℕ) → Says (face_range sh x f) (FaceRange f)
  unfolding face_range
  says_face_range f =
      reword (λ h. record { solid = h.0; outer = h.1.0; together = h.1.1 })
      (λ r. (r.solid, (r.outer, r.together)))
      (says_every
      (more (says_le (face_solid sh x f) sh.solids)
      (more (says_le (face_outer sh x f) sh.loops) (last (says_together (face_solid sh x f) (face_outer sh x f))))))

  pub record LoopRange (l : ℕ) : Type 0 where
    pub face : loop_face sh x l ≤ sh.faces
    pub first : loop_first sh x l ≤ 2 * sh.edges
    pub isolated : loop_isolated sh x l ≤ sh.vertices
    pub first_used : OnlyWith (loop_face sh x l) (loop_first sh x l)
    pub isolated_used : OnlyWith (loop_face sh x l) (loop_isolated sh x l)

  pub says_loop_range : (l : ℕ) → Says (loop_range sh x l) (LoopRange l)
  unfolding loop_range
  says_loop_range l =
      reword (λ h. record {
        face = h.0;
        first = h.1.0;
        isolated = h.1.1.0;
        first_used = h.1.1.1.0;
        isolated_used = h.1.1.1.1;
      })
      (λ r. (r.face, (r.first, (r.isolated, (r.first_used, r.isolated_used)))))
      (says_every
      (more (says_le (loop_face sh x l) sh.faces)
      (more (says_le (loop_first sh x l) (2 * sh.edges)) (more (says_le (loop_isolated sh x l) sh.vertices)
      (more (says_only_with (loop_face sh x l) (loop_first sh x l))
      (last (says_only_with (loop_face sh x l) (loop_isolated sh x l))))))))

  pub record HalfRange (k : ℕ) : Type 0 where
    pub start : start_of sh x k ≤ sh.vertices
    pub loop : loop_of sh x k ≤ sh.loops
    pub next : next_of sh x k ≤ 2 * sh.edges
    pub prev : prev_of sh x k ≤ 2 * sh.edges
    pub with_loop : Together (start_of sh x k) (loop_of sh x k)
    pub with_next : Together (start_of sh x k) (next_of sh x k)
    pub with_prev : Together (start_of sh x k) (prev_of sh x k)
    pub with_mate : Together (start_of sh x k) (start_of sh x (mate k))

  pub says_half_range : (k : ℕ) → Says (half_range sh x k) (HalfRange k)
  unfolding half_range
  says_half_range k =
      reword (λ h. record {
        start = h.0;
        loop = h.1.0;
        next = h.1.1.0;
        prev = h.1.1.1.0;
        with_loop =
            h.1.1.1.1.0;
        with_next = h.1.1.1.1.1.0;
        with_prev = h.1.1.1.1.1.1.0;
        with_mate =
            h.1.1.1.1.1.1.1;
      })
      (λ r. (r.start, (r.loop, (r.next, (r.prev, (r.with_loop, (r.with_next, (r.with_prev, r.with_mate))))))))
      (says_every
      (more (says_le (start_of sh x k) sh.vertices)
      (more (says_le (loop_of sh x k) sh.loops)
      (more (says_le (next_of sh x k) (2 * sh.edges)) (more (says_le (prev_of sh x k) (2 * sh.edges))
      (more (says_together (start_of sh x k) (loop_of sh x k))
      (more (says_together (start_of sh x k) (next_of sh x k))
      (more (says_together (start_of sh x k) (prev_of sh x k))
      (last (says_together (start_of sh x k) (start_of sh x (mate k))))))))))))

  pub record VertexRange (p : List ℤ) (v : ℕ) : Type 0 where
    pub x_range : InRange (coordinate p v 0)
    pub y_range : InRange (coordinate p v 1)
    pub z_range : InRange (coordinate p v 2)
    pub free_zero : (vertex_used sh x v ≢ 0) ⊎ ((IsZero (coordinate p v 0) × IsZero (coordinate p v 1))
        × IsZero (coordinate p v 2))

  pub says_vertex_range : (p : List ℤ) (v : ℕ) → Says (vertex_range sh x p v) (VertexRange p v)
  unfolding vertex_range
  says_vertex_range p v =
      reword (λ h. record {
        x_range = h.0;
        y_range = h.1.0;
        z_range = h.1.1.0;
        free_zero =
            h.1.1.1;
      }) (λ r. (r.x_range, (r.y_range, (r.z_range, r.free_zero))))
      (says_every
      (more (says_range (coordinate p v 0))
      (more (says_range (coordinate p v 1)) (more (says_range (coordinate p v 2))
      (last (says_or (says_some (vertex_used sh x v))
      (says_and (says_and (says_zero (coordinate p v 0)) (says_zero (coordinate p v 1)))
      (says_zero (coordinate p v 2)))))))))

  pub record Rule1 (p : List ℤ) : Type 0 where
    pub solid : (s : ℕ) → 1 ≤ s → s ≤ sh.solids → solid_used sh x s ≤ 1
    pub face : (f : ℕ) → 1 ≤ f → f ≤ sh.faces → FaceRange f
    pub loop : (l : ℕ) → 1 ≤ l → l ≤ sh.loops → LoopRange l
    pub half : (k : ℕ) → 1 ≤ k → k ≤ 2 * sh.edges → HalfRange k
    pub vertex : (v : ℕ) → 1 ≤ v → v ≤ sh.vertices → VertexRange p v

  pub says_solid_range : (s : ℕ) → Says (solid_range sh x s) (solid_used sh x s ≤ 1)
  unfolding solid_range
  says_solid_range s = says_le (solid_used sh x s) 1

  pub says_rule1 : (p : List ℤ) → Says (rule1 sh x p) (Rule1 p)
  unfolding rule1
  says_rule1 p =
      reword (λ h. record {
        solid = h.0;
        face = h.1.0;
        loop = h.1.1.0;
        half = h.1.1.1.0;
        vertex =
            h.1.1.1.1;
      }) (λ r. (r.solid, (r.face, (r.loop, (r.half, r.vertex)))))
      (says_every
      (more (says_all sh.solids says_solid_range)
      (more (says_all sh.faces says_face_range) (more (says_all sh.loops says_loop_range)
      (more (says_all (2 * sh.edges) says_half_range) (last (says_all sh.vertices (says_vertex_range p))))))))

  -- ---- rule 2: what is said of an item is said of one in use

  pub record FaceNames (f : ℕ) : Type 0 where
    pub solid : solid_used sh x (face_solid sh x f) ≢ 0
    pub outer : loop_face sh x (face_outer sh x f) ≡ f

  pub says_face_names : (f : ℕ) → Says (face_names sh x f) (face_solid sh x f ≢ 0 → FaceNames f)
  unfolding face_names
  says_face_names f =
      says_where (face_solid sh x f) (reword (λ h. record { solid = h.0; outer = h.1 }) (λ r. (r.solid, r.outer))
      (says_every
      (more (says_some (solid_used sh x (face_solid sh x f))) (last (says_eq (loop_face sh x (face_outer sh x f)) f)))))

  pub record LoopNames (l : ℕ) : Type 0 where
    pub face : face_solid sh x (loop_face sh x l) ≢ 0
    pub first : loop_first sh x l ≢ 0 → start_of sh x (loop_first sh x l) ≢ 0
    pub isolated : loop_isolated sh x l ≢ 0 → vertex_used sh x (loop_isolated sh x l) ≢ 0

  pub says_loop_names : (l : ℕ) → Says (loop_names sh x l) (loop_face sh x l ≢ 0 → LoopNames l)
  unfolding loop_names
  says_loop_names l =
      says_where (loop_face sh x l) (reword (λ h. record { face = h.0; first = h.1.0; isolated = h.1.1 })
      (λ r. (r.face, (r.first, r.isolated)))
      (says_every
      (more (says_some (face_solid sh x (loop_face sh x l)))
      (more (says_where (loop_first sh x l) (says_some (start_of sh x (loop_first sh x l))))
      (last (says_where (loop_isolated sh x l) (says_some (vertex_used sh x (loop_isolated sh x l)))))))))

  pub record HalfNames (k : ℕ) : Type 0 where
    pub start : vertex_used sh x (start_of sh x k) ≢ 0
    pub loop : loop_face sh x (loop_of sh x k) ≢ 0
    pub next : start_of sh x (next_of sh x k) ≢ 0
    pub prev : start_of sh x (prev_of sh x k) ≢ 0

  pub says_half_names : (k : ℕ) → Says (half_names sh x k) (start_of sh x k ≢ 0 → HalfNames k)
  unfolding half_names
  says_half_names k =
      says_where (start_of sh x k)
      (reword (λ h. record { start = h.0; loop = h.1.0; next = h.1.1.0; prev = h.1.1.1 })
      (λ r. (r.start, (r.loop, (r.next, r.prev))))
      (says_every
      (more (says_some (vertex_used sh x (start_of sh x k)))
      (more (says_some (loop_face sh x (loop_of sh x k))) (more (says_some (start_of sh x (next_of sh x k)))
      (last (says_some (start_of sh x (prev_of sh x k)))))))))

  -- a solid in use has a least face
  pub says_solid_names : (s : ℕ) → Says (solid_names sh x s) (solid_used sh x s ≢ 0 → face_in sh x s ≢ 0)
  unfolding solid_names
  says_solid_names s = says_where (solid_used sh x s) (says_some (face_in sh x s))

  pub record Rule2 : Type 0 where
    pub face : (f : ℕ) → 1 ≤ f → f ≤ sh.faces → face_solid sh x f ≢ 0 → FaceNames f
    pub loop : (l : ℕ) → 1 ≤ l → l ≤ sh.loops → loop_face sh x l ≢ 0 → LoopNames l
    pub half : (k : ℕ) → 1 ≤ k → k ≤ 2 * sh.edges → start_of sh x k ≢ 0 → HalfNames k
    pub solid : (s : ℕ) → 1 ≤ s → s ≤ sh.solids → solid_used sh x s ≢ 0 → face_in sh x s ≢ 0

  pub says_rule2 : Says (rule2 sh x) Rule2
  unfolding rule2
  says_rule2 =
      reword (λ h. record { face = h.0; loop = h.1.0; half = h.1.1.0; solid = h.1.1.1 })
      (λ r. (r.face, (r.loop, (r.half, r.solid))))
      (says_every
      (more (says_all sh.faces says_face_names)
      (more (says_all sh.loops says_loop_names)
      (more (says_all (2 * sh.edges) says_half_names) (last (says_all sh.solids says_solid_names))))))

  -- ---- rule 3

  pub says_loop_either : (l : ℕ)
      → Says (loop_either sh x l) (loop_face sh x l ≢ 0 → Either (loop_first sh x l) (loop_isolated sh x l))
  unfolding loop_either
  says_loop_either l =
      says_where (loop_face sh x l)
      (says_or (says_and (says_some (loop_first sh x l)) (says_eq (loop_isolated sh x l) 0))
      (says_and (says_eq (loop_first sh x l) 0) (says_some (loop_isolated sh x l))))

  abbrev pub Rule3 : Type 0
  Rule3 = (l : ℕ) → 1 ≤ l → l ≤ sh.loops → loop_face sh x l ≢ 0 → Either (loop_first sh x l) (loop_isolated sh x l)

  pub says_rule3 : Says (rule3 sh x) Rule3
  unfolding rule3
  says_rule3 = says_all sh.loops says_loop_either

  -- ---- rule 4, of one half-edge and one loop

  pub record HalfLinks (k : ℕ) : Type 0 where
    pub prev_next : prev_of sh x (next_of sh x k) ≡ k
    pub next_prev : next_of sh x (prev_of sh x k) ≡ k
    pub next_start : start_of sh x (next_of sh x k) ≡ start_of sh x (mate k)
    pub next_loop : loop_of sh x (next_of sh x k) ≡ loop_of sh x k
    pub has_first : loop_first sh x (loop_of sh x k) ≢ 0
    pub first_least : loop_first sh x (loop_of sh x k) ≤ k

  pub says_half_links : (k : ℕ) → Says (half_links sh x k) (start_of sh x k ≢ 0 → HalfLinks k)
  unfolding half_links
  says_half_links k =
      says_where (start_of sh x k)
      (reword (λ h. record {
        prev_next = h.0;
        next_prev = h.1.0;
        next_start = h.1.1.0;
        next_loop = h.1.1.1.0;
        has_first = h.1.1.1.1.0;
        first_least = h.1.1.1.1.1;
      })
      (λ r. (r.prev_next, (r.next_prev, (r.next_start, (r.next_loop, (r.has_first, r.first_least))))))
      (says_every
      (more (says_eq (prev_of sh x (next_of sh x k)) k)
      (more (says_eq (next_of sh x (prev_of sh x k)) k)
      (more (says_eq (start_of sh x (next_of sh x k)) (start_of sh x (mate k)))
      (more (says_eq (loop_of sh x (next_of sh x k)) (loop_of sh x k))
      (more (says_some (loop_first sh x (loop_of sh x k))) (last (says_le (loop_first sh x (loop_of sh x k)) k)))))))))

  pub says_first_names : (l : ℕ)
      → Says (first_names sh x l) (loop_first sh x l ≢ 0 → loop_of sh x (loop_first sh x l) ≡ l)
  unfolding first_names
  says_first_names l = says_where (loop_first sh x l) (says_eq (loop_of sh x (loop_first sh x l)) l)

  -- ---- rule 5, of one vertex

  -- a vertex in use: its word, and isolated in one loop or with half-edges
  pub record VertexEither (v : ℕ) : Type 0 where
    pub word : vertex_used sh x v ≡ 1 + starts_at sh x v
    pub either : ((isolated_in sh x v ≡ 1) × (starts_at sh x v ≡ 0))
        ⊎ ((isolated_in sh x v ≡ 0) × (starts_at sh x v ≢ 0))

  pub says_vertex_either : (v : ℕ) → Says (vertex_either sh x v) (vertex_used sh x v ≢ 0 → VertexEither v)
  unfolding vertex_either
  says_vertex_either v =
      says_where (vertex_used sh x v)
      (reword (λ h. record { word = h.0; either = h.1 }) (λ r. (r.word, r.either))
      (says_and (says_eq (vertex_used sh x v) (1 + starts_at sh x v))
      (says_or (says_and (says_eq (isolated_in sh x v) 1) (says_eq (starts_at sh x v) 0))
      (says_and (says_eq (isolated_in sh x v) 0) (says_some (starts_at sh x v))))))

  -- ---- rule 6, of one half-edge

  pub says_half_sides : (k : ℕ)
      → Says (half_sides sh x k) (start_of sh x k ≢ 0 → face_solid sh x (side sh x k)
      ≡ face_solid sh x (side sh x (mate k)))
  unfolding half_sides
  says_half_sides k =
      says_where (start_of sh x k) (says_eq (face_solid sh x (side sh x k)) (face_solid sh x (side sh x (mate k))))
