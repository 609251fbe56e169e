-- The form with dummies: each isolated loop l has a half-edge of its own, number 2E + l, that is its own mate and its
-- own next and starts at the isolated vertex. Then rules 3 to 5 say of all half-edges, dummies included, what they say
-- of loops and vertices that have half-edges: two labelled permutations (`Rules`), and each loop and vertex in use has
-- a member.
use Rattle.std.specs.Prelude.{◌≡◌, ◌≢◌, List, ℕ, ◌+◌, ◌-◌, ◌*◌, ◌≤◌, ◌<◌, leb, ℤ}
use Rattle.std.proofs.Common.{sym, ap, ◌∙◌, subst, inl, inr, ⊎_elim, arith, leb→le, le→leb}
use Rattle.laws.specs.Bools.{pick, split, T_true, T_false}
use Rattle.laws.specs.Permutations.{inj}
use Rattle.laws.specs.Cycles.{alone as lonely}
use Rattle.layout.specs.declared.shape.Shape.{Shape}
use Rattle.layout.specs.Mate.{mate}
use Rattle.layout.specs.MateLaws.{mate_range}
use Rattle.layout.specs.Fields.{Face, First, Isolated, Start, Loop, Next, Prev, VertexUsed, Columns}
use Rattle.sound_tables.specs.Mates.{mate⁺, mate⁺_low, mate⁺_high}
use Rattle.sound_tables.specs.EdgeIn.{Halves, Rules}
use Rattle.sound_tables.specs.FixedPoints.{Extra, Own, With, more, fewer}
use Rattle.sound_tables.specs.Sound.{In, halves, HalfUsed, first_of, FirstOrIsolated, VertexSound, alone, joined}
use Rattle.sound_tables.specs.Sound.{Sound}
use Rattle.sound_tables.specs.Labels.{label_found, label_some, label_none}
use Rattle.sound_tables.specs.Names.{lone_unnamed, lone_alone}

-- f up to n, g above
unfoldable pub up_to : ℕ → (ℕ → ℕ) → (ℕ → ℕ) → ℕ → ℕ
up_to n f g k = pick (leb k n) (f k) (g k)

-- up to n it is f
pub up_to_low : (n : ℕ) (f g : ℕ → ℕ) (k : ℕ) → k ≤ n → up_to n f g k ≡ f k
unfolding up_to
up_to_low n f g k h = rw (T_true {b = leb k n} (le→leb k n h))

-- above n it is g
pub up_to_high : (n : ℕ) (f g : ℕ → ℕ) (k : ℕ) → n < k → up_to n f g k ≡ g k
unfolding up_to
up_to_high n f g k h = rw (T_false {b = leb k n} (λ t. omega (arith, h, leb→le k n t)))

-- the four columns, above 2E the dummies
abbrev pub extended : Shape → Columns → Halves
extended sh c = record {
  start = up_to (2 * sh.edges) (c Start) (λ k. c Isolated (k - 2 * sh.edges));
  loop = up_to (2 * sh.edges) (c Loop) (λ k. k - 2 * sh.edges);
  next = up_to (2 * sh.edges) (c Next) (λ k. k);
  prev = up_to (2 * sh.edges) (c Prev) (λ k. k);
}

-- d is the dummy of an isolated loop
abbrev pub Dummy : Shape → Columns → ℕ → Type 0
Dummy sh c d = (2 * sh.edges < d) × (d ≤ 2 * sh.edges + sh.loops) × (c Isolated (d - 2 * sh.edges) ≢ 0)

-- a half-edge in use or a dummy
abbrev pub Member : Shape → Columns → ℕ → Type 0
Member sh c = With (HalfUsed sh c) (Dummy sh c)

-- rules 3 to 5 with dummies
pub record Corners (sh : Shape) (c : Columns) : Type 0 where
  pub rules : Rules (2 * sh.edges + sh.loops) (mate⁺ sh.edges) (Member sh c) (extended sh c)
  pub loop : (l : ℕ) → In sh.loops l → c Face l ≢ 0 → (k : ℕ) × Member sh c k × ((extended sh c).loop k ≡ l)
  pub vertex : (v : ℕ) → In sh.vertices v → c VertexUsed v ≢ 0 → (k : ℕ) × Member sh c k
      × ((extended sh c).start k ≡ v)

module _ (sh : Shape) (c : Columns) where
  -- as many half-edges
  abbrev n : ℕ
  n = 2 * sh.edges

  -- with the dummies
  abbrev m : ℕ
  m = 2 * sh.edges + sh.loops

  -- the dummy of loop l
  pub dummy_of : (l : ℕ) → In sh.loops l → c Isolated l ≢ 0 → Dummy sh c (n + l)
  dummy_of l i h = let e : n + l - n ≡ l = omega arith in (omega (arith, i.0), omega (arith, i.1), rw e h)

  -- its loop
  pub dummy_loop : (l : ℕ) → In sh.loops l → (extended sh c).loop (n + l) ≡ l
  dummy_loop l i = up_to_high n (c Loop) (λ k. k - n) (n + l) (omega (arith, i.0)) ∙ omega arith

  -- its start
  pub dummy_start : (l : ℕ) → In sh.loops l → (extended sh c).start (n + l) ≡ c Isolated l
  dummy_start l i = up_to_high n (c Start) (λ k. c Isolated (k - n)) (n + l) (omega (arith, i.0))
      ∙ ap (c Isolated) (omega arith)

  -- the dummies beside the loops' permutation
  loops_extra : Extra n m (HalfUsed sh c) (Dummy sh c) (c Next) (c Loop) (extended sh c).next (extended sh c).loop
  loops_extra = record {
    above = λ i d. d.0;
    below = λ i d. d.1;
    n≤m = omega arith;
    f_u = λ i u. up_to_low n (c Next) (λ k. k) i u.1;
    f_d = λ i d. up_to_high n (c Next) (λ k. k) i d.0;
    lab_u = λ i u. up_to_low n (c Loop) (λ k. k - n) i u.1;
  }

  -- and beside the vertices'
  verts_extra : Extra n m (HalfUsed sh c) (Dummy sh c) (λ k. c Next (mate k)) (c Start)
      (λ k. (extended sh c).next (mate⁺ sh.edges k)) (extended sh c).start
  verts_extra = record {
    above = λ i d. d.0;
    below = λ i d. d.1;
    n≤m = omega arith;
    f_u = λ i u. rw (mate⁺_low sh.edges i u.1)
        (up_to_low n (c Next) (λ k. k) (mate i) (mate_range i sh.edges u.0 u.1).1);
    f_d = λ i d. rw (mate⁺_high sh.edges i d.0) (up_to_high n (c Next) (λ k. k) i d.0);
    lab_u = λ i u. up_to_low n (c Start) (λ k. c Isolated (k - n)) i u.1;
  }

-- ---- from a sound table

module _ {sh : Shape} {p : List ℤ} {c : Columns} (a : Sound sh p c) where
  -- as many half-edges
  abbrev n₁ : ℕ
  n₁ = 2 * sh.edges

  -- the number of a dummy's loop
  loop_in : (d : ℕ) → Dummy sh c d → In sh.loops (d - n₁)
  loop_in d u = (omega (arith, u.0), omega (arith, u.1))

  -- dummies have loops of their own
  loops_own : Own (HalfUsed sh c) (Dummy sh c) (extended sh c).loop
  loops_own = (
    λ i j d e q. let y : i - n₁ ≡ j - n₁ = sym (up_to_high n₁ (c Loop) (λ k. k - n₁) i d.0) ∙ q
        ∙ up_to_high n₁ (c Loop) (λ k. k - n₁) j e.0 in omega (arith, y, d.0, e.0),
    λ i j u d q. lone_unnamed a (j - n₁) (loop_in j d) d.2 i (u.0, u.1)
        (sym (up_to_low n₁ (c Loop) (λ k. k - n₁) i u.1) ∙ q ∙ up_to_high n₁ (c Loop) (λ k. k - n₁) j d.0),
  )

  -- and vertices of their own
  verts_own : Own (HalfUsed sh c) (Dummy sh c) (extended sh c).start
  verts_own = (
    λ i j d e q.
        let y : c Isolated (i - n₁) ≡ c Isolated (j - n₁) =
        sym (up_to_high n₁ (c Start) (λ k. c Isolated (k - n₁)) i d.0) ∙ q
        ∙ up_to_high n₁ (c Start) (λ k. c Isolated (k - n₁)) j e.0 in
        omega (arith, (lone_alone a (j - n₁) (loop_in j e) e.2).0 (i - n₁) (loop_in i d) y, d.0, e.0),
    λ i j u d q. (lone_alone a (j - n₁) (loop_in j d) d.2).1 i (u.0, u.1)
        (sym (up_to_low n₁ (c Start) (λ k. c Isolated (k - n₁)) i u.1) ∙ q
        ∙ up_to_high n₁ (c Start) (λ k. c Isolated (k - n₁)) j d.0),
  )

  -- the rules with dummies
  extended_rules : Rules (2 * sh.edges + sh.loops) (mate⁺ sh.edges) (Member sh c) (extended sh c)
  extended_rules = record {
    mate_in = λ i. ⊎_elim (λ u. inl (rw (mate⁺_low sh.edges i u.1) (a.rules.mate_in i u)))
        (λ d. inr (rw (mate⁺_high sh.edges i d.0) d));
    loops = more (loops_extra sh c) a.rules.loops loops_own;
    verts = more (verts_extra sh c) a.rules.verts verts_own;
    undone = λ i. ⊎_elim
        (λ u. rw (up_to_low n₁ (c Next) (λ k. k) i u.1)
        (up_to_low n₁ (c Prev) (λ k. k) (c Next i) (a.rules.loops.perm.f_in i u).1 ∙ a.rules.undone i u))
        (λ d. rw (up_to_high n₁ (c Next) (λ k. k) i d.0) (up_to_high n₁ (c Prev) (λ k. k) i d.0));
  }

  -- a loop's member: its first, or its dummy
  loop_member : (l : ℕ) → In sh.loops l → c Face l ≢ 0 → (k : ℕ) × Member sh c k × ((extended sh c).loop k ≡ l)
  loop_member l i h = by (a.loop l i h).either
    where
      -- by what the loop has
      by : FirstOrIsolated sh c l → (k : ℕ) × Member sh c k × ((extended sh c).loop k ≡ l)
      by (inl q) =
          let b = label_found n₁ (c Loop) l (λ z. q.0 ((a.loop l i h).first ∙ z)) in
          let k = first_of sh c l in
          let u : c Start k ≢ 0 = λ z. omega (arith, i.0, sym b.label ∙ (a.half_free k b.range z).loop) in
          (k, inl (b.range.0, b.range.1, u), up_to_low n₁ (c Loop) (λ j. j - n₁) k b.range.1 ∙ b.label)
      by (inr q) = (n₁ + l, inr (dummy_of sh c l i (λ z. omega (arith, q.1.0, z))), dummy_loop sh c l i)

  -- a vertex's member: a half-edge that starts there, or a dummy
  vertex_member : (v : ℕ) → In sh.vertices v → VertexSound sh c v → (k : ℕ) × Member sh c k
      × ((extended sh c).start k ≡ v)
  vertex_member v i (alone l j e u s) =
      (n₁ + l, inr (dummy_of sh c l j (λ z. omega (arith, i.0, sym e ∙ z))), dummy_start sh c l j ∙ e)
  vertex_member v i (joined s k j e) = (
    k,
    inl (j.0, j.1, λ z. omega (arith, i.0, sym e ∙ z)),
    up_to_low n₁ (c Start) (λ j. c Isolated (j - n₁)) k j.1 ∙ e,
  )

  -- a sound table in the form with dummies
  pub sound_corners : Corners sh c
  sound_corners =
      record { rules = extended_rules; loop = loop_member; vertex = λ v i h. vertex_member v i (a.vertex v i h) }

-- ---- and back

module _ {sh : Shape} {c : Columns} (a : Corners sh c) where
  -- as many half-edges
  abbrev n₂ : ℕ
  n₂ = 2 * sh.edges

  -- a dummy is alone with its loop
  loop_alone : (l : ℕ) → In sh.loops l → c Isolated l ≢ 0 → (k : ℕ) → Member sh c k → (extended sh c).loop k ≡ l
      → k ≡ n₂ + l
  loop_alone l i h k u e =
      let d = dummy_of sh c l i h in
      lonely a.rules.loops (inr d) (up_to_high n₂ (c Next) (λ j. j) (n₂ + l) d.0) k u
      (e ∙ sym (dummy_loop sh c l i))

  -- and with its vertex
  vertex_alone : (l : ℕ) → In sh.loops l → c Isolated l ≢ 0 → (k : ℕ) → Member sh c k → (extended sh c).start k
      ≡ c Isolated l → k ≡ n₂ + l
  vertex_alone l i h k u e =
      let d = dummy_of sh c l i h in
      lonely a.rules.verts (inr d) ((verts_extra sh c).f_d (n₂ + l) d) k u (e ∙ sym (dummy_start sh c l i))

  -- what a half-edge in use goes to is one
  stays : (i k : ℕ) → HalfUsed sh c i → Member sh c k → (Dummy sh c k → i ≡ k) → HalfUsed sh c k
  stays i k u w h = ⊎_elim (λ v. v) (λ d. absurd (omega (arith, u.1, d.0, h d))) w

  -- next leads from half-edge to half-edge
  next_stays : (i : ℕ) → HalfUsed sh c i → HalfUsed sh c (c Next i)
  next_stays i u =
      let e = (loops_extra sh c).f_u i u in
      stays i (c Next i) u (subst (Member sh c) e (a.rules.loops.perm.f_in i (inl u)))
      (λ d. inj a.rules.loops.perm (inl u) (inr d) (e ∙ sym ((loops_extra sh c).f_d (c Next i) d)))

  -- and so does next of the mate
  around_stays : (i : ℕ) → HalfUsed sh c i → HalfUsed sh c (c Next (mate i))
  around_stays i u =
      let e = (verts_extra sh c).f_u i u in
      stays i (c Next (mate i)) u (subst (Member sh c) e (a.rules.verts.perm.f_in i (inl u)))
      (λ d. inj a.rules.verts.perm (inl u) (inr d) (e ∙ sym ((verts_extra sh c).f_d (c Next (mate i)) d)))

  -- the rules without dummies
  pub corners_rules : Rules (2 * sh.edges) mate (HalfUsed sh c) (halves c)
  corners_rules = record {
    mate_in = λ i u.
        let m = mate_range i sh.edges u.0 u.1 in
        ⊎_elim (λ v. v) (λ d. absurd (omega (arith, m.1, d.0)))
        (subst (Member sh c) (mate⁺_low sh.edges i u.1) (a.rules.mate_in i (inl u)));
    loops = (fewer (loops_extra sh c) a.rules.loops (λ i u. u.1) next_stays).0;
    verts = (fewer (verts_extra sh c) a.rules.verts (λ i u. u.1) around_stays).0;
    undone = λ i u.
        sym (up_to_low n₂ (c Prev) (λ k. k) (c Next i) (next_stays i u).1)
        ∙ ap (extended sh c).prev (sym ((loops_extra sh c).f_u i u)) ∙ a.rules.undone i (inl u);
  }

  -- a loop in use has a first half-edge or an isolated vertex, if free half-edges name no loop
  pub corners_loop : ((k : ℕ) → In (2 * sh.edges) k → c Start k ≡ 0 → c Loop k ≡ 0)
      → (l : ℕ) → In sh.loops l → c Face l ≢ 0 → c First l ≡ first_of sh c l
      → (c Isolated l ≢ 0 → In sh.vertices (c Isolated l) × (c VertexUsed (c Isolated l) ≢ 0))
      → FirstOrIsolated sh c l
  corners_loop free l i h f v = split (c Isolated l) 0
      (λ z. inl (by (a.loop l i h) z, z))
      (λ d. inr (f ∙ label_none n₂ (c Loop) l (unnamed d), (v d).0, (v d).1))
    where
      -- no half-edge names an isolated loop
      unnamed : c Isolated l ≢ 0 → (k : ℕ) → In n₂ k → c Loop k ≢ l
      unnamed d k j e = split (c Start k) 0
          (λ z. omega (arith, i.0, e, free k j z))
          (λ s. omega (
            arith,
            j.1,
            i.0,
            loop_alone l i d k (inl (j.0, j.1, s)) (up_to_low n₂ (c Loop) (λ k. k - n₂) k j.1 ∙ e),
          ))

      -- its member is a half-edge where it is not isolated
      by : ((k : ℕ) × Member sh c k × ((extended sh c).loop k ≡ l)) → c Isolated l ≡ 0 → c First l ≢ 0
      by r z = ⊎_elim
          (λ u. λ y. label_some n₂ (c Loop) l r.0 (u.0, u.1)
          (sym (up_to_low n₂ (c Loop) (λ k. k - n₂) r.0 u.1) ∙ r.2) (sym f ∙ y))
          (λ d. absurd (d.2 (ap (c Isolated) (sym (up_to_high n₂ (c Loop) (λ k. k - n₂) r.0 d.0) ∙ r.2) ∙ z)))
          r.1

  -- a vertex in use is isolated in one loop and starts nothing, or the other way round
  pub corners_vertex : (v : ℕ) → In sh.vertices v → c VertexUsed v ≢ 0 → VertexSound sh c v
  corners_vertex v i h = ⊎_elim half dummy r.1
    where
      -- its member
      r : (k : ℕ) × Member sh c k × ((extended sh c).start k ≡ v)
      r = a.vertex v i h

      -- an isolated vertex is there
      there : (l : ℕ) → c Isolated l ≡ v → c Isolated l ≢ 0
      there l e z = omega (arith, i.0, sym e ∙ z)

      -- that is a half-edge
      half : HalfUsed sh c r.0 → VertexSound sh c v
      half u = joined
          (λ l j e. omega (arith, j.0, u.1, vertex_alone l j (there l e) r.0 (inl u) (r.2 ∙ sym e)))
          r.0 (u.0, u.1) (sym (up_to_low n₂ (c Start) (λ k. c Isolated (k - n₂)) r.0 u.1) ∙ r.2)

      -- or a dummy
      dummy : Dummy sh c r.0 → VertexSound sh c v
      dummy d =
          let l = r.0 - n₂ in
          let j : In sh.loops l = (omega (arith, d.0), omega (arith, d.1)) in
          let e : c Isolated l ≡ v = sym (up_to_high n₂ (c Start) (λ k. c Isolated (k - n₂)) r.0 d.0) ∙ r.2 in
          alone l j e
          (λ l' j' e'.
          omega (
            arith,
            vertex_alone l j d.2 (n₂ + l') (inr (dummy_of sh c l' j' (there l' e')))
                (dummy_start sh c l' j' ∙ e' ∙ sym e),
          ))
          (λ k b e'.
          omega (
            arith,
            b.1,
            j.0,
            vertex_alone l j d.2 k (inl (b.0, b.1, λ z. omega (arith, i.0, sym e' ∙ z)))
                (up_to_low n₂ (c Start) (λ k. c Isolated (k - n₂)) k b.1 ∙ e' ∙ sym e),
          ))
