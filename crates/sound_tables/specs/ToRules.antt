-- And a sound table keeps the six rules, in the words of `table`: rule 5 where its vertex words are right (`Valent`).
use Rattle.std.specs.Prelude.{◌≡◌, refl, ◌≢◌, List, ℕ, ◌+◌, ◌*◌, ◌≤◌, T, eqb, ℤ, pos, negsuc}
use Rattle.std.proofs.Common.{sym, ap, ◌∙◌, subst, inl, inr, ⊎_elim, arith, eqb→eq}
use Rattle.std.proofs.Math.Dec.{not_T}
use Rattle.std.specs.Int.Signed.{le_z}
use Rattle.laws.specs.Bools.{split, and_T}
use Rattle.laws.specs.Linked.{map_linked}
use Rattle.laws.specs.Cycles.{agree}
use Rattle.layout.specs.declared.shape.Shape.{Shape}
use Rattle.layout.specs.Mate.{mate}
use Rattle.layout.specs.MateLaws.{mate_mate, mate_range}
use Rattle.layout.specs.Points.{coordinate, range_test}
use Rattle.check_items.specs.Rules.{starts_at}
use Rattle.check_rules.specs.RulesSay.{Together, InRange, IsZero, FaceRange, LoopRange, HalfRange, VertexRange, Rule1}
use Rattle.check_rules.specs.RulesSay.{Rule2, Rule3, HalfLinks, VertexEither}
use Rattle.check_rules.specs.CyclesSay.{Rule4, Rule5, Rule6}
use Rattle.sound_tables.specs.EdgeIn.{prev_in, next_prev}
use Rattle.layout.specs.Fields.{Solid, Face, First, Isolated, Start, Loop, Next, VertexUsed, Columns}
use Rattle.sound_tables.specs.Sound.{In, HalfUsed, side, VertexSound, alone, joined, Sound}
use Rattle.sound_tables.specs.Labels.{label_found, label_some, many_none, none_many, many_one}
use Rattle.sound_tables.specs.Good.{own, Valent}
use Rattle.sound_tables.specs.EdgesAcross.{half_edge}
use Rattle.sound_tables.specs.FromRules.{half_used, used_half}

-- a number of an item is not 0
in_some : {cap n : ℕ} → In cap n → n ≢ 0
in_some i z = omega (arith, i.0, z)

-- 0 lies between 0 and 0
zero_is : (c : ℤ) → c ≡ pos 0 → IsZero c
zero_is c e = rw e (record { le = tt }, record { le = tt })

-- a coordinate that passes its test is in range
range_is : (c : ℤ) → T (range_test c) → InRange c
range_is c t = let h = and_T (le_z (negsuc 49999) c) (le_z c (pos 50000)) t in
    (record { le = h.0 }, record { le = h.1 })

module _ {sh : Shape} (x : List ℕ) {p : List ℤ} (a : Sound sh p (own sh x)) where
  -- the columns
  abbrev c : Columns
  c = own sh x

  -- as many half-edges
  abbrev n2 : ℕ
  n2 = 2 * sh.edges

  -- what follows one in use is in use
  next_in : (k : ℕ) → HalfUsed sh c k → HalfUsed sh c (c Next k)
  next_in k u = a.rules.loops.perm.f_in k u

  -- ---- rule 1

  -- a face
  face_range : (f : ℕ) → 1 ≤ f → f ≤ sh.faces → FaceRange sh x f
  face_range f l u = split (c Solid f) 0
      (λ z. let o = a.face_free f (l, u) z in
      record { solid = omega (arith, z); outer = omega (arith, o); together = inl (z, o) })
      (λ h. let r = a.face f (l, u) h in
      record { solid = r.solid_in.1; outer = r.outer_in.1; together = inr (h, in_some r.outer_in) })

  -- first is in range
  first_range : (l : ℕ) → In sh.loops l → c Face l ≢ 0 → c First l ≤ n2
  first_range l i h = split (c First l) 0 (λ z. omega (arith, z)) (λ d.
      let e = (a.loop l i h).first in
      let b = label_found n2 (c Loop) l (λ z. d (e ∙ z)) in
      subst (λ k. k ≤ n2) (sym e) b.range.1)

  -- a loop
  loop_range : (l : ℕ) → 1 ≤ l → l ≤ sh.loops → LoopRange sh x l
  loop_range l lo u = split (c Face l) 0
      (λ z. let o = a.loop_free l (lo, u) z in
      record {
        face = omega (arith, z);
        first = omega (arith, o.0);
        isolated = omega (arith, o.1);
        first_used =
            inr o.0;
        isolated_used = inr o.1;
      }) (λ h. let r = a.loop l (lo, u) h in record {
        face = r.face_in_lem.1;
        first = first_range l (lo, u) h;
        isolated = ⊎_elim (λ q. omega (arith, q.1)) (λ q. q.1.1) r.either;
        first_used = inl h;
        isolated_used = inl h;
      })

  -- a half-edge and its mate are in use or neither
  mate_together : (k : ℕ) → 1 ≤ k → k ≤ n2 → Together (c Start k) (c Start (mate k))
  mate_together k l u = split (c Start k) 0
      (λ z. inl (
        z,
        split (c Start (mate k)) 0 (λ y. y) (λ d.
            let m = mate_range k sh.edges l u in
            let w = (a.rules.mate_in (mate k) (m.0, m.1, d)).2 in
            absurd (w (ap (c Start) (mate_mate k) ∙ z))),
      ))
      (λ h. inr (h, (a.rules.mate_in k (l, u, h)).2))

  -- a half-edge
  half_range : (k : ℕ) → 1 ≤ k → k ≤ n2 → HalfRange sh x k
  half_range k l u = split (c Start k) 0
      (λ z. let r = a.half_free k (l, u) z in record {
        start = omega (arith, z);
        loop = omega (arith, r.loop);
        next = omega (arith, r.next);
        prev = omega (arith, r.prev);
        with_loop = inl (z, r.loop);
        with_next = inl (z, r.next);
        with_prev = inl (z, r.prev);
        with_mate = mate_together k l u;
      })
      (λ h. let r = a.half k (l, u) h in let n = next_in k (l, u, h) in let m = prev_in a.rules k (l, u, h) in
      record {
        start = r.start_in.1;
        loop = r.loop_in.1;
        next = n.1;
        prev = m.1;
        with_loop = inr (h, in_some r.loop_in);
        with_next = inr (h, in_some (n.0, n.1));
        with_prev = inr (h, in_some (m.0, m.1));
        with_mate = mate_together k l u;
      })

  -- a vertex
  vertex_range : (v : ℕ) → 1 ≤ v → v ≤ sh.vertices → VertexRange sh x p v
  vertex_range v l u = let q = a.point v (l, u) in record {
    x_range = range_is (coordinate p v 0) (q.range 0 (omega arith));
    y_range = range_is (coordinate p v 1) (q.range 1 (omega arith));
    z_range = range_is (coordinate p v 2) (q.range 2 (omega arith));
    free_zero = split (c VertexUsed v) 0
        (λ z. inr (
          (
            zero_is (coordinate p v 0) (q.zero z 0 (omega arith)),
            zero_is (coordinate p v 1) (q.zero z 1 (omega arith)),
          ),
          zero_is (coordinate p v 2) (q.zero z 2 (omega arith)),
        ))
        (λ h. inl h);
  }

  -- all of them
  pub to_rule1 : Rule1 sh x p
  to_rule1 = record {
    solid = λ s l u. a.solid_mark s (l, u);
    face = face_range;
    loop = loop_range;
    half =
        half_range;
    vertex = vertex_range;
  }

  -- ---- rules 2 and 3

  -- a first half-edge names its loop and is in use
  first_names : (l : ℕ) → In sh.loops l → c First l ≢ 0 → (c Loop (c First l) ≡ l) × (c Start (c First l) ≢ 0)
  first_names l i d =
      let h : c Face l ≢ 0 = λ z. d (a.loop_free l i z).0 in
      let e = (a.loop l i h).first in
      let b = label_found n2 (c Loop) l (λ z. d (e ∙ z)) in
      let q : c Loop (c First l) ≡ l = ap (c Loop) e ∙ b.label in
      let j : In n2 (c First l) = subst (In n2) (sym e) b.range in
      (q, λ z. omega (arith, i.0, sym q ∙ (a.half_free (c First l) j z).loop))

  -- what names an item names one in use
  pub to_rule2 : Rule2 sh x
  to_rule2 = record {
    face = λ f l u h. let r = a.face f (l, u) h in record { solid = r.solid_used_lem; outer = r.outer_face };
    loop = λ l lo u h. let r = a.loop l (lo, u) h in record {
      face = r.face_used;
      first = λ d. (first_names l (lo, u) d).1;
      isolated = λ d. ⊎_elim (λ q. absurd (d q.1)) (λ q. q.2) r.either;
    };
    half = λ k l u h. let r = a.half k (l, u) h in
        record {
          start = r.start_used;
          loop = r.loop_used;
          next = (next_in k (l, u, h)).2;
          prev =
              (prev_in a.rules k (l, u, h)).2;
        };
    solid = λ s l u h. let r = a.solid s (l, u) h in label_some sh.faces (c Solid) s r.0 r.1 r.2;
  }

  -- a loop has a first half-edge or an isolated vertex
  pub to_rule3 : Rule3 sh x
  to_rule3 l lo u h = ⊎_elim (λ q. inl q) (λ q. inr (q.0, in_some q.1)) (a.loop l (lo, u) h).either

  -- ---- rule 4

  -- the links of a half-edge
  half_links : (k : ℕ) → 1 ≤ k → k ≤ n2 → c Start k ≢ 0 → HalfLinks sh x k
  half_links k l u h =
      let w : HalfUsed sh c k = (l, u, h) in
      let r = a.half k (l, u) h in
      let e = (a.loop (c Loop k) r.loop_in r.loop_used).first in
      let s = label_some n2 (c Loop) (c Loop k) k (l, u) refl in
      let b = label_found n2 (c Loop) (c Loop k) s in
      record {
        prev_next = a.rules.undone k w;
        next_prev = next_prev a.rules k w;
        next_start = ap (λ i. c Start (c Next i)) (sym (mate_mate k)) ∙ a.rules.verts.keeps (mate k)
            (a.rules.mate_in k w);
        next_loop = a.rules.loops.keeps k w;
        has_first = λ z. s (sym e ∙ z);
        first_least = subst (λ i. i ≤ k) (sym e) (b.before k (l, u) refl);
      }

  -- half-edges fall into loops
  pub to_rule4 : Rule4 sh x
  to_rule4 = record {
    half = half_links;
    first = λ l lo u d. (first_names l (lo, u) d).0;
    cycles = agree a.rules.loops (used_half sh x) (half_used sh x) (λ k u. refl) (λ k u. refl);
  }

  -- ---- rule 5

  -- a vertex in use is isolated or starts something
  vertex_either : (v : ℕ) → VertexSound sh c v → c VertexUsed v ≡ 1 + starts_at sh x v → VertexEither sh x v
  vertex_either v (alone l i e u n) w = record {
    word = w;
    either = inl (many_one sh.loops (c Isolated) v l i e u, many_none n2 (c Start) v n);
  }
  vertex_either v (joined n k i e) w = record {
    word = w;
    either = inr (many_none sh.loops (c Isolated) v n, λ z. none_many n2 (c Start) v z k i e);
  }

  -- half-edges fall into vertices
  pub to_rule5 : Valent sh x → Rule5 sh x
  to_rule5 w = record {
    vertex = λ v l u h. vertex_either v (a.vertex v (l, u) h) (w v (l, u) h);
    cycles = agree a.rules.verts (used_half sh x) (half_used sh x) (λ k u. refl) (λ k u. refl);
  }

  -- ---- rule 6

  -- solids are what edges link
  pub to_rule6 : Rule6 sh x
  to_rule6 = record {
    sides = λ k l u h. sym (a.solids.edge k (l, u, h));
    linked = λ f g lf uf lg ug h e. map_linked (λ i. i)
        (half_edge sh c a.rules.mate_in (side c)
        (λ k i u w.
        (k, (i.0, i.1, not_T (eqb (c Start (2 * k)) 0) (λ z. w.2 (eqb→eq (c Start (2 * k)) 0 z))), refl, refl)))
        (a.solids.one f g (lf, uf, h) (lg, ug, λ z. h (e ∙ z)) e);
  }
