-- Links y that differ from the sound links x in the words of vertices alone, also in which of these are 0: what rules
-- 1 to 4 say of y follows from what they say of x, but for the lines that look at a vertex's word.
use Rattle.std.specs.Prelude.{◌≡◌, refl, ◌≢◌, List, ℕ, ◌*◌, ◌≤◌, eqb, ℤ}
use Rattle.std.proofs.Common.{sym, ap, ◌∙◌}
use Rattle.laws.specs.Search.{least_ext}
use Rattle.laws.specs.Cycles.{agree}
use Rattle.layout.specs.declared.shape.Shape.{Shape}
use Rattle.layout.specs.Mate.{mate}
use Rattle.layout.specs.MateLaws.{mate_range}
use Rattle.layout.specs.Items.{face_in}
use Rattle.layout.specs.Fields.{SolidUsed, Solid, Outer, Face, First, Isolated, Start, Loop, Next, Prev, VertexUsed}
use Rattle.layout.specs.Fields.{Columns}
use Rattle.check_rules.specs.RulesSay.{FaceRange, LoopRange, HalfRange, VertexRange, Rule1, FaceNames, LoopNames}
use Rattle.check_rules.specs.RulesSay.{HalfNames, Rule2, Rule3, HalfLinks}
use Rattle.check_rules.specs.CyclesSay.{Rule4}
use Rattle.sound_tables.specs.Sound.{HalfUsed, SameElse}
use Rattle.sound_tables.specs.Good.{own}
use Rattle.sound_tables.specs.FromRules.{half_used, used_half}

module _ {sh : Shape} {x : List ℕ} (y : List ℕ) {p : List ℤ} (e : SameElse sh (own sh x) (own sh y)) (r1 : Rule1 sh x p)
  where
    -- the columns of both
    abbrev c : Columns
    c = own sh x

    abbrev d : Columns
    d = own sh y

    -- ---- rule 1

    face_range : (f : ℕ) → 1 ≤ f → f ≤ sh.faces → FaceRange sh y f
    face_range f l u = let r = r1.face f l u in record {
      solid = rw (e Solid refl f u) r.solid;
      outer = rw (e Outer refl f u) r.outer;
      together = rw (e Solid refl f u, e Outer refl f u) r.together;
    }

    loop_range : (l : ℕ) → 1 ≤ l → l ≤ sh.loops → LoopRange sh y l
    loop_range l lo u = let r = r1.loop l lo u in record {
      face = rw (e Face refl l u) r.face;
      first = rw (e First refl l u) r.first;
      isolated = rw (e Isolated refl l u) r.isolated;
      first_used = rw (e Face refl l u, e First refl l u) r.first_used;
      isolated_used = rw (e Face refl l u, e Isolated refl l u) r.isolated_used;
    }

    half_range : (k : ℕ) → 1 ≤ k → k ≤ 2 * sh.edges → HalfRange sh y k
    half_range k l u = let r = r1.half k l u in record {
      start = rw (e Start refl k u) r.start;
      loop = rw (e Loop refl k u) r.loop;
      next = rw (e Next refl k u) r.next;
      prev = rw (e Prev refl k u) r.prev;
      with_loop = rw (e Start refl k u, e Loop refl k u) r.with_loop;
      with_next = rw (e Start refl k u, e Next refl k u) r.with_next;
      with_prev = rw (e Start refl k u, e Prev refl k u) r.with_prev;
      with_mate = rw (e Start refl k u, e Start refl (mate k) (mate_range k sh.edges l u).1) r.with_mate;
    }

    -- rule 1, by the points of the vertices
    pub rule1_else : ((v : ℕ) → 1 ≤ v → v ≤ sh.vertices → VertexRange sh y p v) → Rule1 sh y p
    rule1_else h = record {
      solid = λ s l u. rw (e SolidUsed refl s u) (r1.solid s l u);
      face = face_range;
      loop = loop_range;
      half = half_range;
      vertex = h;
    }

    -- ---- rule 2: what is named stays in use, vertices by `more`

    module _ (more : (n : ℕ) → n ≤ sh.vertices → c VertexUsed n ≢ 0 → d VertexUsed n ≢ 0) (r2 : Rule2 sh x) where
      face_names : (f : ℕ) → 1 ≤ f → f ≤ sh.faces → d Solid f ≢ 0 → FaceNames sh y f
      face_names f l u h =
          let g = r1.face f l u in
          let r = r2.face f l u (λ z. h (e Solid refl f u ∙ z)) in
          record {
            solid = rw (e Solid refl f u, e SolidUsed refl (c Solid f) g.solid) r.solid;
            outer = rw (e Outer refl f u, e Face refl (c Outer f) g.outer) r.outer;
          }

      loop_names : (l : ℕ) → 1 ≤ l → l ≤ sh.loops → d Face l ≢ 0 → LoopNames sh y l
      loop_names l lo u h =
          let g = r1.loop l lo u in
          let r = r2.loop l lo u (λ z. h (e Face refl l u ∙ z)) in
          record {
            face = rw (e Face refl l u, e Solid refl (c Face l) g.face) r.face;
            first = λ i. rw (e First refl l u, e Start refl (c First l) g.first)
                (r.first (λ z. i (e First refl l u ∙ z)));
            isolated = λ i. rw (e Isolated refl l u)
                (more (c Isolated l) g.isolated (r.isolated (λ z. i (e Isolated refl l u ∙ z))));
          }

      half_names : (k : ℕ) → 1 ≤ k → k ≤ 2 * sh.edges → d Start k ≢ 0 → HalfNames sh y k
      half_names k l u h =
          let g = r1.half k l u in
          let r = r2.half k l u (λ z. h (e Start refl k u ∙ z)) in
          record {
            start = rw (e Start refl k u) (more (c Start k) g.start r.start);
            loop = rw (e Loop refl k u, e Face refl (c Loop k) g.loop) r.loop;
            next = rw (e Next refl k u, e Start refl (c Next k) g.next) r.next;
            prev = rw (e Prev refl k u, e Start refl (c Prev k) g.prev) r.prev;
          }

      -- the least face of a solid is the same
      leader_same : (s : ℕ) → face_in sh y s ≡ face_in sh x s
      leader_same s = least_ext sh.faces _ _ (λ f l u. ap (λ n. eqb n s) (e Solid refl f u))

      pub rule2_else : Rule2 sh y
      rule2_else = record {
        face = face_names;
        loop = loop_names;
        half = half_names;
        solid = λ s l u h z. r2.solid s l u (λ i. h (e SolidUsed refl s u ∙ i)) (sym (leader_same s) ∙ z);
      }

    -- ---- rules 3 and 4 look at no word of a vertex

    pub rule3_else : Rule3 sh x → Rule3 sh y
    rule3_else r3 l lo u h =
        rw (e First refl l u, e Isolated refl l u) (r3 l lo u (λ z. h (e Face refl l u ∙ z)))

    module _ (r4 : Rule4 sh x) where
      half_links : (k : ℕ) → 1 ≤ k → k ≤ 2 * sh.edges → d Start k ≢ 0 → HalfLinks sh y k
      half_links k l u h =
          let g = r1.half k l u in
          let r = r4.half k l u (λ z. h (e Start refl k u ∙ z)) in
          record {
            prev_next = rw (e Next refl k u, e Prev refl (c Next k) g.next) r.prev_next;
            next_prev = rw (e Prev refl k u, e Next refl (c Prev k) g.prev) r.next_prev;
            next_start = rw (
              e Next refl k u,
              e Start refl (c Next k) g.next,
              e Start refl (mate k) (mate_range k sh.edges l u).1,
            ) r.next_start;
            next_loop = rw (e Next refl k u, e Loop refl (c Next k) g.next, e Loop refl k u) r.next_loop;
            has_first = rw (e Loop refl k u, e First refl (c Loop k) g.loop) r.has_first;
            first_least = rw (e Loop refl k u, e First refl (c Loop k) g.loop) r.first_least;
          }

      -- the half-edges in use are the same
      used_to : (k : ℕ) → HalfUsed sh c k → HalfUsed sh d k
      used_to k u = (u.0, u.1, rw (e Start refl k u.1) u.2)

      used_from : (k : ℕ) → HalfUsed sh d k → HalfUsed sh c k
      used_from k u = (u.0, u.1, λ z. u.2 (e Start refl k u.1 ∙ z))

      pub rule4_else : Rule4 sh y
      rule4_else = record {
        half = half_links;
        first = λ l lo u h. rw (e First refl l u, e Loop refl (c First l) (r1.loop l lo u).first)
            (r4.first l lo u (λ z. h (e First refl l u ∙ z)));
        cycles = agree r4.cycles (λ k u. used_half sh y k (used_to k (half_used sh x k u)))
            (λ k u. used_half sh x k (used_from k (half_used sh y k u))) (λ k u. e Next refl k u.1)
            (λ k u. e Loop refl k u.1);
      }
