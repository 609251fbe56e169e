-- What is left covers what is on credit: a solid has a vertex, and where a half-edge of a ring has its mate in another
-- loop there are a loop more than solids and a vertex. So the operators never are more than the bound, wherever the
-- turns stop.
use Rattle.std.specs.Prelude.{◌≡◌, ◌≢◌, Bool, true, ◌&&◌, List, ℕ, ◌+◌, ◌*◌, ◌≤◌, eqb, ℤ}
use Rattle.std.proofs.Common.{sym, ap, ◌∙◌, ⊎_elim, arith}
use Rattle.laws.specs.Search.{least}
use Rattle.laws.specs.Sums.{bit, count_to, sum_lt, sum_zero}
use Rattle.layout.specs.declared.shape.Shape.{Shape}
use Rattle.layout.specs.Fields.{Outer, Face, Start, Loop, VertexUsed}
use Rattle.layout.specs.Items.{some, is_ring, face_in}
use Rattle.table.specs.Count.{item_used}
use Rattle.sound_tables.specs.Sound.{In}
use Rattle.sound_tables.specs.Labels.{label_found}
use Rattle.sound_tables.specs.Names.{named_used}
use Rattle.sound_tables.specs.Good.{Good, own}
use Rattle.takedown.specs.Inversion.{solid_at, of_solid, in_ring, ring_half}
use Rattle.inversion.specs.Counts.{solids, vertices, rings}
use Rattle.inversion.specs.Same.{vertices_is}
use Rattle.inversion.specs.OfSolid.{least_some, both, joint, some_is, of_solid_lem}
use Rattle.inversion.specs.Root.{root_is, outer_in, outer_face}
use Rattle.inversion.specs.LoopCounts.{rings_loops, stray_few, solid_faces}
use Rattle.inversion.specs.Turn.{RingAt, worth, Change, SolidVertex}

-- one that passes is counted
count_some : (n : ℕ) (p : ℕ → Bool) (c : ℕ) → In n c → p c ≡ true → 1 ≤ count_to n p
count_some n p c i t =
    omega (
      arith,
      sum_lt n (λ k. 0) (λ k. bit (p k)) c i.0 i.1 (omega (arith, ap bit t)) (λ k a b. omega arith),
      sum_zero n,
    )

module _ {sh : Shape} {x : List ℕ} {p : List ℤ} (g : Good sh x p) (sn : solid_at sh x ≢ 0) where
  -- a vertex in use is counted
  vertex_counted : (v : ℕ) → In sh.vertices v → own sh x VertexUsed v ≢ 0 → 1 ≤ vertices sh x
  vertex_counted v i d = omega (
    arith,
    vertices_is sh x,
    count_some sh.vertices (λ k. some (own sh x VertexUsed k)) v i (some_is _ d),
  )

  -- the root's outer loop is lone, or a half-edge of it starts somewhere
  vertex_there : 1 ≤ vertices sh x
  vertex_there =
      let l = own sh x Outer (face_in sh x (solid_at sh x)) in
      let u : own sh x Face l ≢ 0 = λ z. omega (arith, (root_is g sn).range.0, sym (outer_face g sn) ∙ z) in
      let L = g.sound.loop l (outer_in g sn) u in
      ⊎_elim
      (λ q.
      let b = label_found (2 * sh.edges) (own sh x Loop) l (λ z. q.0 (L.first ∙ z)) in
      let k = least (2 * sh.edges) (λ k. eqb (own sh x Loop k) l) in
      let n = named_used g.sound (outer_in g sn).0 k b.range b.label in
      let h = g.sound.half k (n.0, n.1) n.2 in
      vertex_counted (own sh x Start k) h.start_in h.start_used)
      (λ q. vertex_counted _ q.1 q.2) L.either

-- A SOLID HAS A VERTEX
pub solid_vertex : SolidVertex
solid_vertex sh x p g sn = vertex_there g sn

-- a ring is counted
ring_there : {sh : Shape} {x : List ℕ} {p : List ℤ} → Good sh x p → RingAt sh x → 1 ≤ rings sh x
unfolding item_used
ring_there {sh} {x} g r =
    let k = ring_half sh x (solid_at sh x) in
    let l = own sh x Loop k in
    let f = least_some (2 * sh.edges) (in_ring sh x (solid_at sh x)) r.2 in
    let a = both (of_solid sh x (solid_at sh x) k && is_ring sh x l) _ f.1 in
    let b = both (of_solid sh x (solid_at sh x) k) (is_ring sh x l) a.0 in
    let u = (of_solid_lem g r.0 k f.0 b.0).0 in
    let h = g.sound.half k (u.0, u.1) u.2 in
    count_some sh.loops (λ m. some (own sh x Face m) && is_ring sh x m) l h.loop_in
    (joint _ _ (some_is _ h.loop_used) b.1)

-- WHEREVER IT STOPS, NO MORE THAN THE WORTH OF WHAT WAS THERE IS DONE
pub covered : {sh : Shape} {x y : List ℕ} {q : List ℤ} {n j : ℕ} → Good sh y q → Change sh x y n j
    → n + solids sh x ≤ worth sh x + 3 * j
covered {sh} {y = y} {q} g c = ⊎_elim
    (λ k. omega (arith, k, stray_few sh y q g))
    (λ k. omega (
      arith,
      k.1,
      rings_loops sh y q g,
      solid_faces sh y q g,
      ring_there g k.0,
      solid_vertex sh y q g k.0.0,
    ))
    c.paid
