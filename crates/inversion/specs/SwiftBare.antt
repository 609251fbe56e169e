-- C's turn keeps the lower ends: no half-edge is left, and no loop becomes a ring of the root.
use Rattle.std.specs.Prelude.{◌≡◌, refl, ◌≢◌, false, List, ℕ, ◌-◌, ◌*◌, eqb, ℤ}
use Rattle.std.proofs.Common.{sym, ap, ◌∙◌, subst, ⊎_elim, arith, eqb→eq}
use Rattle.laws.specs.Bools.{split, true_T}
use Rattle.layout.specs.declared.shape.Shape.{Shape}
use Rattle.euler.specs.Queries.{faces_in}
use Rattle.euler.specs.Exec.{links_after}
use Rattle.layout.specs.Fields.{Solid, Outer, Face, Loop, Start}
use Rattle.layout.specs.Items.{face_in, is_ring}
use Rattle.sound_tables.specs.Sound.{In, side}
use Rattle.sound_tables.specs.Good.{Good, own}
use Rattle.takedown.specs.Inversion.{solid_at, free_edge, of_solid, edges_left, is_ring_of, ring_of, kev, mekr}
use Rattle.inversion.specs.Same.{face_in_same, faces_in_same, solid_at_same}
use Rattle.inversion.specs.OfSolid.{least_some, both}
use Rattle.inversion.specs.Root.{root_is, no_half}
use Rattle.inversion.specs.TurnBridge.{Bare, turn_bare, found}
use Rattle.inversion.specs.TurnsB.{least_before, fails}
use Rattle.takedown.specs.declared.ends.Ends.{Ends}
use Rattle.takedown.specs.Swift.{bare_ends}
use Rattle.inversion.specs.SwiftKept.{Keeps, Kept}

module _ {sh : Shape} {x : List ℕ} {p : List ℤ} (g : Good sh x p) (free : free_edge sh x ≢ 0) (sn : solid_at sh x ≢ 0)
    (one : faces_in sh x (solid_at sh x) ≡ 1)
    (left : edges_left sh x (solid_at sh x) ≡ false) (some : ring_of sh x (face_in sh x (solid_at sh x)) ≢ 0) where
  -- the root, and its ring that goes
  abbrev r : ℕ
  r = face_in sh x (solid_at sh x)

  abbrev l : ℕ
  l = ring_of sh x (face_in sh x (solid_at sh x))

  abbrev y : List ℕ
  y = links_after sh (links_after sh x (mekr (own sh x Outer r) l (free_edge sh x))) (kev (2 * free_edge sh x - 1))

  B : Bare sh x y l
  B = turn_bare g free sn one left some

  at : solid_at sh y ≡ solid_at sh x
  at = solid_at_same sh x y B.mark

  -- the ring lies in the root
  ring_face : own sh x Face l ≡ r
  ring_face = (found g free sn one left some).1

  -- no half-edge is of the solid
  none : (i : ℕ) → In (2 * sh.edges) i → of_solid sh y (solid_at sh x) i ≡ false
  none i j = fails false (of_solid sh y (solid_at sh x) i) refl (λ t. absurd (by (eqb→eq _ _ (true_T t))))
    where
      label : own sh x Solid r ≡ solid_at sh x
      label = (root_is g sn).label

      by : own sh y Solid (side (own sh y) i) ≡ solid_at sh x → ⊥
      by e = split (own sh y Start i) 0
          (λ z. sn (sym e ∙ ap (λ m. own sh y Solid (own sh y Face m)) (B.half_free i j z)))
          (λ d.
          let h = B.half i (j.0, j.1, d) in
          let L = g.sound.half i j h.0.2 in
          let F = g.sound.solids.side_in_lem i h.0 in
          no_half g sn left i (
            h.0,
            ⊎_elim
                (λ q. ap (λ m. own sh x Solid (own sh x Face m)) q ∙ ap (own sh x Solid) ring_face ∙ label)
                (λ q. sym (ap (λ m. own sh y Solid (own sh y Face m)) q.1
                ∙ ap (own sh y Solid) (B.face (own sh x Loop i) L.loop_in q.0)
                ∙ B.solid (side (own sh x) i) (F.0, F.1)) ∙ e)
                h.1,
          ))

  -- a ring of the root was one
  rings : (n : ℕ) → In sh.loops n → is_ring_of sh x r n ≡ false → is_ring_of sh y r n ≡ false
  rings n i f = fails (is_ring_of sh x r n) (is_ring_of sh y r n) f (λ t.
      let c = both (eqb (own sh y Face n) r) (is_ring sh y n) t in
      let e : own sh y Face n ≡ r = eqb→eq _ _ (true_T c.0) in
      let d : n ≢ l = λ q. omega (arith, (root_is g sn).range.0, sym e ∙ ap (own sh y Face) q ∙ B.face_gone) in
      sym (same (sym (B.face n i d) ∙ e) (B.face n i d)) ∙ t)
    where
      same : own sh x Face n ≡ r → own sh y Face n ≡ own sh x Face n → is_ring_of sh y r n ≡ is_ring_of sh x r n
      same e q = rw (q, e, B.outer r (root_is g sn).range)

  tip : In (2 * sh.edges) 1
  tip = (omega arith, omega (arith, g.capacities.edges.0))

  pub kept_bare : (e : Ends) → Kept sh x e → Kept sh y (bare_ends sh e l)
  kept_bare e K = record {
    solid = K.solid ∙ sym at;
    root = K.root ∙ sym (face_in_same sh x y B.solid (solid_at sh x)) ∙ ap (face_in sh y) (sym at);
    faces = K.faces ∙ sym (faces_in_same sh x y B.solid (solid_at sh x)) ∙ ap (faces_in sh y) (sym at);
    keeps = subst (λ s. Keeps sh y s (face_in sh y s) (bare_ends sh e l)) (sym at)
        (subst (λ q. Keeps sh y (solid_at sh x) q (bare_ends sh e l))
        (sym (face_in_same sh x y B.solid (solid_at sh x))) (record {
          border_low = omega arith;
          loop_low = omega arith;
          half_low = omega arith;
          ring_low = omega arith;
          spur_low = omega arith;
          cross_low = omega arith;
          lone_low = (least_some sh.loops (is_ring_of sh x r) some).0.0;
          tips_in = (tip, tip, tip, tip);
          border = λ i j h. absurd (omega (arith, j.0, h));
          loop = λ i j h. absurd (omega (arith, j.0, h));
          half = λ i j h. none i j;
          ring = λ i j h. absurd (omega (arith, j.0, h));
          pair = λ z. absurd (omega (arith, z));
          spur = λ i j h. absurd (omega (arith, j.0, h));
          cross = λ i j h. absurd (omega (arith, j.0, h));
          lone = λ n i h. rings n i (least_before sh.loops (is_ring_of sh x r) n i h);
        }));
  }
