-- The solid at hand and its root.
use Rattle.std.specs.Prelude.{◌≡◌, ◌≢◌, false, ◌&&◌, List, ℕ, ◌*◌, eqb, ℤ}
use Rattle.std.proofs.Common.{sym, ap, ◌∙◌, ⊎_elim, eqb→eq}
use Rattle.std.proofs.lemmas.Bool.{false≢true}
use Rattle.std.proofs.Math.Dec.{not_T}
use Rattle.laws.specs.Bools.{split, T_true, eqb_same}
use Rattle.laws.specs.Search.{least}
use Rattle.layout.specs.declared.shape.Shape.{Shape}
use Rattle.layout.specs.Fields.{SolidUsed, Solid, Outer, Face, First, Isolated, Loop, VertexUsed}
use Rattle.layout.specs.Items.{some, is_ring, face_in}
use Rattle.sound_tables.specs.Sound.{In}
use Rattle.sound_tables.specs.Names.{named_used}
use Rattle.sound_tables.specs.Labels.{LeastIs, label_found, label_some}
use Rattle.sound_tables.specs.Good.{Good, own}
use Rattle.takedown.specs.Inversion.{solid_at, of_solid, edges_left, in_ring, ring_half, is_ring_of, ring_of}
use Rattle.inversion.specs.OfSolid.{least_some, least_no, least_there, both, joint, Of, of_solid_lem, some_is}

module _ {sh : Shape} {x : List ℕ} {p : List ℤ} (g : Good sh x p) (sn : solid_at sh x ≢ 0) where
  -- it is in use
  pub solid_in : In sh.solids (solid_at sh x)
  solid_in = (least_some sh.solids (λ s. some (own sh x SolidUsed s)) sn).0

  pub solid_used_lem : own sh x SolidUsed (solid_at sh x) ≢ 0
  solid_used_lem z = false≢true (rw (eqb_same z) at (least_some sh.solids (λ s. some (own sh x SolidUsed s)) sn).1)

  -- it has a least face
  pub root_is : LeastIs sh.faces (own sh x Solid) (solid_at sh x) (face_in sh x (solid_at sh x))
  root_is =
      let y = g.sound.solid (solid_at sh x) solid_in solid_used_lem in
      label_found sh.faces (own sh x Solid) (solid_at sh x) (label_some sh.faces (own sh x Solid) (solid_at sh x)
      y.0 y.1 y.2)

  pub root_used : own sh x Solid (face_in sh x (solid_at sh x)) ≢ 0
  root_used z = sn (sym root_is.label ∙ z)

  -- whose outer loop is a loop of it
  pub outer_in : In sh.loops (own sh x Outer (face_in sh x (solid_at sh x)))
  outer_in = (g.sound.face (face_in sh x (solid_at sh x)) root_is.range root_used).outer_in

  pub outer_face : own sh x Face (own sh x Outer (face_in sh x (solid_at sh x))) ≡ face_in sh x (solid_at sh x)
  outer_face = (g.sound.face (face_in sh x (solid_at sh x)) root_is.range root_used).outer_face

  module _ (left : edges_left sh x (solid_at sh x) ≡ false) where
    -- no half-edge is of the solid
    pub no_half : (k : ℕ) → Of g sn k → ⊥
    no_half k u =
        false≢true (sym left
        ∙ some_is (least (2 * sh.edges) (of_solid sh x (solid_at sh x)))
        (least_there (2 * sh.edges) (of_solid sh x (solid_at sh x)) k (u.0.0, u.0.1) (eqb_same u.1)))

    -- so that its loops are lone
    pub lone_loop : (m : ℕ) → In sh.loops m → own sh x Face m ≢ 0 → own sh x Solid (own sh x Face m) ≡ solid_at sh x
        → (own sh x First m ≡ 0) × In sh.vertices (own sh x Isolated m)
        × (own sh x VertexUsed (own sh x Isolated m) ≢ 0)
    lone_loop m i d e =
        let L = g.sound.loop m i d in
        ⊎_elim
        (λ q.
        let b = label_found (2 * sh.edges) (own sh x Loop) m (λ z. q.0 (L.first ∙ z)) in
        let k = least (2 * sh.edges) (λ k. eqb (own sh x Loop k) m) in
        absurd (no_half k (
          named_used g.sound i.0 k b.range b.label,
          ap (λ l. own sh x Solid (own sh x Face l)) b.label ∙ e,
        )))
        (λ q. q) L.either

    -- and nothing is in a ring with its mate elsewhere
    pub no_ring : ring_half sh x (solid_at sh x) ≢ 0 → ⊥
    no_ring d =
        let f = least_some (2 * sh.edges) (in_ring sh x (solid_at sh x)) d in
        let k = ring_half sh x (solid_at sh x) in
        let a = both (of_solid sh x (solid_at sh x) k && is_ring sh x (own sh x Loop k)) _ f.1 in
        no_half k
        (of_solid_lem g sn k f.0 (both (of_solid sh x (solid_at sh x) k) (is_ring sh x (own sh x Loop k)) a.0).0)

  -- where the root has no ring, its outer loop is its only one
  pub only_outer : ring_of sh x (face_in sh x (solid_at sh x)) ≡ 0 → (m : ℕ) → In sh.loops m
      → own sh x Face m ≡ face_in sh x (solid_at sh x) → m ≡ own sh x Outer (face_in sh x (solid_at sh x))
  only_outer none m i e = split (own sh x Outer (own sh x Face m)) m (λ q. sym (sym (ap (own sh x Outer) e) ∙ q))
      (λ d. absurd (false≢true (sym (least_no sh.loops (is_ring_of sh x (face_in sh x (solid_at sh x))) none m i)
      ∙ joint _ _ (eqb_same e) (T_true (not_T (eqb (own sh x Outer (own sh x Face m)) m) (λ t. d (eqb→eq _ _ t)))))))
