-- The one clause without a witness: kvsf's "one face". On a sound table it follows from the other two, since by rule 6
-- a face whose only loop is lone is linked to no other face.
use Rattle.std.specs.Prelude.{◌≡◌, refl, ◌≢◌, List, ℕ, ℤ}
use Rattle.std.proofs.Common.{sym, ◌∙◌, ⊎_elim, arith}
use Rattle.laws.specs.Linked.{carry}
use Rattle.layout.specs.declared.shape.Shape.{Shape}
use Rattle.layout.specs.Layout.{solid_used, face_solid, face_outer, loop_face, loop_isolated, loop_of, side}
use Rattle.layout.specs.Mate.{mate}
use Rattle.layout.specs.Items.{face_in}
use Rattle.euler.specs.Queries.{faces_in, loops_in}
use Rattle.sound_tables.specs.Sound.{In, HalfUsed}
use Rattle.sound_tables.specs.Labels.{LeastIs, label_found, label_some, none_label, many_one, one_many}
use Rattle.sound_tables.specs.Good.{Good, own}

module _ {sh : Shape} {x : List ℕ} {p : List ℤ} (g : Good sh x p) (s : ℕ) (i : In sh.solids s)
    (u : solid_used sh x s ≢ 0)
    (one : loops_in sh x (face_in sh x s) ≡ 1) (lone : loop_isolated sh x (face_outer sh x (face_in sh x s)) ≢ 0) where
  -- the solid's least face
  abbrev f : ℕ
  f = face_in sh x s

  found : LeastIs sh.faces (face_solid sh x) s f
  found =
      let r = g.sound.solid s i u in
      label_found sh.faces (face_solid sh x) s (label_some sh.faces (face_solid sh x) s r.0 r.1 r.2)

  -- no half-edge lies in it
  bare : (k : ℕ) → HalfUsed sh (own sh x) k → side sh x k ≢ f
  bare k w e =
      let r = g.sound.face f found.range (λ z. omega (arith, i.0, z, found.label)) in
      let l = g.sound.loop (face_outer sh x f) r.outer_in (λ z. omega (arith, found.range.0, z, r.outer_face)) in
      let h = g.sound.half k (w.0, w.1) w.2 in
      let q = one_many sh.loops (loop_face sh x) f one (face_outer sh x f) (loop_of sh x k) r.outer_in
      r.outer_face h.loop_in e in
      ⊎_elim (λ a. lone a.1) (λ a. none_label _ (loop_of sh x) (face_outer sh x f) (sym l.first ∙ a.0) k
      (w.0, w.1) q) l.either

  -- so no other face is linked to it
  only : (h : ℕ) → In sh.faces h → face_solid sh x h ≡ s → h ≡ f
  only h r e =
      (carry (λ j. j ≡ f)
      (λ a b t. (
        λ q. absurd (bare t.0 t.1 (t.2 ∙ q)),
        λ q. absurd (bare (mate t.0) (g.sound.rules.mate_in t.0 t.1) (t.3 ∙ q)),
      ))
      (g.sound.solids.one f h (found.range.0, found.range.1, λ z. omega (arith, i.0, z, found.label))
      (r.0, r.1, λ z. omega (arith, i.0, z, e)) (found.label ∙ sym e))
      ).0 refl

  pub one_face_follows : faces_in sh x s ≡ 1
  one_face_follows = many_one sh.faces (face_solid sh x) s f found.range found.label only
