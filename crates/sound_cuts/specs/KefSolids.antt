-- Rule 6 (the faces of a solid hang together across edges) once the edge is out: what named the face of b names that
-- of a.
use Rattle.std.specs.Prelude.{◌≡◌, ◌≢◌, List, ℕ, ℤ}
use Rattle.std.proofs.Common.{sym, ap, ◌∙◌, subst}
use Rattle.laws.specs.Bools.{split}
use Rattle.laws.specs.Update.{upd, upd_at, upd_off}
use Rattle.laws.specs.Linked.{Linked, same, link, map_linked}
use Rattle.layout.specs.declared.shape.Shape.{Shape}
use Rattle.layout.specs.Mate.{mate}
use Rattle.layout.specs.Fields.{Solid, Face, Loop, Columns}
use Rattle.sound_tables.specs.Faces.{Share}
use Rattle.sound_tables.specs.Solids.{Solids}
use Rattle.sound_tables.specs.Sound.{In, HalfUsed, FaceUsed, side, Sound}
use Rattle.sound_cuts.specs.KefRules.{mend_rules}
use Rattle.sound_cuts.specs.Relation.{Spot, l_m, ba, Cut, used_to, each, face_l, loop_stays, loop_goes}

-- m is the only loop of f
abbrev pub Only : Shape → Columns → Spot → Type 0
Only sh d q = (n : ℕ) → In sh.loops n → n ≢ q.m → d Face n ≢ q.f

module _ {sh : Shape} {p : List ℤ} {c d : Columns} {q : Spot} (k : Cut sh c d q) (only : Only sh d q)
    (t : Sound sh p d) where
  -- the face of l
  abbrev f0 : ℕ
  f0 = c Face q.l

  -- it is another
  pub f0_f : c Face q.l ≢ q.f
  f0_f e = only q.l k.site.l_in (l_m k.site) (face_l k ∙ e)

  -- and in use
  pub old_used : FaceUsed sh c (c Face q.l)
  old_used =
      let e = face_l k in
      let r = t.loop q.l k.site.l_in (λ z. k.site.l_used (sym e ∙ z)) in
      let i : In sh.faces f0 = subst (In sh.faces) e r.face_in_lem in
      (i.0, i.1, λ z. r.face_used (ap (d Solid) e ∙ k.solid_else f0 f0_f ∙ z))

  -- other faces in use in d are in use in c
  face_from : (g : ℕ) → FaceUsed sh d g → g ≢ q.f → FaceUsed sh c g
  face_from g x e = (x.0, x.1, λ z. x.2 (k.solid_else g e ∙ z))

  -- the face f becomes that of l
  abbrev φ : ℕ → ℕ
  φ = upd (λ g. g) q.f (c Face q.l)

  -- a side becomes what φ says
  side_φ : (i : ℕ) → HalfUsed sh c i → side c i ≡ φ (side d i)
  side_φ i x = split (d Loop i) q.m
      (λ e. ap (c Face) (loop_goes k i x e) ∙ sym (upd_at (λ g. g) f0 (ap (d Face) e ∙ k.face_new)))
      (λ e. let r = t.half i (x.0, x.1) (used_to k i x).2 in
      let z : side d i ≢ q.f = only (d Loop i) r.loop_in e in
      ap (c Face) (sym (loop_stays k i x e)) ∙ sym (k.face_else (d Loop i) e)
      ∙ sym (upd_off (λ g. g) f0 z))

  -- what φ gives is in use, in the same solid
  φ_used : (g : ℕ) → FaceUsed sh d g → FaceUsed sh c (φ g)
  φ_used g x = split g q.f (λ e. subst (FaceUsed sh c) (sym (upd_at (λ g. g) f0 e)) old_used)
      (λ e. subst (FaceUsed sh c) (sym (upd_off (λ g. g) f0 e)) (face_from g x e))

  -- and its solid is the same
  φ_solid : (g : ℕ) → c Solid (φ g) ≡ d Solid g
  φ_solid g = split g q.f
      (λ e. ap (c Solid) (upd_at (λ g. g) f0 e) ∙ sym (ap (d Solid) e ∙ k.solid_new))
      (λ e. ap (c Solid) (upd_off (λ g. g) f0 e) ∙ sym (k.solid_else g e))

  -- both sides of the edge become the face of l
  φ_a : φ (side d q.a) ≡ f0
  φ_a = ap φ (ap (d Face) k.loop_a ∙ face_l k) ∙ upd_off (λ g. g) f0 f0_f

  -- the same of b
  φ_b : φ (side d q.b) ≡ f0
  φ_b = upd_at (λ g. g) f0 (ap (d Face) k.loop_b ∙ k.face_new)

  -- linked in c
  abbrev L : ℕ → ℕ → Type 0
  L = Linked (Share (HalfUsed sh c) (side c) mate)

  -- a step of d is a chain of c
  step : (i : ℕ) → HalfUsed sh d i → L (φ (side d i)) (φ (side d (mate i)))
  step = each k (λ i. L (φ (side d i)) (φ (side d (mate i))))
      (same (φ_a ∙ sym (ap (λ j. φ (side d j)) k.site.ab ∙ φ_b)))
      (same (φ_b ∙ sym (ap (λ j. φ (side d j)) (ba k.site) ∙ φ_a)))
      (λ i x. link (i, x, side_φ i x, side_φ (mate i) ((mend_rules k t.rules).mate_in i x)))

  -- rule 6 without the edge
  pub mend_solids : Solids (HalfUsed sh c) (FaceUsed sh c) (side c) mate (c Solid)
  mend_solids =
      let mate_in = (mend_rules k t.rules).mate_in in
      record {
        side_in_lem = λ i x. subst (FaceUsed sh c) (sym (side_φ i x))
            (φ_used (side d i) (t.solids.side_in_lem i (used_to k i x)));
        edge = λ i x. ap (c Solid) (side_φ (mate i) (mate_in i x)) ∙ φ_solid (side d (mate i))
            ∙ t.solids.edge i (used_to k i x) ∙ sym (φ_solid (side d i)) ∙ ap (c Solid) (sym (side_φ i x));
        one = λ g h x y e.
            let nf : (g : ℕ) → FaceUsed sh c g → g ≢ q.f = λ g x z. x.2 (ap (c Solid) z ∙ k.site.f_free) in
            let to : (g : ℕ) → FaceUsed sh c g → FaceUsed sh d g =
            λ g x. (x.0, x.1, λ z. x.2 (sym (k.solid_else g (nf g x)) ∙ z)) in
            subst (λ i. L i h) (upd_off (λ g. g) f0 (nf g x)) (subst (L (φ g)) (upd_off (λ g. g) f0 (nf h y))
            (map_linked φ (λ i j r. subst (λ z. L z (φ j)) (ap φ r.2)
            (subst (L (φ (side d r.0))) (ap φ r.3) (step r.0 r.1)))
            (t.solids.one g h (to g x) (to h y) (k.solid_else g (nf g x) ∙ e ∙ sym (k.solid_else h (nf h y))))));
      }
