-- rmov on the columns: a ring becomes its face's outer loop, or goes to a face across an edge that lies outside it.
use Rattle.std.specs.Prelude.{◌≡◌, refl, ◌≢◌, ◌⊎◌, List, [], ◌∷◌, ℕ, ℤ}
use Rattle.std.proofs.Common.{sym, ap, ◌∙◌, subst, inl, inr, ⊎_elim}
use Rattle.laws.specs.Bools.{split}
use Rattle.laws.specs.Update.{upd_at, upd_off}
use Rattle.laws.specs.Linked.{Linked, same, link, back, via, map_linked}
use Rattle.layout.specs.declared.shape.Shape.{Shape}
use Rattle.layout.specs.Mate.{mate}
use Rattle.layout.specs.Fields.{Solid, Outer, Face, Loop, Columns, change}
use Rattle.layout.specs.Writes.{write}
use Rattle.sound_tables.specs.WriteLaws.{unwritten}
use Rattle.sound_tables.specs.Faces.{Share}
use Rattle.sound_tables.specs.Solids.{Solids}
use Rattle.sound_tables.specs.Regroup.{grouping, regroup_sound}
use Rattle.sound_tables.specs.Sound.{In, HalfUsed, FaceUsed, side, Sound}
use Rattle.sound_tables.specs.Names.{outer_other}

-- loop l is a ring, and f a face in use
pub record Ring (sh : Shape) (c : Columns) (l f : ℕ) : Type 0 where
  pub loop_in : In sh.loops l
  pub loop_used : c Face l ≢ 0
  pub face_in_lem : In sh.faces f
  pub face_used : c Solid f ≢ 0
  pub ring : c Outer (c Face l) ≢ l

-- half-edge k lies in l's face, outside l, and its mate in f
pub record Shared (sh : Shape) (c : Columns) (l f k : ℕ) : Type 0 where
  pub used : HalfUsed sh c k
  pub here : side c k ≡ c Face l
  pub outside : c Loop k ≢ l
  pub there : side c (mate k) ≡ f

-- ---- the ring becomes the outer loop

-- only one outer loop has changed
pub swap_sound : {sh : Shape} {p : List ℤ} {c : Columns} → Sound sh p c → {l f : ℕ} → Ring sh c l f → f ≡ c Face l
    → Sound sh p (change c Outer f l)
swap_sound {sh} {c = c} a {l} {f} r e = regroup_sound a (record {
  mark = a.solid_mark;
  solid = a.solid;
  face_free = λ g i h. split g f (λ q. absurd (r.face_used (ap (c Solid) (sym q) ∙ h)))
      (λ n. upd_off (c Outer) l n ∙ a.face_free g i h);
  face = λ g u.
      let b = a.face g (u.0, u.1) u.2 in
      let o : In sh.loops (change c Outer f l Outer g) × (c Face (change c Outer f l Outer g) ≡ g) = split g f
      (λ q. rw (upd_at (c Outer) l q) (r.loop_in, sym e ∙ sym q))
      (λ n. rw (upd_off (c Outer) l n) (b.outer_in, b.outer_face)) in
      record { solid_in = b.solid_in; solid_used_lem = b.solid_used_lem; outer_in = o.0; outer_face = o.1 };
  loop_free = λ m i z. z;
  loop = λ m i h. let b = a.loop m i h in (b.face_in_lem.0, b.face_in_lem.1, b.face_used);
  solids = a.solids;
  others = unwritten grouping (write Outer f l ∷ []) refl c;
})

-- ---- the ring goes to another face

module _ {sh : Shape} {p : List ℤ} {c : Columns} (a : Sound sh p c) {l f k : ℕ} (r : Ring sh c l f) (n : f ≢ c Face l)
    (s : Shared sh c l f k) where
  -- the columns afterwards
  abbrev d : Columns
  d = change c Face l f

  -- faces that are linked afterwards
  abbrev L : ℕ → ℕ → Type 0
  L = Linked (Share (HalfUsed sh d) (side d) mate)

  -- a side stays, or becomes f
  side_is : (i : ℕ) → (side d i ≡ side c i) ⊎ ((side c i ≡ c Face l) × (side d i ≡ f))
  side_is i = split (c Loop i) l (λ e. inr (ap (c Face) e, upd_at (c Face) f e)) (λ q. inl (upd_off (c Face) f q))

  -- both faces lie in one solid
  one_solid : c Solid f ≡ c Solid (c Face l)
  one_solid = ap (c Solid) (sym s.there) ∙ a.solids.edge k s.used ∙ ap (c Solid) s.here

  -- so each side has the solid that it had
  solid_same : (i : ℕ) → c Solid (side d i) ≡ c Solid (side c i)
  solid_same i = ⊎_elim (λ e. ap (c Solid) e) (λ e. ap (c Solid) e.1 ∙ one_solid ∙ ap (c Solid) (sym e.0))
      (side_is i)

  -- the shared edge is there as before
  pub mate_outside : c Loop (mate k) ≢ l
  mate_outside e = n (sym s.there ∙ ap (c Face) e)

  -- so the two faces are linked
  still_linked : L (c Face l) f
  still_linked =
      link (k, s.used, upd_off (c Face) f s.outside ∙ s.here, upd_off (c Face) f mate_outside ∙ s.there)

  -- the new side of a half-edge is linked to the old one
  near : (i : ℕ) → L (side c i) (side d i)
  near i = ⊎_elim (λ e. same (sym e))
      (λ e. subst (λ g. L g (side d i)) (sym e.0) (subst (L (c Face l)) (sym e.1) still_linked)) (side_is i)

  -- rule 6
  moved_solids : Solids (HalfUsed sh d) (FaceUsed sh d) (side d) mate (d Solid)
  moved_solids = record {
    side_in_lem = λ i u. ⊎_elim (λ e. subst (FaceUsed sh c) (sym e) (a.solids.side_in_lem i u))
        (λ e. subst (FaceUsed sh c) (sym e.1) (r.face_in_lem.0, r.face_in_lem.1, r.face_used)) (side_is i);
    edge = λ i u. solid_same (mate i) ∙ a.solids.edge i u ∙ sym (solid_same i);
    one = λ g h u v e. map_linked (λ i. i) (λ g h t.
        subst (λ g. L g h) t.2 (subst (L (side c t.0)) t.3
        (via (side d t.0) (near t.0) (via (side d (mate t.0)) (link (t.0, t.1, refl, refl))
        (back (near (mate t.0))))))) (a.solids.one g h u v e);
  }

  -- only one loop has changed its face, and the sides with it
  pub move_sound : Sound sh p d
  move_sound = regroup_sound a (record {
    mark = a.solid_mark;
    solid = a.solid;
    face_free = a.face_free;
    face = λ g u.
        let b = a.face g (u.0, u.1) u.2 in
        let o = upd_off (c Face) f (outer_other a l r.ring g (u.0, u.1) u.2) ∙ b.outer_face in
        record { solid_in = b.solid_in; solid_used_lem = b.solid_used_lem; outer_in = b.outer_in; outer_face = o };
    loop_free = λ m i z. upd_off (c Face) f (λ e. r.loop_used (ap (c Face) (sym e) ∙ z)) ∙ z;
    loop = λ m i h. let b = a.loop m i h in split m l
        (λ e. rw (upd_at (c Face) f e) (r.face_in_lem.0, r.face_in_lem.1, r.face_used))
        (λ q. rw (upd_off (c Face) f q) (b.face_in_lem.0, b.face_in_lem.1, b.face_used));
    solids = moved_solids;
    others = unwritten grouping (write Face l f ∷ []) refl c;
  })
