-- mfkrh and kfmrh on the columns undo each other: what the one makes is what the other asks for, and every entry comes
-- back.
use Rattle.std.specs.Prelude.{◌≡◌, Bool, true, false, List, ℕ, ◌≤◌, ℤ}
use Rattle.std.proofs.Common.{sym, ap, ◌∙◌, ⊎_elim, arith}
use Rattle.laws.specs.Bools.{split, ask}
use Rattle.laws.specs.Update.{upd, upd_at, upd_off, upd_same, relabel_at, relabel_off}
use Rattle.layout.specs.declared.shape.Shape.{Shape}
use Rattle.layout.specs.Fields.{Field, SolidUsed, Solid, Outer, Face, Columns, cap_of, by_fields}
use Rattle.sound_tables.specs.Cells.{upd_back}
use Rattle.sound_tables.specs.Sound.{In, Sound}
use Rattle.sound_tables.specs.Regroup.{grouping}
use Rattle.sound_holes.specs.MfkrhSound.{cut_solid, cut, cut_others, RingFace, Moved, old_face, old_solid}
use Rattle.sound_holes.specs.MfkrhSound.{face_other, face_unnamed, cut_new, cut_old, cut_other}
use Rattle.sound_holes.specs.KfmrhSound.{joined_solid, joined, joined_others, TwoFaces, first_marked}
use Rattle.sound_holes.specs.KfmrhSound.{second_marked, ring_in, ring_face, joined_second, joined_first}
use Rattle.sound_holes.specs.KfmrhSound.{joined_other}

-- ---- mfkrh, then kfmrh

module _ {sh : Shape} {p : List ℤ} {c : Columns} (a : Sound sh p c) {l f f₀ s₀ : ℕ}
    (r : RingFace sh c l f f₀ s₀) {s : ℕ} {moved : ℕ → Bool} (m : Moved sh c l f f₀ s₀ s moved) where
  -- the ring is the only loop of the new face, also in columns that agree
  pub cut_two : {d : Columns} → ((F : Field) (n : ℕ) → n ≤ cap_of sh F → d F n ≡ cut c l f s₀ s moved F n)
      → TwoFaces sh d f₀ f l s₀ s
  cut_two e = record {
    first_in = ((old_face a r).0, (old_face a r).1);
    first_solid = e Solid f₀ (old_face a r).1 ∙ cut_old a r m;
    first_used = λ z. omega (arith, (old_solid a r).0.0, z);
    second_in = r.face_in_lem;
    second_solid = e Solid f r.face_in_lem.1 ∙ cut_new a r m;
    second_used = λ z. omega (arith, m.solid_in.0, z);
    other = face_other a r;
    outer = e Outer f r.face_in_lem.1 ∙ upd_same (c Outer) f l;
    only = λ n i q. split n l (λ x. x)
        (λ x. absurd (face_unnamed a r n i (sym (e Face n i.1 ∙ upd_off (c Face) f x) ∙ q)));
  }

  -- the marks come back: that of s₀ was set, that of another solid s was not
  mark_back : (n : ℕ) → upd (upd (upd (c SolidUsed) s 1) s 0) s₀ 1 n ≡ c SolidUsed n
  mark_back n = split n s₀ (λ e. upd_at _ 1 e ∙ sym (ap (c SolidUsed) e ∙ (old_solid a r).1)) (λ q. upd_off _ 1 q
      ∙ split n s (λ e. upd_at _ 0 e ∙ sym (ap (c SolidUsed) e ∙ m.mark (λ z. q (e ∙ z))))
      (λ d. upd_off _ 0 d ∙ upd_off (c SolidUsed) 1 d))

  -- each face has its solid again
  solid_back : (n : ℕ) → In sh.faces n → joined_solid (cut c l f s₀ s moved) f s₀ s n ≡ c Solid n
  solid_back n i = split n f
      (λ e. let z : upd (cut_solid c f s₀ s moved) f 0 n ≡ 0 = upd_at (cut_solid c f s₀ s moved) 0 e in
      relabel_off (upd (cut_solid c f s₀ s moved) f 0) s s₀ (λ q. omega (arith, m.solid_in.0, z, q)) ∙ z
      ∙ sym (ap (c Solid) e ∙ r.face_free))
      (λ d. let u : upd (cut_solid c f s₀ s moved) f 0 n ≡ cut_solid c f s₀ s moved n =
      upd_off (cut_solid c f s₀ s moved) 0 d in ⊎_elim (λ e. split (c Solid n) s
      (λ q. relabel_at (upd (cut_solid c f s₀ s moved) f 0) s s₀ (u ∙ e ∙ q) ∙ sym (q ∙ m.named n i q))
      (λ q. relabel_off (upd (cut_solid c f s₀ s moved) f 0) s s₀ (λ z. q (sym (u ∙ e) ∙ z)) ∙ u ∙ e))
      (λ e. relabel_at (upd (cut_solid c f s₀ s moved) f 0) s s₀ (u ∙ e.1) ∙ sym e.0) (cut_other a r m n d))

  -- every entry comes back
  pub cut_joined : (F : Field) (n : ℕ) → 1 ≤ n → n ≤ cap_of sh F → joined (cut c l f s₀ s moved) f₀ f l s₀ s F n ≡ c F n
  cut_joined = by_fields grouping _ (
    λ n i j. mark_back n,
    (
      λ n i j. solid_back n (i, j),
      (
        λ n i j. upd_back (c Outer) f l 0 (a.face_free f r.face_in_lem r.face_free) n,
        (λ n i j. upd_back (c Face) l f f₀ r.loop_face n, tt),
      ),
    ),
  ) (λ F h n i j. joined_others (cut c l f s₀ s moved) f₀ f l s₀ s F h n ∙ cut_others c l f s₀ s moved F h n)

-- ---- kfmrh, then mfkrh

module _ {sh : Shape} {p : List ℤ} {c : Columns} (a : Sound sh p c) {f1 f2 l s1 s2 : ℕ}
    (r : TwoFaces sh c f1 f2 l s1 s2) where
  -- the loop is a ring, and f2 is free, also in columns that agree
  pub joined_ring : {d : Columns} → ((F : Field) (n : ℕ) → n ≤ cap_of sh F → d F n ≡ joined c f1 f2 l s1 s2 F n)
      → RingFace sh d l f2 f1 s1
  joined_ring e =
      let i = ring_in a r in
      let face = e Face l i.1 ∙ upd_same (c Face) l f1 in
      let outer = e Outer f1 r.first_in.1 ∙ upd_off (c Outer) 0 r.other in
      let own = (a.face f1 r.first_in (λ z. r.first_used (sym r.first_solid ∙ z))).outer_face in
      record {
        loop_in = i;
        loop_used = λ z. omega (arith, r.first_in.0, face, z);
        loop_face = face;
        face_solid_lem = e Solid f1 r.first_in.1 ∙ joined_first a r;
        ring = λ q. r.other (sym own ∙ ap (c Face) (sym outer ∙ q) ∙ ring_face a r);
        face_in_lem = r.second_in;
        face_free = e Solid f2 r.second_in.1 ∙ joined_second a r;
      }

  -- the marks come back: both were set
  mark_again : (n : ℕ) → upd (upd (upd (c SolidUsed) s2 0) s1 1) s2 1 n ≡ c SolidUsed n
  mark_again n = split n s2 (λ e. upd_at _ 1 e ∙ sym (ap (c SolidUsed) e ∙ (second_marked a r).1)) (λ q. upd_off _ 1 q
      ∙ split n s1 (λ e. upd_at _ 1 e ∙ sym (ap (c SolidUsed) e ∙ (first_marked a r).1))
      (λ d. upd_off _ 1 d ∙ upd_off (c SolidUsed) 0 q))

  -- where all of s2 moves, or s1 and s2 are one
  module _ (moved : ℕ → Bool) (those : (n : ℕ) → In sh.faces n → moved n ≡ true → c Solid n ≡ s2)
      (rest : (n : ℕ) → In sh.faces n → moved n ≡ false → c Solid n ≡ s2 → s1 ≡ s2) where
    -- each face has its solid again
    solid_again : (n : ℕ) → In sh.faces n → cut_solid (joined c f1 f2 l s1 s2) f2 s1 s2 moved n ≡ c Solid n
    solid_again n i = ⊎_elim (λ t. rw t (sym (those n i t))) (λ t. rw t (split n f2
        (λ e. let q : c Solid n ≡ s2 = ap (c Solid) e ∙ r.second_solid in upd_at (joined_solid c f2 s1 s2) s1 e
        ∙ rest n i t q ∙ sym q)
        (λ d. upd_off (joined_solid c f2 s1 s2) s1 d ∙ ⊎_elim (λ q. q.1 ∙ rest n i t q.0 ∙ sym q.0) (λ q. q.1)
        (joined_other a r n d)))) (ask (moved n))

    -- every entry comes back
    pub joined_cut : (F : Field) (n : ℕ) → 1 ≤ n → n ≤ cap_of sh F → cut (joined c f1 f2 l s1 s2) l f2 s1 s2 moved F n
        ≡ c F n
    joined_cut = by_fields grouping _ (
      λ n i j. mark_again n,
      (
        λ n i j. solid_again n (i, j),
        (λ n i j. upd_back (c Outer) f2 0 l r.outer n, (λ n i j. upd_back (c Face) l f1 f2 (ring_face a r) n, tt)),
      ),
    ) (λ F h n i j. cut_others (joined c f1 f2 l s1 s2) l f2 s1 s2 moved F h n ∙ joined_others c f1 f2 l s1 s2 F h n)
