-- mfkrh on the columns: a ring becomes the outer loop of a new face, and that face, with all that is linked to it,
-- stays in its solid or becomes a solid of its own. Both are `cut`: `moved` says which of the old faces pass to the
-- solid of the new one.
use Rattle.std.specs.Prelude.{◌≡◌, refl, ◌≢◌, ◌⊎◌, Bool, true, false, List, [], ◌∷◌, ◌++◌, ℕ, ℤ}
use Rattle.std.proofs.Common.{sym, ap, ◌∙◌, subst, inl, inr, ⊎_elim, arith}
use Rattle.std.proofs.lemmas.Bool.{false≢true}
use Rattle.laws.specs.Bools.{pick, split, ask}
use Rattle.laws.specs.Update.{upd, upd_at, upd_off, upd_same}
use Rattle.laws.specs.Linked.{same, back, linked_same}
use Rattle.layout.specs.declared.shape.Shape.{Shape}
use Rattle.layout.specs.Mate.{mate}
use Rattle.layout.specs.Fields.{Field, SolidUsed, Solid, Outer, Face, Loop, Columns, among}
use Rattle.layout.specs.Writes.{Write, write, changes}
use Rattle.euler.specs.Surgery.{face_record}
use Rattle.sound_tables.specs.WriteLaws.{unwritten, with_column, column_other}
use Rattle.sound_tables.specs.Solids.{Solids, stays, parts}
use Rattle.sound_tables.specs.Sound.{In, HalfUsed, FaceUsed, side, FaceSound, Sound}
use Rattle.sound_tables.specs.Names.{outer_other}
use Rattle.sound_tables.specs.Regroup.{grouping, Regroup, regroup_sound}
use Rattle.sound_holes.specs.Chains.{side_in, Chain}

-- the solids afterwards: face f lies in s₀, then what is moved passes to s
abbrev pub cut_solid : Columns → ℕ → ℕ → ℕ → (ℕ → Bool) → ℕ → ℕ
cut_solid c f s₀ s moved g = pick (moved g) s (upd (c Solid) f s₀ g)

-- l is the outer loop of the new face f, in solid s₀
abbrev pub face_writes : ℕ → ℕ → ℕ → List Write
face_writes l f s₀ = face_record f s₀ l ++ (write Face l f ∷ [])

-- the columns afterwards: solid s is in use
abbrev pub cut : Columns → ℕ → ℕ → ℕ → ℕ → (ℕ → Bool) → Columns
cut c l f s₀ s moved = with_column (changes (write SolidUsed s 1 ∷ []) (changes (face_writes l f s₀) c)) Solid
    (cut_solid c f s₀ s moved)

-- they differ in the grouping alone
pub cut_others : (c : Columns) (l f s₀ s : ℕ) (moved : ℕ → Bool) (F : Field) → among grouping F ≡ false → (n : ℕ)
    → cut c l f s₀ s moved F n ≡ c F n
cut_others c l f s₀ s moved F h n =
    let e = changes (face_writes l f s₀) c in
    let m = write SolidUsed s 1 ∷ [] in
    column_other grouping Solid refl (changes m e) (cut_solid c f s₀ s moved) F h n ∙ unwritten grouping m refl e F h n
    ∙ unwritten grouping (face_writes l f s₀) refl c F h n

-- l is a ring of face f₀, which lies in solid s₀, and face f is free
pub record RingFace (sh : Shape) (c : Columns) (l f f₀ s₀ : ℕ) : Type 0 where
  pub loop_in : In sh.loops l
  pub loop_used : c Face l ≢ 0
  pub loop_face : c Face l ≡ f₀
  pub face_solid_lem : c Solid f₀ ≡ s₀
  pub ring : c Outer f₀ ≢ l
  pub face_in_lem : In sh.faces f
  pub face_free : c Solid f ≡ 0

-- the new face gets solid s: its old one, where nothing moves, or a new one, to which faces of the old one move, but
-- not f₀
pub record Moved (sh : Shape) (c : Columns) (l f f₀ s₀ s : ℕ) (moved : ℕ → Bool) : Type 0 where
  pub solid_in : In sh.solids s
  pub own_solid : pick (moved f) s s₀ ≡ s
  pub old_stays : moved f₀ ≡ false
  pub from_old : (g : ℕ) → moved g ≡ true → g ≢ f → c Solid g ≡ s₀
  pub named : (g : ℕ) → In sh.faces g → c Solid g ≡ s → s ≡ s₀
  pub mark : s ≢ s₀ → c SolidUsed s ≡ 0
  pub solids : Solids (HalfUsed sh c) (λ g. (g ≡ f) ⊎ FaceUsed sh c g) (side_in c l f) mate (cut_solid c f s₀ s moved)

-- rule 6 with the faces and their solids said otherwise
solids_same : {U F F' : ℕ → Type 0} {sd mt s s' : ℕ → ℕ} → ((g : ℕ) → F g → F' g) → ((g : ℕ) → F' g → F g)
    → ((g : ℕ) → s' g ≡ s g) → Solids U F sd mt s → Solids U F' sd mt s'
solids_same to from e r = record {
  side_in_lem = λ i u. to _ (r.side_in_lem i u);
  edge = λ i u. e _ ∙ r.edge i u ∙ sym (e _);
  one = λ g h u v q. r.one g h (from g u) (from h v) (sym (e g) ∙ q ∙ e h);
}

module _ {sh : Shape} {p : List ℤ} {c : Columns} (a : Sound sh p c) {l f f₀ s₀ : ℕ} (r : RingFace sh c l f f₀ s₀) where
  -- the old face is in use
  pub old_face : FaceUsed sh c f₀
  old_face = let b = a.loop l r.loop_in r.loop_used in subst (FaceUsed sh c) r.loop_face
      (b.face_in_lem.0, b.face_in_lem.1, b.face_used)

  -- and its solid
  pub old_solid : In sh.solids s₀ × (c SolidUsed s₀ ≡ 1)
  old_solid =
      let u = old_face in
      let b = a.face f₀ (u.0, u.1) u.2 in
      let i : In sh.solids s₀ = subst (In sh.solids) r.face_solid_lem b.solid_in in
      let m = a.solid_mark s₀ i in
      let w : c SolidUsed s₀ ≢ 0 = λ z. b.solid_used_lem (ap (c SolidUsed) r.face_solid_lem ∙ z) in
      (i, omega (arith, m, w))

  -- it is not the new face
  pub face_other : f₀ ≢ f
  face_other e = old_face.2 (ap (c Solid) e ∙ r.face_free)

  -- a face in use is not the new one
  used_other : (g : ℕ) → c Solid g ≢ 0 → g ≢ f
  used_other g h e = h (ap (c Solid) e ∙ r.face_free)

  -- no loop names the new face
  pub face_unnamed : (m : ℕ) → In sh.loops m → c Face m ≢ f
  face_unnamed m i e = (a.loop m i (λ z. omega (arith, r.face_in_lem.0, sym e ∙ z))).face_used
      (ap (c Solid) e ∙ r.face_free)

  -- a side stays, or passes from the old face to the new one
  changed : (i : ℕ) → (side_in c l f i ≡ side c i) ⊎ ((side c i ≡ f₀) × (side_in c l f i ≡ f))
  changed i = split (c Loop i) l (λ e. inr (ap (c Face) e ∙ r.loop_face, upd_at (c Face) f e))
      (λ q. inl (upd_off (c Face) f q))

  -- with the new face in the old solid, each side has the solid that it had
  side_solid : (i : ℕ) → HalfUsed sh c i → upd (c Solid) f s₀ (side_in c l f i) ≡ c Solid (side c i)
  side_solid i u = ⊎_elim
      (λ e. ap (upd (c Solid) f s₀) e ∙ upd_off (c Solid) s₀ (used_other (side c i) (a.solids.side_in_lem i u).2))
      (λ e. upd_at (c Solid) s₀ e.1 ∙ sym r.face_solid_lem ∙ ap (c Solid) (sym e.0)) (changed i)

  -- so linked faces lie in one
  pub chain_solid : {g h : ℕ} → Chain sh c (side_in c l f) g h → upd (c Solid) f s₀ g ≡ upd (c Solid) f s₀ h
  chain_solid = linked_same (upd (c Solid) f s₀) (λ g h t.
      ap (upd (c Solid) f s₀) (sym t.2) ∙ side_solid t.0 t.1 ∙ sym (a.solids.edge t.0 t.1)
      ∙ sym (side_solid (mate t.0) (a.rules.mate_in t.0 t.1)) ∙ ap (upd (c Solid) f s₀) t.3)

  -- ---- the two outcomes

  -- the new face is linked to the old one: nothing moves
  pub moved_none : Chain sh c (side_in c l f) f f₀ → Moved sh c l f f₀ s₀ s₀ (λ g. false)
  moved_none h = record {
    solid_in = old_solid.0;
    own_solid = refl;
    old_stays = refl;
    from_old = λ g e. absurd (false≢true e);
    named = λ g i e. refl;
    mark = λ n. absurd (n refl);
    solids = subst (λ s. Solids (HalfUsed sh c) (λ g. (g ≡ f) ⊎ FaceUsed sh c g) (side_in c l f) mate
        (upd (c Solid) f s)) r.face_solid_lem
        (stays a.solids a.rules.mate_in old_face (λ u. u.2 r.face_free) changed (back h));
  }

  -- it is not: all that is linked to it moves to a free solid
  pub moved_linked : (lk : ℕ → Bool) → ((g : ℕ) → lk g ≡ true → Chain sh c (side_in c l f) f g)
      → ((g : ℕ) → Chain sh c (side_in c l f) f g → lk g ≡ true) → lk f₀ ≡ false
      → (s : ℕ) → In sh.solids s → c SolidUsed s ≡ 0 → Moved sh c l f f₀ s₀ s lk
  moved_linked lk yes-lk lk-yes off s i z =
      let unnamed : (g : ℕ) → In sh.faces g → c Solid g ≢ 0 → c Solid g ≢ s = λ g j u e. (a.face g j u).solid_used_lem
      (ap (c SolidUsed) e ∙ z) in
      let here : lk f ≡ true = lk-yes f (same refl) in
      record {
        solid_in = i;
        own_solid = rw here;
        old_stays = off;
        from_old = λ g e n. sym (upd_off (c Solid) s₀ n) ∙ sym (chain_solid (yes-lk g e)) ∙ upd_same (c Solid) f s₀;
        named = λ g j e. absurd (unnamed g j (λ y. omega (arith, i.0, sym e ∙ y)) e);
        mark = λ n. z;
        solids = solids_same (λ g u. u) (λ g u. u)
            (λ g. split g f (λ e. let t : lk g ≡ true = ap lk e ∙ here in rw t)
            (λ n. ap (pick (lk g) s) (upd_off (c Solid) s₀ n)))
            (parts a.solids a.rules.mate_in old_face (λ u. u.2 r.face_free) changed lk yes-lk lk-yes off s
            (λ g u. unnamed g (u.0, u.1) u.2));
      }

  -- ---- the table afterwards

  module _ {s : ℕ} {moved : ℕ → Bool} (m : Moved sh c l f f₀ s₀ s moved) where
    -- the solid of the new face
    pub cut_new : cut_solid c f s₀ s moved f ≡ s
    cut_new = ap (pick (moved f) s) (upd_same (c Solid) f s₀) ∙ m.own_solid

    -- and of the old one
    pub cut_old : cut_solid c f s₀ s moved f₀ ≡ s₀
    cut_old = rw m.old_stays (upd_off (c Solid) s₀ face_other ∙ r.face_solid_lem)

    -- another face stays in its solid, or moves from the old solid to the new one
    pub cut_other : (g : ℕ) → g ≢ f → (cut_solid c f s₀ s moved g ≡ c Solid g)
        ⊎ ((c Solid g ≡ s₀) × (cut_solid c f s₀ s moved g ≡ s))
    cut_other g n = ⊎_elim (λ e. inr (m.from_old g e n, rw e)) (λ e. inl (rw e (upd_off (c Solid) s₀ n)))
        (ask (moved g))

    -- the mark of each solid in use is set
    marked : (n : ℕ) → (n ≢ s → c SolidUsed n ≢ 0) → upd (c SolidUsed) s 1 n ≢ 0
    marked n h z = split n s (λ e. omega (arith, upd_at (c SolidUsed) 1 e, z))
        (λ q. h q (sym (upd_off (c SolidUsed) 1 q) ∙ z))

    -- the faces in use are the new one and those that were
    to_used : (g : ℕ) → (g ≡ f) ⊎ FaceUsed sh c g → FaceUsed sh (cut c l f s₀ s moved) g
    to_used g (inl e) = subst (FaceUsed sh (cut c l f s₀ s moved)) (sym e)
        (r.face_in_lem.0, r.face_in_lem.1, λ z. omega (arith, m.solid_in.0, cut_new, z))
    to_used g (inr u) = (
      u.0,
      u.1,
      ⊎_elim (λ e z. u.2 (sym e ∙ z)) (λ e z. omega (arith, m.solid_in.0, e.1, z))
          (cut_other g (used_other g u.2)),
    )

    -- and back
    from_used : (g : ℕ) → FaceUsed sh (cut c l f s₀ s moved) g → (g ≡ f) ⊎ FaceUsed sh c g
    from_used g u =
        split g f (λ e. inl e)
        (λ n. inr
        (u.0, u.1, ⊎_elim (λ e z. u.2 (e ∙ z)) (λ e z. omega (arith, old_solid.0.0, e.0, z)) (cut_other g n)))

    -- each solid in use has a face
    some_face : (n : ℕ) → In sh.solids n → upd (c SolidUsed) s 1 n ≢ 0 → (g : ℕ) × In sh.faces g
        × (cut_solid c f s₀ s moved g ≡ n)
    some_face n i h = split n s (λ e. (f, r.face_in_lem, cut_new ∙ sym e))
        (λ d. split n s₀ (λ e. (f₀, (old_face.0, old_face.1), cut_old ∙ sym e)) (λ q.
        let b = a.solid n i (λ z. h (upd_off (c SolidUsed) 1 d ∙ z)) in (
          b.0,
          b.1,
          ⊎_elim (λ e. e ∙ b.2) (λ e. absurd (q (sym b.2 ∙ e.0)))
              (cut_other b.0 (used_other b.0 (λ z. omega (arith, i.0, b.2, z)))),
        )))

    -- a face in use: its solid is in use, and its outer loop names it
    face_there : (g : ℕ) → (g ≡ f) ⊎ FaceUsed sh c g → FaceSound sh (cut c l f s₀ s moved) g
    face_there g (inl e) = record {
      solid_in = rw (ap (cut_solid c f s₀ s moved) e ∙ cut_new) m.solid_in;
      solid_used_lem = rw (ap (cut_solid c f s₀ s moved) e ∙ cut_new) (marked s (λ n. absurd (n refl)));
      outer_in = rw (upd_at (c Outer) l e) r.loop_in;
      outer_face = rw (upd_at (c Outer) l e) (upd_same (c Face) l f ∙ sym e);
    }
    face_there g (inr u) =
        let b = a.face g (u.0, u.1) u.2 in
        let n = used_other g u.2 in
        let d = outer_other a l (λ z. r.ring (ap (c Outer) (sym r.loop_face) ∙ z)) g (u.0, u.1) u.2 in
        let q : In sh.solids (cut_solid c f s₀ s moved g) × (upd (c SolidUsed) s 1 (cut_solid c f s₀ s moved g) ≢ 0) =
        ⊎_elim
        (λ e. rw e (b.solid_in, marked (c Solid g) (λ n. b.solid_used_lem)))
        (λ e. rw e.1 (m.solid_in, marked s (λ n. absurd (n refl)))) (cut_other g n) in
        record {
          solid_in = q.0;
          solid_used_lem = q.1;
          outer_in = simp upd_off b.outer_in;
          outer_face =
              simp upd_off b.outer_face;
        }

    -- all that is asked of the four columns
    cut_regroup : Regroup sh c (cut c l f s₀ s moved)
    cut_regroup = record {
      mark = λ n i. split n s (λ e. rw (upd_at (c SolidUsed) 1 e) (omega arith))
          (λ q. rw (upd_off (c SolidUsed) 1 q) (a.solid_mark n i));
      solid = some_face;
      face_free =
          λ g i h. split g f (λ e. absurd (omega (arith, m.solid_in.0, ap (cut_solid c f s₀ s moved) e ∙ cut_new, h)))
          (λ n. upd_off (c Outer) l n ∙ a.face_free g i
          (⊎_elim (λ e. sym e ∙ h) (λ e. absurd (omega (arith, m.solid_in.0, e.1, h))) (cut_other g n)));
      face = λ g u. face_there g (from_used g u);
      loop_free = λ n i z. upd_off (c Face) f (λ e. r.loop_used (ap (c Face) (sym e) ∙ z)) ∙ z;
      loop = λ n i h.
          let b = a.loop n i h in
          split n l (λ e. rw (upd_at (c Face) f e) (to_used f (inl refl)))
          (λ d. rw (upd_off (c Face) f d) (to_used (c Face n) (inr (b.face_in_lem.0, b.face_in_lem.1, b.face_used))));
      solids = solids_same to_used from_used (λ g. refl) m.solids;
      others = cut_others c l f s₀ s moved;
    }

    -- the table is sound afterwards
    pub cut_sound : Sound sh p (cut c l f s₀ s moved)
    cut_sound = regroup_sound a cut_regroup
