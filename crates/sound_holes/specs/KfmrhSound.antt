-- kfmrh on the columns: the only loop of a face becomes a ring of another face, and the solids of the two become one.
use Rattle.std.specs.Prelude.{◌≡◌, refl, ◌≢◌, ◌⊎◌, false, List, [], ◌∷◌, ℕ, ℤ}
use Rattle.std.proofs.Common.{sym, ap, ◌∙◌, subst, inl, inr, ⊎_elim, arith}
use Rattle.laws.specs.Bools.{split}
use Rattle.laws.specs.Update.{upd, upd_at, upd_off, upd_same, relabel, relabel_at, relabel_off, relabel_same}
use Rattle.laws.specs.Linked.{link, back, via, map_linked}
use Rattle.layout.specs.declared.shape.Shape.{Shape}
use Rattle.layout.specs.Mate.{mate}
use Rattle.layout.specs.Fields.{Field, SolidUsed, Solid, Outer, Face, Loop, Columns, face_kind, among}
use Rattle.layout.specs.Writes.{Write, write, cleared, changes}
use Rattle.sound_tables.specs.WriteLaws.{unwritten, with_column, column_other}
use Rattle.sound_tables.specs.Solids.{Solids}
use Rattle.sound_tables.specs.Sound.{In, HalfUsed, FaceUsed, side, FaceSound, Sound}
use Rattle.sound_tables.specs.Regroup.{grouping, Regroup, regroup_sound}
use Rattle.sound_holes.specs.Chains.{side_in, Chain}

-- the solids afterwards: f2 is free, and what lay in s2 lies in s1
abbrev pub joined_solid : Columns → ℕ → ℕ → ℕ → ℕ → ℕ
joined_solid c f2 s1 s2 = relabel (upd (c Solid) f2 0) s2 s1

-- loop l goes to face f1, and face f2 is free
abbrev pub ring_writes : ℕ → ℕ → ℕ → List Write
ring_writes f1 f2 l = write Face l f1 ∷ cleared face_kind f2

-- the mark of s2 is cleared, then that of s1 set, which may be the same
abbrev pub mark_writes : ℕ → ℕ → List Write
mark_writes s1 s2 = write SolidUsed s2 0 ∷ write SolidUsed s1 1 ∷ []

-- the marks afterwards
abbrev joined_mark : Columns → ℕ → ℕ → ℕ → ℕ
joined_mark c s1 s2 = upd (upd (c SolidUsed) s2 0) s1 1

-- the columns afterwards
abbrev pub joined : Columns → ℕ → ℕ → ℕ → ℕ → ℕ → Columns
joined c f1 f2 l s1 s2 = changes (mark_writes s1 s2)
    (with_column (changes (ring_writes f1 f2 l) c) Solid (joined_solid c f2 s1 s2))

-- they differ in the grouping alone
pub joined_others : (c : Columns) (f1 f2 l s1 s2 : ℕ) (F : Field) → among grouping F ≡ false → (n : ℕ)
    → joined c f1 f2 l s1 s2 F n ≡ c F n
joined_others c f1 f2 l s1 s2 F h n =
    let e = changes (ring_writes f1 f2 l) c in
    let t = joined_solid c f2 s1 s2 in
    unwritten grouping (mark_writes s1 s2) refl (with_column e Solid t) F h n
    ∙ column_other grouping Solid refl e t F h n
    ∙ unwritten grouping (ring_writes f1 f2 l) refl c F h n

-- two faces, f1 in solid s1 and f2 in solid s2; l is the only loop of f2
pub record TwoFaces (sh : Shape) (c : Columns) (f1 f2 l s1 s2 : ℕ) : Type 0 where
  pub first_in : In sh.faces f1
  pub first_solid : c Solid f1 ≡ s1
  pub first_used : s1 ≢ 0
  pub second_in : In sh.faces f2
  pub second_solid : c Solid f2 ≡ s2
  pub second_used : s2 ≢ 0
  pub other : f1 ≢ f2
  pub outer : c Outer f2 ≡ l
  pub only : (m : ℕ) → In sh.loops m → c Face m ≡ f2 → m ≡ l

module _ {sh : Shape} {p : List ℤ} {c : Columns} (a : Sound sh p c) {f1 f2 l s1 s2 : ℕ}
    (r : TwoFaces sh c f1 f2 l s1 s2) where
  -- f1 is in use
  first_face : FaceUsed sh c f1
  first_face = (r.first_in.0, r.first_in.1, λ z. r.first_used (sym r.first_solid ∙ z))

  -- f2 is in use
  pub second_face : FaceUsed sh c f2
  second_face = (r.second_in.0, r.second_in.1, λ z. r.second_used (sym r.second_solid ∙ z))

  -- a solid of a face is in use, and its mark is 1
  pub solid_marked : (g s : ℕ) → FaceUsed sh c g → c Solid g ≡ s → In sh.solids s × (c SolidUsed s ≡ 1)
  solid_marked g s u e =
      let b = a.face g (u.0, u.1) u.2 in
      let i : In sh.solids s = subst (In sh.solids) e b.solid_in in
      let m = a.solid_mark s i in
      let w : c SolidUsed s ≢ 0 = λ z. b.solid_used_lem (ap (c SolidUsed) e ∙ z) in
      (i, omega (arith, m, w))

  -- that of f1
  pub first_marked : In sh.solids s1 × (c SolidUsed s1 ≡ 1)
  first_marked = solid_marked f1 s1 first_face r.first_solid

  -- that of f2
  pub second_marked : In sh.solids s2 × (c SolidUsed s2 ≡ 1)
  second_marked = solid_marked f2 s2 second_face r.second_solid

  -- the number of the loop is one
  pub ring_in : In sh.loops l
  ring_in = subst (In sh.loops) r.outer (a.face f2 r.second_in second_face.2).outer_in

  -- the loop names f2
  pub ring_face : c Face l ≡ f2
  ring_face = ap (c Face) (sym r.outer) ∙ (a.face f2 r.second_in second_face.2).outer_face

  -- ---- solids

  -- f2 is free afterwards
  pub joined_second : joined_solid c f2 s1 s2 f2 ≡ 0
  joined_second = let e = upd_same (c Solid) f2 0 in relabel_off (upd (c Solid) f2 0) s2 s1
      (λ z. r.second_used (sym z ∙ e)) ∙ e

  -- another face of s2 lies in s1
  joined_moved : (g : ℕ) → g ≢ f2 → c Solid g ≡ s2 → joined_solid c f2 s1 s2 g ≡ s1
  joined_moved g n e = relabel_at (upd (c Solid) f2 0) s2 s1 (upd_off (c Solid) 0 n ∙ e)

  -- others stay
  joined_stays : (g : ℕ) → g ≢ f2 → c Solid g ≢ s2 → joined_solid c f2 s1 s2 g ≡ c Solid g
  joined_stays g n d = relabel_off (upd (c Solid) f2 0) s2 s1 (λ e. d (sym (upd_off (c Solid) 0 n) ∙ e))
      ∙ upd_off (c Solid) 0 n

  -- so either it was in s2 and is in s1, or it was not and stays
  pub joined_other : (g : ℕ) → g ≢ f2 → ((c Solid g ≡ s2) × (joined_solid c f2 s1 s2 g ≡ s1))
      ⊎ ((c Solid g ≢ s2) × (joined_solid c f2 s1 s2 g ≡ c Solid g))
  joined_other g n = split (c Solid g) s2 (λ e. inl (e, joined_moved g n e)) (λ d. inr (d, joined_stays g n d))

  -- f1 stays in s1
  pub joined_first : joined_solid c f2 s1 s2 f1 ≡ s1
  joined_first = ⊎_elim (λ e. e.1) (λ e. e.1 ∙ r.first_solid) (joined_other f1 r.other)

  -- the faces in use are those that were, but f2
  to_used : (g : ℕ) → FaceUsed sh c g → g ≢ f2 → FaceUsed sh (joined c f1 f2 l s1 s2) g
  to_used g u n =
      (u.0, u.1, ⊎_elim (λ e z. r.first_used (sym e.1 ∙ z)) (λ e z. u.2 (sym e.1 ∙ z)) (joined_other g n))

  -- and back
  from_used : (g : ℕ) → FaceUsed sh (joined c f1 f2 l s1 s2) g → FaceUsed sh c g × (g ≢ f2)
  from_used g u =
      let n : g ≢ f2 = λ e. u.2 (ap (joined_solid c f2 s1 s2) e ∙ joined_second) in
      ((u.0, u.1, ⊎_elim (λ e z. r.second_used (sym e.0 ∙ z)) (λ e z. u.2 (e.1 ∙ z)) (joined_other g n)), n)

  -- ---- rule 6

  -- f2 is read as f1
  abbrev φ : ℕ → ℕ
  φ = upd (λ g. g) f2 f1

  -- each side is the old one, so read
  side_joined : (k : ℕ) → HalfUsed sh c k → side_in c l f1 k ≡ φ (side c k)
  side_joined k u = split (c Loop k) l
      (λ e. upd_at (c Face) f1 e ∙ sym (upd_at (λ g. g) f1 (ap (c Face) e ∙ ring_face)))
      (λ n. upd_off (c Face) f1 n
      ∙ sym (upd_off (λ g. g) f1 (λ e. n (r.only (c Loop k) (a.half k (u.0, u.1) u.2).loop_in e))))

  -- old chains are chains
  chain_joined : {g h : ℕ} → Chain sh c (side c) g h → Chain sh c (side_in c l f1) (φ g) (φ h)
  chain_joined =
      map_linked φ
      (λ g h t.
      link (
        t.0,
        t.1,
        side_joined t.0 t.1 ∙ ap φ t.2,
        side_joined (mate t.0) (a.rules.mate_in t.0 t.1) ∙ ap φ t.3,
      ))

  -- a face of the joined solid is linked to f1
  to_first : (g : ℕ) → FaceUsed sh c g → g ≢ f2 → joined_solid c f2 s1 s2 g ≡ s1 → Chain sh c (side_in c l f1) g f1
  to_first g u n e = ⊎_elim
      (λ q. rw (upd_off (λ g. g) f1 n, upd_same (λ g. g) f2 f1) at
      (chain_joined (a.solids.one g f2 u second_face (q.0 ∙ sym r.second_solid))))
      (λ q. rw (upd_off (λ g. g) f1 n, upd_off (λ g. g) f1 r.other) at
      (chain_joined (a.solids.one g f1 u first_face (sym q.1 ∙ e ∙ sym r.first_solid))))
      (joined_other g n)

  -- others are linked as before
  joined_one : (g h : ℕ) → FaceUsed sh c g → g ≢ f2 → FaceUsed sh c h → h ≢ f2 → joined_solid c f2 s1 s2 g
      ≡ joined_solid c f2 s1 s2 h → Chain sh c (side_in c l f1) g h
  joined_one g h u n w d e = split (joined_solid c f2 s1 s2 g) s1
      (λ q. via f1 (to_first g u n q) (back (to_first h w d (sym e ∙ q))))
      (λ q. ⊎_elim (λ y. absurd (q y.1)) (λ y. ⊎_elim (λ z. absurd (q (e ∙ z.1)))
      (λ z. rw (upd_off (λ g. g) f1 n, upd_off (λ g. g) f1 d) at
      (chain_joined (a.solids.one g h u w (sym y.1 ∙ e ∙ z.1)))) (joined_other h d)) (joined_other g n))

  -- a side is a face in use, not f2
  side_used : (k : ℕ) → HalfUsed sh c k → FaceUsed sh c (side_in c l f1 k) × (side_in c l f1 k ≢ f2)
  side_used k u = split (side c k) f2
      (λ e. rw (side_joined k u ∙ upd_at (λ g. g) f1 e) (first_face, r.other))
      (λ n. rw (side_joined k u ∙ upd_off (λ g. g) f1 n) (a.solids.side_in_lem k u, n))

  -- its solid is what the solid of the old side becomes
  side_solid : (k : ℕ) → HalfUsed sh c k
      → joined_solid c f2 s1 s2 (side_in c l f1 k) ≡ relabel (c Solid) s2 s1 (side c k)
  side_solid k u = split (side c k) f2
      (λ e. ap (joined_solid c f2 s1 s2) (side_joined k u ∙ upd_at (λ g. g) f1 e) ∙ joined_first
      ∙ sym (relabel_at (c Solid) s2 s1 (ap (c Solid) e ∙ r.second_solid)))
      (λ n. ap (joined_solid c f2 s1 s2) (side_joined k u ∙ upd_off (λ g. g) f1 n)
      ∙ ⊎_elim (λ q. q.1 ∙ sym (relabel_at (c Solid) s2 s1 q.0))
      (λ q. q.1 ∙ sym (relabel_off (c Solid) s2 s1 q.0)) (joined_other (side c k) n))

  -- rule 6
  joined_solids : Solids (HalfUsed sh c) (FaceUsed sh (joined c f1 f2 l s1 s2)) (side_in c l f1) mate
      (joined_solid c f2 s1 s2)
  joined_solids = record {
    side_in_lem = λ k u. let q = side_used k u in to_used _ q.0 q.1;
    edge = λ k u. side_solid (mate k) (a.rules.mate_in k u) ∙ relabel_same (c Solid) s2 s1 (a.solids.edge k u)
        ∙ sym (side_solid k u);
    one = λ g h u w e. let x = from_used g u in let y = from_used h w in joined_one g h x.0 x.1 y.0 y.1 e;
  }

  -- ---- the table afterwards

  -- the mark of each solid that stays in use is set
  marked : (n : ℕ) → n ≢ s2 → c SolidUsed n ≢ 0 → joined_mark c s1 s2 n ≢ 0
  marked n d h z = split n s1 (λ e. omega (arith, upd_at (upd (c SolidUsed) s2 0) 1 e, z))
      (λ q. h (sym (upd_off (c SolidUsed) 0 d) ∙ sym (upd_off (upd (c SolidUsed) s2 0) 1 q) ∙ z))

  -- each solid in use has a face
  some_face : (n : ℕ) → In sh.solids n → joined_mark c s1 s2 n ≢ 0 → (g : ℕ) × In sh.faces g
      × (joined_solid c f2 s1 s2 g ≡ n)
  some_face n i h = split n s1 (λ e. (f1, r.first_in, joined_first ∙ sym e)) (λ q.
      let d : n ≢ s2 = λ e. h (upd_off (upd (c SolidUsed) s2 0) 1 q ∙ upd_at (c SolidUsed) 0 e) in
      let b = a.solid n i (λ z. h (upd_off (upd (c SolidUsed) s2 0) 1 q ∙ upd_off (c SolidUsed) 0 d ∙ z)) in (
        b.0,
        b.1,
        ⊎_elim (λ e. absurd (d (sym b.2 ∙ e.0))) (λ e. e.1 ∙ b.2)
            (joined_other b.0 (λ e. d (sym b.2 ∙ ap (c Solid) e ∙ r.second_solid))),
      ))

  -- a face in use: its solid is in use, and its outer loop names it
  face_there : (g : ℕ) → FaceUsed sh c g × (g ≢ f2) → FaceSound sh (joined c f1 f2 l s1 s2) g
  face_there g u =
      let b = a.face g (u.0.0, u.0.1) u.0.2 in
      let n = u.1 in
      let e : c Outer g ≢ l = λ e. n (sym b.outer_face ∙ ap (c Face) e ∙ ring_face) in
      let q : In sh.solids (joined_solid c f2 s1 s2 g) × (joined_mark c s1 s2 (joined_solid c f2 s1 s2 g) ≢ 0) = ⊎_elim
      (λ e. rw e.1 (first_marked.0, λ z. omega (arith, upd_same (upd (c SolidUsed) s2 0) s1 1, z)))
      (λ e. rw e.1 (b.solid_in, marked (c Solid g) e.0 b.solid_used_lem)) (joined_other g n) in
      record {
        solid_in = q.0;
        solid_used_lem = q.1;
        outer_in = simp upd_off b.outer_in;
        outer_face =
            simp upd_off b.outer_face;
      }

  -- all that is asked of the four columns
  joined_regroup : Regroup sh c (joined c f1 f2 l s1 s2)
  joined_regroup = record {
    mark = λ n i. split n s1 (λ e. rw (upd_at (upd (c SolidUsed) s2 0) 1 e) (omega arith))
        (λ q. rw (upd_off (upd (c SolidUsed) s2 0) 1 q)
        (split n s2 (λ e. rw (upd_at (c SolidUsed) 0 e) (omega arith))
        (λ d. rw (upd_off (c SolidUsed) 0 d) (a.solid_mark n i))));
    solid = some_face;
    face_free = λ g i h. split g f2 (λ e. upd_at (c Outer) 0 e)
        (λ n. upd_off (c Outer) 0 n ∙ a.face_free g i
        (⊎_elim (λ e. absurd (r.first_used (sym e.1 ∙ h))) (λ e. sym e.1 ∙ h) (joined_other g n)));
    face = λ g u. face_there g (from_used g u);
    loop_free = λ n i z. upd_off (c Face) f1
        (λ e. omega (arith, r.second_in.0, sym ring_face ∙ ap (c Face) (sym e) ∙ z)) ∙ z;
    loop = λ n i h.
        let b = a.loop n i h in
        split n l (λ e. rw (upd_at (c Face) f1 e) (to_used f1 first_face r.other))
        (λ d. rw (upd_off (c Face) f1 d)
        (to_used (c Face n) (b.face_in_lem.0, b.face_in_lem.1, b.face_used) (λ e. d (r.only n i e))));
    solids = joined_solids;
    others = joined_others c f1 f2 l s1 s2;
  }

  -- the table is sound afterwards
  pub joined_sound : Sound sh p (joined c f1 f2 l s1 s2)
  joined_sound = regroup_sound a joined_regroup
