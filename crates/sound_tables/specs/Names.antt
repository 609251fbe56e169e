-- What names what in a sound table: a free item is named by nothing, an isolated loop by no half-edge, a ring by no
-- face as its outer loop.
use Rattle.std.specs.Prelude.{◌≡◌, refl, ◌≢◌, List, ℕ, ◌-◌, ◌*◌, ◌%◌, ◌≤◌, ℤ}
use Rattle.std.proofs.Common.{sym, ap, ◌∙◌, subst, ⊎_elim, arith}
use Rattle.laws.specs.Bools.{split, eqb_same, eqb_other}
use Rattle.layout.specs.declared.shape.Shape.{Shape}
use Rattle.layout.specs.Mate.{mate}
use Rattle.layout.specs.MateLaws.{mate_even, mate_mate, mate_range}
use Rattle.euler.specs.Surgery.{half_by}
use Rattle.sound_tables.specs.EdgeIn.{Zero}
use Rattle.layout.specs.Fields.{Solid, Outer, Face, First, Isolated, Start, Loop, VertexUsed, Columns}
use Rattle.sound_tables.specs.Sound.{In, halves, HalfUsed, VertexSound, alone, joined, Sound}
use Rattle.sound_tables.specs.Labels.{none_label}

module _ {sh : Shape} {p : List ℤ} {c : Columns} (a : Sound sh p c) where
  -- a number of a half-edge names no free loop
  pub loop_unnamed : (l : ℕ) → In sh.loops l → c Face l ≡ 0 → (k : ℕ) → In (2 * sh.edges) k → c Loop k ≢ l
  loop_unnamed l i z k j e = split (c Start k) 0
      (λ y. let r = (a.half_free k j y).loop in omega (arith, i.0, e, r))
      (λ y. (a.half k j y).loop_used (ap (c Face) e ∙ z))

  -- and no free vertex
  pub start_unnamed : (v : ℕ) → In sh.vertices v → c VertexUsed v ≡ 0 → (k : ℕ) → In (2 * sh.edges) k
      → c Start k ≢ v
  start_unnamed v i z k j e = split (c Start k) 0
      (λ y. omega (arith, i.0, e, y))
      (λ y. (a.half k j y).start_used (ap (c VertexUsed) e ∙ z))

  -- a free vertex is isolated in no loop
  pub isolated_unnamed : (v : ℕ) → In sh.vertices v → c VertexUsed v ≡ 0 → (m : ℕ) → In sh.loops m
      → c Isolated m ≢ v
  isolated_unnamed v i z m j e = split (c Face m) 0
      (λ y. let r = (a.loop_free m j y).1 in omega (arith, i.0, e, r))
      (λ y. ⊎_elim (λ q. omega (arith, i.0, e, q.1)) (λ q. q.2 (ap (c VertexUsed) e ∙ z)) (a.loop m j y).either)

  -- a free half-edge is all zero
  pub free_zero : (k : ℕ) → In (2 * sh.edges) k → c Start k ≡ 0 → Zero (halves c) k
  free_zero k j z = let f = a.half_free k j z in record { s = z; l = f.loop; n = f.next; p = f.prev }

  -- a half-edge that names a loop is in use
  pub named_used : {l : ℕ} → 1 ≤ l → (k : ℕ) → In (2 * sh.edges) k → c Loop k ≡ l → HalfUsed sh c k
  named_used h k j e = (j.0, j.1, λ z. omega (arith, h, sym e ∙ (a.half_free k j z).loop))

  -- a ring is the outer loop of no face
  pub outer_other : (l : ℕ) → c Outer (c Face l) ≢ l → (f : ℕ) → In sh.faces f → c Solid f ≢ 0 → c Outer f ≢ l
  outer_other l r f i h e = r (ap (c Outer) (ap (c Face) (sym e) ∙ (a.face f i h).outer_face) ∙ e)

  -- ---- an isolated loop

  -- it has no first, and its vertex is in use
  pub lone_used : (l : ℕ) → In sh.loops l → c Isolated l ≢ 0 → (c First l ≡ 0) × In sh.vertices (c Isolated l)
      × (c VertexUsed (c Isolated l) ≢ 0)
  lone_used l i h = ⊎_elim (λ q. absurd (h q.1)) (λ q. q) (a.loop l i (λ z. h (a.loop_free l i z).1)).either

  -- also in other columns where it is isolated at the same vertex, and vertices stay in use
  pub lone_kept : (d : Columns) (l : ℕ) → In sh.loops l → d Isolated l ≡ c Isolated l
      → ((v : ℕ) → c VertexUsed v ≢ 0 → d VertexUsed v ≢ 0) → d Isolated l ≢ 0
      → In sh.vertices (d Isolated l) × (d VertexUsed (d Isolated l) ≢ 0)
  lone_kept d l i e used h = let r = lone_used l i (λ z. h (e ∙ z)) in rw e (r.1, used (c Isolated l) r.2)

  -- no half-edge names it
  pub lone_unnamed : (l : ℕ) → In sh.loops l → c Isolated l ≢ 0 → (k : ℕ) → In (2 * sh.edges) k → c Loop k ≢ l
  lone_unnamed l i h = none_label (2 * sh.edges) (c Loop) l
      (sym (a.loop l i (λ z. h (a.loop_free l i z).1)).first ∙ (lone_used l i h).0)

  -- its vertex is isolated there alone and starts nothing
  pub lone_alone : (l : ℕ) → In sh.loops l → c Isolated l ≢ 0
      → ((m : ℕ) → In sh.loops m → c Isolated m ≡ c Isolated l → m ≡ l)
      × ((k : ℕ) → In (2 * sh.edges) k → c Start k ≢ c Isolated l)
  lone_alone l i h = let q = lone_used l i h in by (a.vertex (c Isolated l) q.1 q.2)
    where
      -- by what is known of that vertex
      by : VertexSound sh c (c Isolated l) → ((m : ℕ) → In sh.loops m → c Isolated m ≡ c Isolated l → m ≡ l)
          × ((k : ℕ) → In (2 * sh.edges) k → c Start k ≢ c Isolated l)
      by (alone l' j e u s) = (λ m y z. u m y z ∙ sym (u l i refl), s)
      by (joined s k j e) = absurd (s l i refl)

  -- so the loop of a half-edge is not isolated
  pub not_isolated : {l : ℕ} (k : ℕ) → HalfUsed sh c k → c Loop k ≡ l → c Isolated l ≡ 0
  not_isolated {l} k u e = split (c Isolated l) 0 (λ z. z)
      (λ z. absurd (lone_unnamed l (subst (In sh.loops) e (a.half k (u.0, u.1) u.2).loop_in) z k
      (u.0, u.1) e))

-- ---- the halves of a free edge

-- a free half-edge has a free mate
free_mate : {sh : Shape} {p : List ℤ} {c : Columns} → Sound sh p c → (i : ℕ) → In (2 * sh.edges) i → c Start i ≡ 0
    → c Start (mate i) ≡ 0
free_mate {sh} {c = c} a i j z = split (c Start (mate i)) 0 (λ e. e) (λ d.
    let m = mate_range i sh.edges j.0 j.1 in
    absurd ((a.rules.mate_in (mate i) (m.0, m.1, d)).2 (ap (c Start) (mate_mate i) ∙ z)))

-- both halves of a free edge are free, whichever the way names
pub free_halves : {sh : Shape} {p : List ℤ} {c : Columns} → Sound sh p c → (e w : ℕ) → In sh.edges e
    → c Start (2 * e) ≡ 0
    → In (2 * sh.edges) (half_by e w) × (c Start (half_by e w) ≡ 0) × (c Start (mate (half_by e w)) ≡ 0)
free_halves {sh} {c = c} a e w i z = split (w % 2) 0
    (λ q. rw (eqb_same q) (
    let m : mate (2 * e) ≡ 2 * e - 1 = mate_even (2 * e) (omega arith) in
    let j : In (2 * sh.edges) (2 * e - 1) = (omega (arith, i.0), omega (arith, i.1)) in
    let y : c Start (2 * e - 1) ≡ 0 = ap (c Start) (sym m)
    ∙ free_mate a (2 * e) (omega (arith, i.0), omega (arith, i.1)) z in
    (j, y, free_mate a (2 * e - 1) j y)))
    (λ q. rw (eqb_other q) (
    let j : In (2 * sh.edges) (2 * e) = (omega (arith, i.0), omega (arith, i.1)) in
    (j, z, free_mate a (2 * e) j z)))
