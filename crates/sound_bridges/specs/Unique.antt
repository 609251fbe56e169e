-- Each of the two tables settles the other: what differs from one table by the same bridge is one table. So the inverse
-- operator gives back the table to the word. Fields that a bridge does not touch are done all at once.
use Rattle.std.specs.Prelude.{◌≡◌, refl, ◌≢◌, false, List, ℕ, ◌*◌, ◌≤◌, eqb, ℤ}
use Rattle.std.proofs.Common.{sym, ap, ◌∙◌, subst, ⊎_elim, arith}
use Rattle.laws.specs.Bools.{split, ask}
use Rattle.laws.specs.Search.{least_ext}
use Rattle.laws.specs.Linked.{linked_same}
use Rattle.layout.specs.declared.shape.Shape.{Shape}
use Rattle.layout.specs.Mate.{mate}
use Rattle.layout.specs.Fields.{Field, Face, First, Isolated, Start, Loop, Next, Prev, VertexUsed, Columns, cap_of}
use Rattle.layout.specs.Fields.{same_field, same_field_lem, by_fields}
use Rattle.sound_tables.specs.Sound.{In, HalfUsed, Sound}
use Rattle.sound_tables.specs.Names.{named_used, lone_unnamed}
use Rattle.sound_bridges.specs.Relation.{Corner, HasCorner, real_before, real_after, Bridge, Bridged}
use Rattle.sound_bridges.specs.Relation.{touched, off_k, off_a}

-- two tables agree in field F up to its capacity
abbrev pub AlikeIn : Shape → Columns → Columns → Field → Type 0
AlikeIn sh c c' F = (i : ℕ) → 1 ≤ i → i ≤ cap_of sh F → c F i ≡ c' F i

-- and in every field
abbrev pub Alike : Shape → Columns → Columns → Type 0
Alike sh c c' = (F : Field) → AlikeIn sh c c' F

-- and in every field but the words of vertices
abbrev pub AlikeElse : Shape → Columns → Columns → Type 0
AlikeElse sh c c' = (F : Field) → same_field VertexUsed F ≡ false → AlikeIn sh c c' F

-- f and g agree at m, at n, and so everywhere where they do so elsewhere
by_two : (f g : ℕ → ℕ) (m n : ℕ) → f m ≡ g m → f n ≡ g n → (i : ℕ) → (i ≢ m → i ≢ n → f i ≡ g i) → f i ≡ g i
by_two f g m n p q i o = split i m (λ z. rw z p) (λ x. split i n (λ z. rw z q) (o x))

-- first is settled by the faces and by the loops of the half-edges
first_same : {sh : Shape} {p p' : List ℤ} {c c' : Columns} → Sound sh p c → Sound sh p' c'
    → AlikeIn sh c c' Face → AlikeIn sh c c' Loop → AlikeIn sh c c' First
first_same {sh} {c = c} {c'} s s' f g m x y = split (c Face m) 0
    (λ z. (s.loop_free m (x, y) z).0 ∙ sym (s'.loop_free m (x, y) (sym (f m x y) ∙ z)).0)
    (λ z. (s.loop m (x, y) z).first ∙ least_ext (2 * sh.edges) _ _ (λ j v w. ap (λ t. eqb t m) (g j v w))
    ∙ sym (s'.loop m (x, y) (λ t. z (f m x y ∙ t))).first)

-- one corner in two tables
module _ {sh : Shape} {c c' : Columns} {s : Corner} (q : HasCorner sh c s) (q' : HasCorner sh c' s) where
  -- what comes before it goes to the same, unless it is the edge
  next_there : {i : ℕ} → i ≡ s.P → i ≢ s.b → c Next i ≡ c' Next i
  next_there z n = rw z ((real_before q (λ t. n (z ∙ t))).next ∙ sym (real_before q' (λ t. n (z ∙ t))).next)

  -- and backwards
  prev_there : {i : ℕ} → i ≡ s.N → i ≢ s.k → c Prev i ≡ c' Prev i
  prev_there z n = rw z ((real_after q (λ t. n (z ∙ t))).prev ∙ sym (real_after q' (λ t. n (z ∙ t))).prev)

  -- it is isolated in both, or in neither
  isolated_same : ((i : ℕ) → HalfUsed sh c i → i ≢ s.k) → ((i : ℕ) → HalfUsed sh c' i → i ≢ s.k)
      → c Isolated s.l ≡ c' Isolated s.l
  isolated_same o o' = ⊎_elim
      (λ r. ⊎_elim (λ r'. r.isolated ∙ sym r'.isolated) (λ r'. absurd (o' _ r'.after r.after)) q')
      (λ r. ⊎_elim (λ r'. absurd (o _ r.after r'.after)) (λ r'. r.isolated ∙ sym r'.isolated) q') q

-- ---- from the loop with the bridge to the two loops

module _ {sh : Shape} {p p' : List ℤ} {c c' d d' : Columns} {B : Bridge} (s : Sound sh p c) (s' : Sound sh p' c')
    (b : Bridged sh c d B) (b' : Bridged sh c' d' B) (e : AlikeElse sh d d') where
  open B use {k, l, l2, P1, N1, P2, N2}
  open b.ends use {loop_in, ring_in, two, one_face, at_1, at_2, in_2, zero_k, zero_a}
  open b'.ends use {one_face as one-face', at_1 as at-1', at_2 as at-2', zero_k as zero-k', zero_a as zero-a'}

  -- the starts
  start_same : AlikeIn sh c c' Start
  start_same i v w = by_two (c Start) (c' Start) k (mate k) (zero_k.s ∙ sym zero-k'.s)
      (zero_a.s ∙ sym zero-a'.s) i
      (λ x y. sym (b.start_o i x y) ∙ e Start refl i v w ∙ b'.start_o i x y)

  -- so the same half-edges are in use
  half_same : (i : ℕ) → HalfUsed sh c i → HalfUsed sh c' i
  half_same i w = (w.0, w.1, λ z. w.2 (start_same i w.0 w.1 ∙ z))

  -- next
  next_same : AlikeIn sh c c' Next
  next_same i v w = by_two (c Next) (c' Next) k (mate k) (zero_k.n ∙ sym zero-k'.n) (zero_a.n ∙ sym zero-a'.n) i
      (λ x y. split i P1 (λ z. next_there at_1 at-1' z y)
      (λ f. split i P2 (λ z. next_there at_2 at-2' z x)
      (λ g. sym (b.next_o i x y f g) ∙ e Next refl i v w ∙ b'.next_o i x y f g)))

  -- previous
  prev_same : AlikeIn sh c c' Prev
  prev_same i v w = by_two (c Prev) (c' Prev) k (mate k) (zero_k.p ∙ sym zero-k'.p) (zero_a.p ∙ sym zero-a'.p) i
      (λ x y. split i N1 (λ z. prev_there at_1 at-1' z x)
      (λ f. split i N2 (λ z. prev_there at_2 at-2' z y)
      (λ g. sym (b.prev_o i x y f g) ∙ e Prev refl i v w ∙ b'.prev_o i x y f g)))

  -- what names the ring in c names it in c'
  ring_same : (i : ℕ) → In (2 * sh.edges) i → c Loop i ≡ l2 → c' Loop i ≡ l2
  ring_same i j z = ⊎_elim
      (λ r. absurd (lone_unnamed s l2 ring_in (λ y. omega (arith, in_2.0, sym r.isolated ∙ y)) i j z))
      (λ r. linked_same (c' Loop) (λ x y t. step x t.0 ∙ ap (c' Loop) t.1)
      (s.rules.loops.one i N2 used r.after (z ∙ sym r.loop))
      ∙ ⊎_elim (λ r'. absurd (off_a b N2 r.after r'.after)) (λ r'. r'.loop) at-2')
      at_2
    where
      -- i is in use
      used : HalfUsed sh c i
      used = named_used s ring_in.0 i j z

      -- a step of c stays in a loop of c'
      step : (x : ℕ) → HalfUsed sh c x → c' Loop x ≡ c' Loop (c Next x)
      step x w = sym (b'.ends.keeps x (half_same x w)) ∙ ap (c' Loop) (sym (next_same x w.0 w.1))

  -- and back
  ring_back : (i : ℕ) → In (2 * sh.edges) i → c' Loop i ≡ l2 → c Loop i ≡ l2
  ring_back = Rattle.sound_bridges.specs.Unique.ring_same s' s b' b (λ F t m g h. sym (e F t m g h))

  -- the loops of the half-edges
  loop_same : AlikeIn sh c c' Loop
  loop_same i v w = by_two (c Loop) (c' Loop) k (mate k) (zero_k.l ∙ sym zero-k'.l) (zero_a.l ∙ sym zero-a'.l) i
      (λ x y. split (c Loop i) l2 (λ z. z ∙ sym (ring_same i (v, w) z))
      (λ z. sym (b.loop_o i x y z) ∙ e Loop refl i v w ∙ b'.loop_o i x y (λ t. z (ring_back i (v, w) t))))

  -- the faces of the loops
  face_same : AlikeIn sh c c' Face
  face_same m x y =
      let at : (m : ℕ) → 1 ≤ m → m ≤ sh.loops → m ≢ l2 → c Face m ≡ c' Face m = λ m x y z. sym (b.face_o m z)
      ∙ e Face refl m x y ∙ b'.face_o m z in
      split m l2 (λ z. rw z (one_face ∙ at l loop_in.0 loop_in.1 two ∙ sym one-face')) (at m x y)

  -- the isolated vertices
  isolated_all : AlikeIn sh c c' Isolated
  isolated_all m x y = by_two (c Isolated) (c' Isolated) l l2 (isolated_same at_1 at-1' (off_k b) (off_k b'))
      (isolated_same at_2 at-2' (off_a b) (off_a b')) m
      (λ f g. sym (b.isolated_o m f g) ∙ e Isolated refl m x y ∙ b'.isolated_o m f g)

  -- the table without the bridge is settled, but for the words of vertices
  pub down_else : AlikeElse sh c c'
  down_else =
      let first-all = first_same s s' face_same loop_same in
      by_fields touched (λ F. same_field VertexUsed F ≡ false → AlikeIn sh c c' F) (
        λ t. start_same,
        (
          λ t. loop_same,
          (
            λ t. next_same,
            (
              λ t. prev_same,
              (
                λ t. face_same,
                (
                  λ t. first-all,
                  (λ t. isolated_all, tt),
                ),
              ),
            ),
          ),
        ),
      )
      (λ F q t i x y. sym (b.others F q i) ∙ e F t i x y ∙ b'.others F q i)

-- and where these agree too, they do so afterwards
pub down_same : {sh : Shape} {p p' : List ℤ} {c c' d d' : Columns} {B : Bridge} → Sound sh p c → Sound sh p' c'
    → Bridged sh c d B → Bridged sh c' d' B → Alike sh d d' → Alike sh c c'
down_same {sh} {c = c} {c'} s s' b b' e F = ⊎_elim
    (λ t. subst (AlikeIn sh c c') (same_field_lem VertexUsed F t)
    (λ i x y. sym (b.others VertexUsed refl i) ∙ e VertexUsed i x y ∙ b'.others VertexUsed refl i))
    (λ t. down_else s s' b b' (λ G q. e G) F t) (ask (same_field VertexUsed F))

-- ---- from the two loops to the loop with the bridge

module _ {sh : Shape} {p p' : List ℤ} {c c' d d' : Columns} {B : Bridge} (s : Sound sh p d) (s' : Sound sh p' d')
    (b : Bridged sh c d B) (b' : Bridged sh c' d' B) (e : Alike sh c c') where
  open B use {k, l, l2, P1, N1, P2, N2}

  -- the starts
  start_again : AlikeIn sh d d' Start
  start_again i v w = by_two (d Start) (d' Start) k (mate k) (b.start_k ∙ sym b'.start_k)
      (b.start_a ∙ sym b'.start_a) i
      (λ x y. b.start_o i x y ∙ e Start i v w ∙ sym (b'.start_o i x y))

  -- the loops of the half-edges
  loop_again : AlikeIn sh d d' Loop
  loop_again i v w = by_two (d Loop) (d' Loop) k (mate k) (b.loop_k ∙ sym b'.loop_k)
      (b.loop_a ∙ sym b'.loop_a) i
      (λ x y. let f = e Loop i v w in split (c Loop i) l2
      (λ z. b.loop_2 i (v, w) z ∙ sym (b'.loop_2 i (v, w) (sym f ∙ z)))
      (λ z. b.loop_o i x y z ∙ f ∙ sym (b'.loop_o i x y (λ t. z (f ∙ t)))))

  -- next
  next_again : AlikeIn sh d d' Next
  next_again i v w = by_two (d Next) (d' Next) k (mate k) (b.next_k ∙ sym b'.next_k)
      (b.next_a ∙ sym b'.next_a) i
      (λ x y. by_two (d Next) (d' Next) P1 P2 (b.next_1 ∙ sym b'.next_1) (b.next_2 ∙ sym b'.next_2) i
      (λ f g. b.next_o i x y f g ∙ e Next i v w ∙ sym (b'.next_o i x y f g)))

  -- previous
  prev_again : AlikeIn sh d d' Prev
  prev_again i v w = by_two (d Prev) (d' Prev) k (mate k) (b.prev_k ∙ sym b'.prev_k)
      (b.prev_a ∙ sym b'.prev_a) i
      (λ x y. by_two (d Prev) (d' Prev) N1 N2 (b.prev_1 ∙ sym b'.prev_1) (b.prev_2 ∙ sym b'.prev_2) i
      (λ f g. b.prev_o i x y f g ∙ e Prev i v w ∙ sym (b'.prev_o i x y f g)))

  -- the faces of the loops
  face_again : AlikeIn sh d d' Face
  face_again m x y = split m l2 (λ z. rw z (b.face_2 ∙ sym b'.face_2))
      (λ z. b.face_o m z ∙ e Face m x y ∙ sym (b'.face_o m z))

  -- the isolated vertices
  isolated_again : AlikeIn sh d d' Isolated
  isolated_again m x y = by_two (d Isolated) (d' Isolated) l l2 (b.isolated_1 ∙ sym b'.isolated_1)
      (b.isolated_2 ∙ sym b'.isolated_2) m (λ f g. b.isolated_o m f g ∙ e Isolated m x y
      ∙ sym (b'.isolated_o m f g))

  -- the table with the bridge is settled
  pub up_same : Alike sh d d'
  up_same =
      let first_again = first_same s s' face_again loop_again in
      by_fields touched (AlikeIn sh d d')
      (start_again, (loop_again, (next_again, (prev_again, (face_again, (first_again, (isolated_again, tt)))))))
      (λ F q i x y. b.others F q i ∙ e F i x y ∙ sym (b'.others F q i))
