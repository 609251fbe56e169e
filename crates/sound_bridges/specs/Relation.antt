-- Two tables that differ by a bridge. In c a face has two loops, l and l2, the second a ring; in d it has the one loop
-- l, with an edge, k and its mate, between a corner of each. mekr leads from c to d and kemr from d to c. What is said
-- of the two tables together stands here once: the numbers of a bridge (`Bridge`), a corner (`Corner`), what c must be
-- like (`Ends`), and what differs (`Bridged`).
use Rattle.std.specs.Prelude.{◌≡◌, ◌≢◌, ◌⊎◌, false, List, [], ◌∷◌, ℕ, ◌+◌, ◌-◌, ◌*◌, ◌≤◌, eqb}
use Rattle.std.proofs.Common.{sym, ap, ◌∙◌, subst, ⊎_elim, arith}
use Rattle.laws.specs.Bools.{pick, split, eqb_other}
use Rattle.laws.specs.Permutations.{Perm, inj}
use Rattle.layout.specs.declared.shape.Shape.{Shape}
use Rattle.layout.specs.Mate.{mate}
use Rattle.layout.specs.Fields.{Field, Outer, Face, First, Isolated, Start, Loop, Next, Prev, VertexUsed, Columns}
use Rattle.layout.specs.Fields.{among}
use Rattle.sound_tables.specs.Mates.{mate_other}
use Rattle.sound_tables.specs.EdgeIn.{Zero}
use Rattle.sound_tables.specs.Sound.{In, halves, HalfUsed, side}
use Rattle.sound_tables.specs.WithDummies.{Dummy, Member}

-- ---- corners

-- a corner by its numbers: of loop l, at vertex u, between the half-edges P and N. An edge goes in there: its half k
-- leaves u, its half b comes to u
pub record Corner : Type 0 where
  pub l : ℕ
  pub u : ℕ
  pub P : ℕ
  pub N : ℕ
  pub k : ℕ
  pub b : ℕ

-- the corner of an isolated loop: the edge alone stands before and after it
pub record Lone (c : Columns) (s : Corner) : Type 0 where
  pub before : s.P ≡ s.b
  pub after : s.N ≡ s.k
  pub isolated : c Isolated s.l ≡ s.u

-- a corner between two half-edges of the loop
pub record Real (sh : Shape) (c : Columns) (s : Corner) : Type 0 where
  pub before : HalfUsed sh c s.P
  pub after : HalfUsed sh c s.N
  pub next : c Next s.P ≡ s.N
  pub prev : c Prev s.N ≡ s.P
  pub loop : c Loop s.N ≡ s.l
  pub start : c Start s.N ≡ s.u
  pub isolated : c Isolated s.l ≡ 0

-- one or the other
abbrev pub HasCorner : Shape → Columns → Corner → Type 0
HasCorner sh c s = Lone c s ⊎ Real sh c s

-- the half-edge at which an operator finds it without the edge: the one after it, 0 where it is isolated
abbrev pub found_at : Corner → ℕ
found_at s = pick (eqb s.N s.k) 0 s.N

module _ {sh : Shape} {c : Columns} {s : Corner} (q : HasCorner sh c s) where
  open s use {l, P, N, k, b}

  -- what comes before it is the edge itself or in use
  pub corner_before : {i : ℕ} → i ≢ b → c Start i ≡ 0 → i ≢ P
  corner_before n z e = ⊎_elim (λ r. n (e ∙ r.before)) (λ r. r.before.2 (ap (c Start) (sym e) ∙ z)) q

  -- and what comes after it
  pub corner_after : {i : ℕ} → i ≢ k → c Start i ≡ 0 → i ≢ N
  corner_after n z e = ⊎_elim (λ r. n (e ∙ r.after)) (λ r. r.after.2 (ap (c Start) (sym e) ∙ z)) q

  -- where the edge does not stand before it, it lies between half-edges
  pub real_before : P ≢ b → Real sh c s
  real_before n = ⊎_elim (λ r. absurd (n r.before)) (λ r. r) q

  -- nor after it
  pub real_after : N ≢ k → Real sh c s
  real_after n = ⊎_elim (λ r. absurd (n r.after)) (λ r. r) q

  -- a half-edge of another loop does not come before it
  pub corner_away : ((i : ℕ) → HalfUsed sh c i → c Loop (c Next i) ≡ c Loop i) → {i : ℕ} → i ≢ b → c Loop i ≢ l → i ≢ P
  corner_away keeps n z e = ⊎_elim (λ r. n (e ∙ r.before))
      (λ r. z (ap (c Loop) e ∙ sym (keeps P r.before) ∙ ap (c Loop) r.next ∙ r.loop)) q

  -- what follows it is followed by nothing but what comes before it
  pub corner_ahead : Perm (2 * sh.edges) (HalfUsed sh c) (c Next) → {i : ℕ} → HalfUsed sh c i → c Next i ≢ k → i ≢ P
      → c Next i ≢ N
  corner_ahead perm w n z e = ⊎_elim (λ r. n (e ∙ r.after)) (λ r. z (inj perm w r.before (e ∙ sym r.next))) q

  -- its neighbours are half-edges of the table
  pub before_in : In (2 * sh.edges) b → In (2 * sh.edges) P
  before_in i = ⊎_elim (λ r. subst (In (2 * sh.edges)) (sym r.before) i) (λ r. (r.before.0, r.before.1)) q

  -- the one after it too
  pub after_in : In (2 * sh.edges) k → In (2 * sh.edges) N
  after_in i = ⊎_elim (λ r. subst (In (2 * sh.edges)) (sym r.after) i) (λ r. (r.after.0, r.after.1)) q

-- ---- the two tables

-- a bridge by its numbers: half-edge k and its mate, from vertex u1 of loop l to vertex u2 of loop l2. Its corner in l
-- lies between P1 and N1, its corner in l2 between P2 and N2
pub record Bridge : Type 0 where
  pub k : ℕ
  pub l : ℕ
  pub l2 : ℕ
  pub u1 : ℕ
  pub P1 : ℕ
  pub N1 : ℕ
  pub u2 : ℕ
  pub P2 : ℕ
  pub N2 : ℕ

-- its corner in l
abbrev pub corner1 : Bridge → Corner
corner1 B = record { l = B.l; u = B.u1; P = B.P1; N = B.N1; k = B.k; b = mate B.k }

-- its corner in l2
abbrev pub corner2 : Bridge → Corner
corner2 B = record { l = B.l2; u = B.u2; P = B.P2; N = B.N2; k = mate B.k; b = B.k }

-- numbers that go with it: how many half-edges there are at most, k's mate, the dummies of l and of l2
pub record Derived : Type 0 where
  pub n : ℕ
  pub a : ℕ
  pub D1 : ℕ
  pub D2 : ℕ

-- of a bridge
abbrev pub derived : Shape → Bridge → Derived
derived sh B = record { n = 2 * sh.edges; a = mate B.k; D1 = 2 * sh.edges + B.l; D2 = 2 * sh.edges + B.l2 }

-- the fields that a bridge changes
abbrev pub touched : List Field
touched = Start ∷ Loop ∷ Next ∷ Prev ∷ Face ∷ First ∷ Isolated ∷ []

module _ (sh : Shape) (c : Columns) (B : Bridge) where
  open B use {k, l, l2, u1, u2}

  -- c has two corners of two loops of a face, one of them a ring, and a free edge
  pub record Ends : Type 0 where
    pub half_in : In (2 * sh.edges) k
    pub mate_in : In (2 * sh.edges) (mate k)
    pub loop_in : In sh.loops l
    pub ring_in : In sh.loops l2
    pub two : l ≢ l2
    pub used : c Face l ≢ 0
    pub one_face : c Face l2 ≡ c Face l
    pub ring : c Outer (c Face l2) ≢ l2
    pub at_1 : HasCorner sh c (corner1 B)
    pub at_2 : HasCorner sh c (corner2 B)
    pub in_1 : In sh.vertices u1
    pub in_2 : In sh.vertices u2
    pub used_1 : c VertexUsed u1 ≢ 0
    pub used_2 : c VertexUsed u2 ≢ 0
    pub zero_k : Zero (halves c) k
    pub zero_a : Zero (halves c) (mate k)
    pub keeps : (i : ℕ) → HalfUsed sh c i → c Loop (c Next i) ≡ c Loop i

module _ (sh : Shape) (c d : Columns) (B : Bridge) where
  open B use {k, l, l2, u1, P1, N1, u2, P2, N2}

  -- c has the two loops, d the bridge between them
  pub record Bridged : Type 0 where
    pub ends : Ends sh c B
    pub start_k : d Start k ≡ u1
    pub start_a : d Start (mate k) ≡ u2
    pub start_o : (i : ℕ) → i ≢ k → i ≢ mate k → d Start i ≡ c Start i
    pub loop_k : d Loop k ≡ l
    pub loop_a : d Loop (mate k) ≡ l
    pub loop_2 : (i : ℕ) → In (2 * sh.edges) i → c Loop i ≡ l2 → d Loop i ≡ l
    pub loop_o : (i : ℕ) → i ≢ k → i ≢ mate k → c Loop i ≢ l2 → d Loop i ≡ c Loop i
    pub next_k : d Next k ≡ N2
    pub next_a : d Next (mate k) ≡ N1
    pub next_1 : d Next P1 ≡ k
    pub next_2 : d Next P2 ≡ mate k
    pub next_o : (i : ℕ) → i ≢ k → i ≢ mate k → i ≢ P1 → i ≢ P2 → d Next i ≡ c Next i
    pub prev_k : d Prev k ≡ P1
    pub prev_a : d Prev (mate k) ≡ P2
    pub prev_1 : d Prev N1 ≡ mate k
    pub prev_2 : d Prev N2 ≡ k
    pub prev_o : (i : ℕ) → i ≢ k → i ≢ mate k → i ≢ N1 → i ≢ N2 → d Prev i ≡ c Prev i
    pub face_2 : d Face l2 ≡ 0
    pub face_o : (m : ℕ) → m ≢ l2 → d Face m ≡ c Face m
    pub first_o : (m : ℕ) → m ≢ l → m ≢ l2 → d First m ≡ c First m
    pub isolated_1 : d Isolated l ≡ 0
    pub isolated_2 : d Isolated l2 ≡ 0
    pub isolated_o : (m : ℕ) → m ≢ l → m ≢ l2 → d Isolated m ≡ c Isolated m
    pub others : (F : Field) → among touched F ≡ false → (i : ℕ) → d F i ≡ c F i

-- ---- what follows

module _ {sh : Shape} {c d : Columns} {B : Bridge} (b : Bridged sh c d B) where
  open B use {k, l, l2}
  open b.ends use {half_in, mate_in, loop_in, ring_in, two, one_face, in_1, in_2, zero_k, zero_a}

  -- the two halves differ
  pub ka : k ≢ mate k
  ka = mate_other k half_in.0

  -- half-edges of c are neither
  pub off_k : (i : ℕ) → HalfUsed sh c i → i ≢ k
  off_k i w e = w.2 (ap (c Start) e ∙ zero_k.s)

  -- nor its mate
  pub off_a : (i : ℕ) → HalfUsed sh c i → i ≢ mate k
  off_a i w e = w.2 (ap (c Start) e ∙ zero_a.s)

  -- nor are members of c, dummies included
  pub mem_k : (i : ℕ) → Member sh c i → i ≢ k
  mem_k i = ⊎_elim (λ w. off_k i w) (λ w e. omega (arith, w.0, half_in.1, e))

  -- the same for the mate
  pub mem_a : (i : ℕ) → Member sh c i → i ≢ mate k
  mem_a i = ⊎_elim (λ w. off_a i w) (λ w e. omega (arith, w.0, mate_in.1, e))

  -- a half-edge is not the dummy of l
  pub low_1 : {i : ℕ} → i ≤ 2 * sh.edges → i ≢ 2 * sh.edges + l
  low_1 h e = omega (arith, h, loop_in.0, e)

  -- nor that of l2
  pub low_2 : {i : ℕ} → i ≤ 2 * sh.edges → i ≢ 2 * sh.edges + l2
  low_2 h e = omega (arith, h, ring_in.0, e)

  -- the dummies of the two loops differ
  pub D21 : 2 * sh.edges + l2 ≢ 2 * sh.edges + l
  D21 e = two (omega (arith, e))

  -- the same the other way round
  pub D12 : 2 * sh.edges + l ≢ 2 * sh.edges + l2
  D12 e = D21 (sym e)

  -- in d all these and the two are in use
  pub new_k : HalfUsed sh d k
  new_k = (half_in.0, half_in.1, λ z. omega (arith, in_1.0, sym b.start_k ∙ z))

  -- and the mate
  pub new_a : HalfUsed sh d (mate k)
  new_a = (mate_in.0, mate_in.1, λ z. omega (arith, in_2.0, sym b.start_a ∙ z))

  -- each of c is in use in d
  pub half_stays : (i : ℕ) → HalfUsed sh c i → HalfUsed sh d i
  half_stays i w = (w.0, w.1, λ z. w.2 (sym (b.start_o i (off_k i w) (off_a i w)) ∙ z))

  -- one of d that is neither was in use in c
  pub half_back : (i : ℕ) → HalfUsed sh d i → i ≢ k → i ≢ mate k → HalfUsed sh c i
  half_back i w e f = (w.0, w.1, λ z. w.2 (b.start_o i e f ∙ z))

  -- a statement about each half-edge of d: about the two, about one of c
  pub half_was : {Q : ℕ → Type 0} → Q k → Q (mate k) → ((i : ℕ) → HalfUsed sh c i → Q i) → (i : ℕ) → HalfUsed sh d i
      → Q i
  half_was {Q} qk qa qo i w = split i k (λ e. subst Q (sym e) qk)
      (λ e. split i (mate k) (λ f. subst Q (sym f) qa) (λ f. qo i (half_back i w e f)))

  -- one that names no loop in c
  pub free_loop : (i : ℕ) → c Loop i ≡ 0 → c Loop i ≢ l2
  free_loop i z e = omega (arith, ring_in.0, sym e ∙ z)

  -- dummies of other loops are the same
  pub dummy_stays : (i : ℕ) → i - 2 * sh.edges ≢ l → i - 2 * sh.edges ≢ l2 → Dummy sh c i → Dummy sh d i
  dummy_stays i e f w = (w.0, w.1, λ z. w.2 (sym (b.isolated_o _ e f) ∙ z))

  -- a dummy of d is of neither loop
  pub dummy_other : (i : ℕ) → Dummy sh d i → (i - 2 * sh.edges ≢ l) × (i - 2 * sh.edges ≢ l2)
  dummy_other i w = (λ e. w.2 (ap (d Isolated) e ∙ b.isolated_1), λ e. w.2 (ap (d Isolated) e ∙ b.isolated_2))

  -- and is one of c
  pub dummy_was : (i : ℕ) → Dummy sh d i → Dummy sh c i
  dummy_was i w = let e = dummy_other i w in (w.0, w.1, λ z. w.2 (b.isolated_o _ e.0 e.1 ∙ z))

  -- the loop of a half-edge of c lies in the same face
  pub side_same : (i : ℕ) → HalfUsed sh c i → side d i ≡ side c i
  side_same i w = split (c Loop i) l2
      (λ e. ap (d Face) (b.loop_2 i (w.0, w.1) e) ∙ b.face_o l two ∙ sym one_face ∙ ap (c Face) (sym e))
      (λ e. ap (d Face) (b.loop_o i (off_k i w) (off_a i w) e) ∙ b.face_o _ e)

  -- the bridge lies in the face of both loops
  pub side_k : side d k ≡ c Face l
  side_k = ap (d Face) b.loop_k ∙ b.face_o l two

  -- so does its mate
  pub side_a : side d (mate k) ≡ c Face l
  side_a = ap (d Face) b.loop_a ∙ b.face_o l two

  -- another loop is named by the same half-edges
  pub same_name : (m : ℕ) → In sh.loops m → m ≢ l → m ≢ l2 → (i : ℕ) → In (2 * sh.edges) i
      → eqb (c Loop i) m ≡ eqb (d Loop i) m
  same_name m y e f i j = split i k
      (λ z. neither (λ q. omega (arith, y.0, sym q ∙ ap (c Loop) z ∙ zero_k.l)) (ap (d Loop) z ∙ b.loop_k))
      (λ z. split i (mate k)
      (λ z'. neither (λ q. omega (arith, y.0, sym q ∙ ap (c Loop) z' ∙ zero_a.l)) (ap (d Loop) z' ∙ b.loop_a))
      (λ z'. split (c Loop i) l2 (λ q. neither (λ q'. f (sym q' ∙ q)) (b.loop_2 i j q))
      (λ q. ap (λ w. eqb w m) (sym (b.loop_o i z z' q)))))
    where
      -- where neither names m the tests agree
      neither : c Loop i ≢ m → d Loop i ≡ l → eqb (c Loop i) m ≡ eqb (d Loop i) m
      neither x z = let x' : d Loop i ≢ m = λ w. e (sym w ∙ z) in eqb_other x ∙ sym (eqb_other x')
