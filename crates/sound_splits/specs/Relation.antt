-- semv as a relation between the columns before, c, and after, d: vertex v divides half-edge k. Its mate is m, the new
-- half-edge after k is n, and n's mate b stands before m. After it b is to the vertex what m was (`fore`), and n to
-- what follows k what k was (`aft`). jekv is the same relation read from d to c: each side settles the other.
use Rattle.std.specs.Prelude.{◌≡◌, refl, ◌≢◌, false, List, [], ◌∷◌, ℕ, ◌*◌, ℤ}
use Rattle.std.proofs.Common.{sym, ap, ◌∙◌, subst, arith}
use Rattle.laws.specs.Bools.{split}
use Rattle.laws.specs.Update.{Apart}
use Rattle.layout.specs.declared.shape.Shape.{Shape}
use Rattle.layout.specs.Mate.{mate}
use Rattle.layout.specs.MateLaws.{mate_mate}
use Rattle.layout.specs.Fields.{Field, Face, First, Isolated, Start, Loop, Next, Prev, VertexUsed, Columns, among}
use Rattle.sound_tables.specs.Mates.{mate_other}
use Rattle.sound_tables.specs.Sound.{In, HalfUsed, first_of, HalfFree, Sound}
use Rattle.sound_tables.specs.Labels.{label_none}
use Rattle.sound_splits.specs.CycleMoves.{swap_for, swap_at, swap_off}

-- first is the least half-edge that names a loop, and a free half-edge is all zero
pub record Tidy (sh : Shape) (c : Columns) : Type 0 where
  pub first : (l : ℕ) → In sh.loops l → c First l ≡ first_of sh c l
  pub half : (i : ℕ) → In (2 * sh.edges) i → c Start i ≡ 0 → HalfFree sh c i

-- a sound table is tidy
pub sound_tidy : {sh : Shape} {p : List ℤ} {c : Columns} → Sound sh p c → Tidy sh c
sound_tidy {sh} {c = c} a = record {
  first = λ l i. split (c Face l) 0
      (λ z. (a.loop_free l i z).0 ∙ sym (label_none (2 * sh.edges) (c Loop) l (λ k j e. split (c Start k) 0
      (λ s. omega (arith, i.0, e, (a.half_free k j s).loop)) (λ s. (a.half k j s).loop_used (ap (c Face) e ∙ z)))))
      (λ h. (a.loop l i h).first);
  half = a.half_free;
}

-- the fields that the stores of a division name
abbrev pub moved : List Field
moved = First ∷ Isolated ∷ VertexUsed ∷ Start ∷ Loop ∷ Next ∷ Prev ∷ []

-- k is in use; n, its mate and v are free
pub record Place (sh : Shape) (c : Columns) (k n v : ℕ) : Type 0 where
  pub k_used : HalfUsed sh c k
  pub m_used : HalfUsed sh c (mate k)
  pub n_in : In (2 * sh.edges) n
  pub b_in : In (2 * sh.edges) (mate n)
  pub n_free : c Start n ≡ 0
  pub b_free : c Start (mate n) ≡ 0
  pub v_in : In sh.vertices v
  pub v_free : c VertexUsed v ≡ 0

-- m becomes b
abbrev pub fore : ℕ → ℕ → ℕ → ℕ
fore k n = swap_for (mate k) (mate n)

-- k becomes n
abbrev pub aft : ℕ → ℕ → ℕ → ℕ
aft k n = swap_for k n

-- v divides k in c, which gives d
pub record Split (sh : Shape) (c d : Columns) (k n v : ℕ) : Type 0 where
  pub place : Place sh c k n v
  pub others : (F : Field) → among moved F ≡ false → (i : ℕ) → d F i ≡ c F i
  pub isolated : (l : ℕ) → d Isolated l ≡ c Isolated l
  pub v_used : d VertexUsed v ≢ 0
  pub used : (w : ℕ) → w ≢ v → d VertexUsed w ≡ c VertexUsed w
  pub start_m : d Start (mate k) ≡ v
  pub start_n : d Start n ≡ v
  pub start_b : d Start (mate n) ≡ c Start (mate k)
  pub start : (i : ℕ) → i ≢ mate k → i ≢ n → i ≢ mate n → d Start i ≡ c Start i
  pub loop_n : d Loop n ≡ c Loop k
  pub loop_b : d Loop (mate n) ≡ c Loop (mate k)
  pub loop : (i : ℕ) → i ≢ n → i ≢ mate n → d Loop i ≡ c Loop i
  pub next_k : d Next k ≡ n
  pub next_b : d Next (mate n) ≡ mate k
  pub next : (i : ℕ) → HalfUsed sh c i → d Next (aft k n i) ≡ fore k n (c Next i)
  pub prev_m : d Prev (mate k) ≡ mate n
  pub prev_n : d Prev n ≡ k
  pub prev : (i : ℕ) → HalfUsed sh c i → d Prev (fore k n i) ≡ aft k n (c Prev i)
  pub next_old : (i : ℕ) → HalfUsed sh c i → c Next i ≢ mate n
  pub prev_old : (i : ℕ) → HalfUsed sh c i → c Prev i ≢ n
  pub tidy_c : Tidy sh c
  pub tidy_d : Tidy sh d

-- ---- the four half-edges differ

module _ {sh : Shape} {c : Columns} {k n v : ℕ} (o : Place sh c k n v) where
  -- a half-edge in use is not n
  pub off_n : (i : ℕ) → HalfUsed sh c i → i ≢ n
  off_n i u e = u.2 (ap (c Start) e ∙ o.n_free)

  -- nor is one the mate
  pub off_b : (i : ℕ) → HalfUsed sh c i → i ≢ mate n
  off_b i u e = u.2 (ap (c Start) e ∙ o.b_free)

  -- n and its mate
  pub n≢b : n ≢ mate n
  n≢b = mate_other n o.n_in.0

  -- n and k
  pub n≢k : n ≢ k
  n≢k e = off_n k o.k_used (sym e)

  -- n and k's mate
  pub n≢m : n ≢ mate k
  n≢m e = off_n (mate k) o.m_used (sym e)

  -- n's mate and k
  pub b≢k : mate n ≢ k
  b≢k e = off_b k o.k_used (sym e)

  -- the mates
  pub b≢m : mate n ≢ mate k
  b≢m e = off_b (mate k) o.m_used (sym e)

  -- all four, for `apart` to hand out
  pub four : Apart k (mate k) n (mate n)
  four = record {
    ka = mate_other k o.k_used.0;
    kp = λ z. n≢k (sym z);
    kq = λ z. b≢k (sym z);
    ap = λ z. n≢m (sym z);
    aq = λ z. b≢m (sym z);
    pq = n≢b;
  }

  -- the mate of what is read for m is read for k
  pub mate_fore : (i : ℕ) → mate (fore k n i) ≡ aft k n (mate i)
  mate_fore i = split i (mate k)
      (λ e. ap mate (swap_at (mate n) e) ∙ mate_mate n ∙ sym (swap_at n (ap mate e ∙ mate_mate k)))
      (λ e. ap mate (swap_off (mate n) e) ∙ sym (swap_off n (λ z. e (sym (mate_mate i) ∙ ap mate z))))

-- ---- half-edges in use before and after

module _ {sh : Shape} {c d : Columns} {k n v : ℕ} (r : Split sh c d k n v) where
  open r use {place as o}

  -- the loop of one that was in use
  pub loop_old : (i : ℕ) → HalfUsed sh c i → d Loop i ≡ c Loop i
  loop_old i u = r.loop i (off_n o i u) (off_b o i u)

  -- n is in use
  pub used_n : HalfUsed sh d n
  used_n = (o.n_in.0, o.n_in.1, λ z. omega (arith, o.v_in.0, sym r.start_n ∙ z))

  -- so is its mate
  pub used_b : HalfUsed sh d (mate n)
  used_b = (o.b_in.0, o.b_in.1, λ z. o.m_used.2 (sym r.start_b ∙ z))

  -- and what was in use
  pub used_old : (i : ℕ) → HalfUsed sh c i → HalfUsed sh d i
  used_old i u = (
    u.0,
    u.1,
    λ z. split i (mate k)
        (λ e. omega (arith, o.v_in.0, sym r.start_m ∙ ap (d Start) (sym e) ∙ z))
        (λ e. u.2 (sym (r.start i e (off_n o i u) (off_b o i u)) ∙ z)),
  )

  -- and no other
  pub used_was : (Q : ℕ → Type 0) → Q n → Q (mate n) → ((i : ℕ) → HalfUsed sh c i → Q i) → (i : ℕ) → HalfUsed sh d i
      → Q i
  used_was Q qn qb qo i u = split i n (λ e. subst Q (sym e) qn) λ e. split i (mate n)
      (λ f. subst Q (sym f) qb) λ f. split i (mate k)
      (λ g. qo i (subst (HalfUsed sh c) (sym g) o.m_used))
      (λ g. qo i (u.0, u.1, λ z. u.2 (r.start i g e f ∙ z)))

  -- a statement about each half-edge: k, b, those read for one in use before, the free ones
  pub by_next : (Q : ℕ → Type 0) → Q k → Q (mate n) → ((i : ℕ) → HalfUsed sh c i → Q (aft k n i))
      → ((i : ℕ) → In (2 * sh.edges) i → d Start i ≡ 0 → Q i) → (i : ℕ) → In (2 * sh.edges) i → Q i
  by_next Q qk qb qo qf i j = split (d Start i) 0 (λ z. qf i j z) (λ u. used_was Q
      (subst Q (swap_at {a = k} n refl) (qo k o.k_used)) qb
      (λ i w. split i k (λ e. subst Q (sym e) qk) (λ e. subst Q (swap_off n e) (qo i w))) i (j.0, j.1, u))

  -- the same for the other direction: m, n, those read for one in use before, the free ones
  pub by_prev : (Q : ℕ → Type 0) → Q (mate k) → Q n → ((i : ℕ) → HalfUsed sh c i → Q (fore k n i))
      → ((i : ℕ) → In (2 * sh.edges) i → d Start i ≡ 0 → Q i) → (i : ℕ) → In (2 * sh.edges) i → Q i
  by_prev Q qm qn qo qf i j = split (d Start i) 0 (λ z. qf i j z) (λ u. used_was Q
      qn (subst Q (swap_at {a = mate k} (mate n) refl) (qo (mate k) o.m_used))
      (λ i w. split i (mate k) (λ e. subst Q (sym e) qm) (λ e. subst Q (swap_off (mate n) e) (qo i w))) i
      (j.0, j.1, u))
