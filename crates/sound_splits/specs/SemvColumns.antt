-- The columns after semv, as the stores make them, are a division of k at v.
use Rattle.std.specs.Prelude.{◌≡◌, refl, ◌≢◌, List, [], ◌∷◌, ◌++◌, ℕ, ◌*◌, ℤ}
use Rattle.std.proofs.Common.{sym, ap, ◌∙◌, arith}
use Rattle.laws.specs.Bools.{split}
use Rattle.laws.specs.Update.{apart, upd, upd_at, upd_same, upd_off}
use Rattle.layout.specs.declared.shape.Shape.{Shape}
use Rattle.layout.specs.Mate.{mate}
use Rattle.sound_tables.specs.EdgeIn.{prev_in, next_prev}
use Rattle.layout.specs.Fields.{First, Isolated, Start, Loop, Next, Prev, VertexUsed, Columns}
use Rattle.sound_tables.specs.Sound.{In, HalfUsed, first_of, HalfFree, Sound}
use Rattle.sound_tables.specs.Names.{not_isolated}
use Rattle.layout.specs.Writes.{Write, write, changes}
use Rattle.euler.specs.Surgery.{inserted}
use Rattle.sound_splits.specs.CycleMoves.{swap_for, swap_at, swap_off, swap_back}
use Rattle.sound_splits.specs.Firsts.{closed, closed_others, clear_zero, far_first, first_set}
use Rattle.sound_splits.specs.Relation.{Tidy, sound_tidy, Place, fore, aft, Split, off_n, off_b, n≢b, n≢k, four}

-- half-edge n from v in loop l goes in between k and A
abbrev pub with_after : Columns → ℕ → ℕ → ℕ → ℕ → ℕ → Columns
with_after c k n v l A = changes (inserted k n v l A) c

-- what semv stores to the half-edges: n after k, then n's mate between q and m, which starts at v
abbrev pub semv_writes : Columns → ℕ → ℕ → ℕ → ℕ → List Write
semv_writes c k n v q =
    inserted k n v (c Loop k) (c Next k)
    ++ (inserted q (mate n) (c Start (mate k)) (c Loop (mate k)) (mate k) ++ (write Start (mate k) v ∷ []))

-- with the firsts of the two loops, and v in use
abbrev pub semv_columns : Shape → Columns → ℕ → ℕ → ℕ → ℕ → Columns
semv_columns sh c k n v q = closed sh (semv_writes c k n v q) c (c Loop k) (c Loop (mate k)) v 1

module _ {sh : Shape} {p : List ℤ} {c : Columns} (a : Sound sh p c) {k n v : ℕ} (o : Place sh c k n v) where
  -- what comes before m once n is in
  abbrev pub q : ℕ
  q = aft k n (c Prev (mate k))

  -- the columns afterwards
  abbrev d : Columns
  d = semv_columns sh c k n v (aft k n (c Prev (mate k)))

  -- what came before m
  abbrev P : ℕ
  P = c Prev (mate k)

  -- it is in use
  P_used : HalfUsed sh c (c Prev (mate k))
  P_used = prev_in a.rules (mate k) o.m_used

  -- next of one in use is in use
  pub next_in : (i : ℕ) → HalfUsed sh c i → HalfUsed sh c (c Next i)
  next_in = a.rules.loops.perm.f_in

  -- what is read for one in use is not k
  aft_k : (i : ℕ) → aft k n i ≢ k
  aft_k i = split i k (λ e z. n≢k o (sym (swap_at n e) ∙ z)) (λ e z. e (sym (swap_off n e) ∙ z))

  -- nor n's mate
  aft_b : (i : ℕ) → HalfUsed sh c i → aft k n i ≢ mate n
  aft_b i u = split i k (λ e z. n≢b o (sym (swap_at n e) ∙ z)) (λ e z. off_b o i u (sym (swap_off n e) ∙ z))

  -- what follows one in use before n's mate goes in
  pub first_next : (i : ℕ) → HalfUsed sh c i → upd (upd (c Next) n (c Next k)) k n (aft k n i) ≡ c Next i
  first_next i u = apart (four o) λ c1 c2 c3 c4 c5 c6 c7 c8 c9 c10 c11 c12.
      split i k (λ e. rw e (simp (upd_same, upd_off))) (λ e. let f = off_n o i u in simp upd_off)

  -- what precedes one in use then
  pub first_prev : (i : ℕ) → HalfUsed sh c i → upd (upd (c Prev) n k) (c Next k) n i ≡ aft k n (c Prev i)
  first_prev i u = split i (c Next k)
      (λ e. upd_at _ n e ∙ sym (swap_at n (ap (c Prev) e ∙ a.rules.undone k o.k_used)))
      (λ e.
      let f = off_n o i u in
      let g : c Prev i ≢ k = λ z. e (sym (next_prev a.rules i u) ∙ ap (c Next) z) in
      simp upd_off)

  -- what follows what is read for one in use
  semv_next : (i : ℕ) → HalfUsed sh c i → d Next (aft k n i) ≡ fore k n (c Next i)
  semv_next i u = split (aft k n i) q
      (λ e.
      let z : i ≡ P = sym (swap_back k n i (off_n o i u)) ∙ ap (swap_for n k) e ∙ swap_back k n P (off_n o P P_used) in
      upd_at _ (mate n) e ∙ sym (swap_at (mate n) (ap (c Next) z ∙ next_prev a.rules (mate k) o.m_used)))
      (λ e.
      let z : c Next i ≢ mate k = λ y. e (ap (aft k n) (sym (a.rules.undone i u) ∙ ap (c Prev) y)) in
      let f = aft_b i u in
      simp upd_off (first_next i u))

  -- what precedes what is read for one in use
  semv_prev : (i : ℕ) → HalfUsed sh c i → d Prev (fore k n i) ≡ aft k n (c Prev i)
  semv_prev i u = apart (four o) λ c1 c2 c3 c4 c5 c6 c7 c8 c9 c10 c11 c12.
      split i (mate k) (λ e. rw e (simp (upd_same, upd_off)))
      (λ e. let f = off_b o i u in simp upd_off (first_prev i u))

  -- n lies with k
  loop_n : d Loop n ≡ c Loop k
  loop_n = apart (four o) λ c1 c2 c3 c4 c5 c6 c7 c8 c9 c10 c11 c12. simp (upd_same, upd_off)

  -- n's mate lies with m
  loop_b : d Loop (mate n) ≡ c Loop (mate k)
  loop_b = simp upd_same

  -- and of the others
  loop_o : (i : ℕ) → i ≢ n → i ≢ mate n → d Loop i ≡ c Loop i
  loop_o i e f = simp upd_off

  -- m starts at v
  start_m : d Start (mate k) ≡ v
  start_m = simp upd_same

  -- so does n
  start_n : d Start n ≡ v
  start_n = apart (four o) λ c1 c2 c3 c4 c5 c6 c7 c8 c9 c10 c11 c12. simp (upd_same, upd_off)

  -- n's mate starts where m did
  start_b : d Start (mate n) ≡ c Start (mate k)
  start_b = apart (four o) λ c1 c2 c3 c4 c5 c6 c7 c8 c9 c10 c11 c12. simp (upd_same, upd_off)

  -- the others where they did
  start_o : (i : ℕ) → i ≢ mate k → i ≢ n → i ≢ mate n → d Start i ≡ c Start i
  start_o i e f g = simp upd_off

  -- firsts and free half-edges
  semv_tidy : Tidy sh d
  semv_tidy = record {
    first = λ l i. first_set (c First) (first_of sh d) (c Loop k) (c Loop (mate k)) l (λ e f. (sound_tidy a).first l i
        ∙ far_first sh c d n (a.half_free n o.n_in o.n_free).loop
        (a.half_free (mate n) o.b_in o.b_free).loop loop_o l i.0 (λ z. e (sym z ∙ loop_n))
        (λ z. f (sym z ∙ loop_b)));
    half = free;
  }
    where
      -- a free half-edge was free
      free : (i : ℕ) → In (2 * sh.edges) i → d Start i ≡ 0 → HalfFree sh d i
      free i j z =
          let e : i ≢ mate k = λ y. omega (arith, o.v_in.0, sym start_m ∙ ap (d Start) (sym y) ∙ z) in
          let f : i ≢ n = λ y. omega (arith, o.v_in.0, sym start_n ∙ ap (d Start) (sym y) ∙ z) in
          let g : i ≢ mate n = λ y. o.m_used.2 (sym start_b ∙ ap (d Start) (sym y) ∙ z) in
          let w : c Start i ≡ 0 = sym (start_o i e f g) ∙ z in
          let r = a.half_free i j w in
          let x : (h : ℕ) → HalfUsed sh c h → i ≢ h = λ h u y. u.2 (ap (c Start) (sym y) ∙ w) in
          let y : i ≢ q = split P k (λ s t. f (t ∙ swap_at n s)) (λ s t. x P P_used (t ∙ swap_off n s)) in
          let x1 = x k o.k_used in
          let x2 = x (c Next k) (next_in k o.k_used) in
          record { loop = loop_o i f g ∙ r.loop; next = simp upd_off r.next; prev = simp upd_off r.prev }

  -- v divides k
  pub semv_split : Split sh c (semv_columns sh c k n v (aft k n (c Prev (mate k)))) k n v
  semv_split = record {
    place = o;
    others = closed_others sh (semv_writes c k n v q) c (c Loop k) (c Loop (mate k)) v 1 refl;
    isolated = clear_zero (c Isolated) (c Loop k) (c Loop (mate k)) (not_isolated a k o.k_used refl)
        (not_isolated a (mate k) o.m_used refl);
    v_used = λ z. omega (arith, sym (upd_same (c VertexUsed) v 1) ∙ z);
    used = λ w e. upd_off (c VertexUsed) 1 e;
    start_m = start_m;
    start_n = start_n;
    start_b = start_b;
    start = start_o;
    loop_n = loop_n;
    loop_b = loop_b;
    loop = loop_o;
    next_k = apart (four o) λ c1 c2 c3 c4 c5 c6 c7 c8 c9 c10 c11 c12. let q≢k : k ≢ q = λ z. aft_k P (sym z) in
        simp (upd_same, upd_off);
    next_b = apart (four o) λ c1 c2 c3 c4 c5 c6 c7 c8 c9 c10 c11 c12. let q≢b : mate n ≢ q =
        λ z. aft_b P P_used (sym z) in
        simp (upd_same, upd_off);
    next = semv_next;
    prev_m = simp upd_same;
    prev_n = apart (four o) λ c1 c2 c3 c4 c5 c6 c7 c8 c9 c10 c11 c12. let f : n ≢ c Next k =
        λ z. off_n o (c Next k) (next_in k o.k_used) (sym z) in simp (upd_same, upd_off);
    prev = semv_prev;
    next_old = λ i u. off_b o (c Next i) (next_in i u);
    prev_old = λ i u. off_n o (c Prev i) (prev_in a.rules i u);
    tidy_c = sound_tidy a;
    tidy_d = semv_tidy;
  }
