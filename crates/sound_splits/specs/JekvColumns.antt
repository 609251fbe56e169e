-- The columns after jekv, as the stores make them, are those of which the table before is a division.
use Rattle.std.specs.Prelude.{◌≡◌, refl, ◌≢◌, List, ◌∷◌, ◌++◌, ℕ, ◌*◌, ℤ}
use Rattle.std.proofs.Common.{sym, ap, ◌∙◌, subst}
use Rattle.laws.specs.Bools.{split}
use Rattle.laws.specs.Update.{Apart, apart, upd, upd_at, upd_same, upd_off}
use Rattle.laws.specs.Permutations.{inj}
use Rattle.layout.specs.declared.shape.Shape.{Shape}
use Rattle.layout.specs.Mate.{mate}
use Rattle.layout.specs.MateLaws.{mate_mate}
use Rattle.layout.specs.Fields.{First, Isolated, Start, Loop, Next, Prev, VertexUsed, Columns, half_kind}
use Rattle.sound_tables.specs.Mates.{mate_other}
use Rattle.sound_tables.specs.EdgeIn.{prev_in, next_prev}
use Rattle.sound_tables.specs.Sound.{In, HalfUsed, first_of, HalfFree, Sound}
use Rattle.sound_tables.specs.Names.{not_isolated}
use Rattle.layout.specs.Writes.{Write, write, cleared}
use Rattle.euler.specs.Surgery.{tied}
use Rattle.sound_splits.specs.CycleMoves.{swap_for, swap_at, swap_off, swap_back}
use Rattle.sound_splits.specs.Firsts.{closed, closed_others, clear_zero, far_first, first_set}
use Rattle.sound_splits.specs.Relation.{Tidy, sound_tidy, Place, fore, aft, Split}

-- n comes after k, is of another edge, and after its mate comes k's mate
pub record Joint (sh : Shape) (d : Columns) (k n : ℕ) : Type 0 where
  pub k_used : HalfUsed sh d k
  pub next_k : d Next k ≡ n
  pub n≢k : n ≢ k
  pub n≢m : n ≢ mate k
  pub next_b : d Next (mate n) ≡ mate k

-- it is one of any columns that agree where it looks
pub joint_agree : {sh : Shape} {c d : Columns} {k n : ℕ} → Joint sh c k n → d Start k ≡ c Start k → d Next k ≡ c Next k
    → d Next (mate n) ≡ c Next (mate n) → Joint sh d k n
joint_agree j start next behind = record {
  k_used = (j.k_used.0, j.k_used.1, λ z. j.k_used.2 (sym start ∙ z));
  next_k = next ∙ j.next_k;
  n≢k = j.n≢k;
  n≢m = j.n≢m;
  next_b = behind ∙ j.next_b;
}

-- the half-edges after jekv: k is followed by what comes after n, q by k's mate, which starts where n's did; both
-- halves of n's edge are cleared
abbrev pub jekv_writes : Columns → ℕ → ℕ → ℕ → List Write
jekv_writes d k n q =
    tied k (d Next n) ++ (tied q (mate k) ++ (write Start (mate k) (d Start (mate n))
    ∷ (cleared half_kind n ++ cleared half_kind (mate n))))

-- with the firsts of the two loops, and n's start free
abbrev pub jekv_columns : Shape → Columns → ℕ → ℕ → ℕ → Columns
jekv_columns sh d k n q = closed sh (jekv_writes d k n q) d (d Loop k) (d Loop (mate k)) (d Start n) 0

module _ {sh : Shape} {p : List ℤ} {d : Columns} (a : Sound sh p d) {k n : ℕ} (o : Joint sh d k n) where
  -- what comes before n's mate once k is joined
  abbrev q : ℕ
  q = swap_for n k (d Prev (mate n))

  -- the columns afterwards
  abbrev c : Columns
  c = jekv_columns sh d k n (swap_for n k (d Prev (mate n)))

  -- n is in use
  pub n_used : HalfUsed sh d n
  n_used = subst (HalfUsed sh d) o.next_k (a.rules.loops.perm.f_in k o.k_used)

  -- so is its mate
  pub b_used : HalfUsed sh d (mate n)
  b_used = a.rules.mate_in n n_used

  -- and k's mate
  pub m_used : HalfUsed sh d (mate k)
  m_used = a.rules.mate_in k o.k_used

  -- what comes before n's mate
  abbrev P : ℕ
  P = d Prev (mate n)

  -- it is in use
  P_used : HalfUsed sh d (d Prev (mate n))
  P_used = prev_in a.rules (mate n) b_used

  -- and the mate follows it
  next_P : d Next P ≡ mate n
  next_P = next_prev a.rules (mate n) b_used

  -- n and its mate differ
  n≢b : n ≢ mate n
  n≢b = mate_other n n_used.0

  -- k and its mate
  k≢m : k ≢ mate k
  k≢m = mate_other k o.k_used.0

  -- k and n's mate
  k≢b : k ≢ mate n
  k≢b e = o.n≢m (sym (mate_mate n) ∙ ap mate (sym e))

  -- the mates
  m≢b : mate k ≢ mate n
  m≢b e = o.n≢k (sym (mate_mate n) ∙ ap mate (sym e) ∙ mate_mate k)

  -- k's mate and n
  m≢n : mate k ≢ n
  m≢n e = o.n≢m (sym e)

  -- k and n
  k≢n : k ≢ n
  k≢n e = o.n≢k (sym e)

  -- all four, for `apart` to hand out
  differ : Apart k (mate k) n (mate n)
  differ = record { ka = k≢m; kp = k≢n; kq = k≢b; ap = m≢n; aq = m≢b; pq = n≢b }

  -- k does not come before n's mate
  P≢k : P ≢ k
  P≢k e = n≢b (sym o.next_k ∙ ap (d Next) (sym e) ∙ next_P)

  -- q is in use
  pub q_used : HalfUsed sh d q
  q_used = split P n (λ e. subst (HalfUsed sh d) (sym (swap_at k e)) o.k_used)
      (λ e. subst (HalfUsed sh d) (sym (swap_off k e)) P_used)

  -- q is read as what comes before n's mate
  aft_q : aft k n q ≡ P
  aft_q = swap_back n k P P≢k

  -- other half-edges start where they did
  start_o : (i : ℕ) → i ≢ mate k → i ≢ n → i ≢ mate n → d Start i ≡ c Start i
  start_o i e f g = simp upd_off

  -- n starts nowhere
  start_n : c Start n ≡ 0
  start_n = let e = n≢b in simp (upd_same, upd_off)

  -- nor does its mate
  start_b0 : c Start (mate n) ≡ 0
  start_b0 = simp upd_same

  -- what is in use afterwards was so
  was : (i : ℕ) → HalfUsed sh c i → HalfUsed sh d i × (i ≢ n) × (i ≢ mate n)
  was i u =
      let f : i ≢ n = λ e. u.2 (ap (c Start) e ∙ start_n) in
      let g : i ≢ mate n = λ e. u.2 (ap (c Start) e ∙ start_b0) in
      let h : i ≢ mate k → d Start i ≢ 0 = λ e z. u.2 (sym (start_o i e f g) ∙ z) in
      (split i (mate k) (λ e. subst (HalfUsed sh d) (sym e) m_used) (λ e. (u.0, u.1, h e)), f, g)

  -- k's mate starts where n's mate did
  start_b : d Start (mate n) ≡ c Start (mate k)
  start_b = apart differ λ c1 c2 c3 c4 c5 c6 c7 c8 c9 c10 c11 c12. simp (upd_same, upd_off)

  -- k is in use afterwards, n, its mate and its start are free
  joint_place : Place sh c k n (d Start n)
  joint_place = record {
    k_used = (o.k_used.0, o.k_used.1, λ z. o.k_used.2 (start_o k k≢m k≢n k≢b ∙ z));
    m_used = (m_used.0, m_used.1, λ z. b_used.2 (start_b ∙ z));
    n_in = (n_used.0, n_used.1);
    b_in = (b_used.0, b_used.1);
    n_free = start_n;
    b_free = start_b0;
    v_in = (a.half n (n_used.0, n_used.1) n_used.2).start_in;
    v_free = upd_same (d VertexUsed) (d Start n) 0;
  }

  -- what is read for one in use is in use, and not n's mate
  aft_in : (i : ℕ) → HalfUsed sh c i → HalfUsed sh d (aft k n i) × (aft k n i ≢ mate n)
  aft_in i u = split i k
      (λ e. let x = sym (swap_at n e) in (subst (HalfUsed sh d) x n_used, λ z. n≢b (x ∙ z)))
      (λ e. let x = sym (swap_off n e) in (subst (HalfUsed sh d) x (was i u).0, λ z. (was i u).2 (x ∙ z)))

  -- once k is joined
  tied_next : (i : ℕ) → upd (d Next) k (d Next n) i ≡ d Next (aft k n i)
  tied_next i = split i k (λ e. rw e (simp upd_same)) (λ e. simp upd_off)

  -- after q comes k's mate
  next_q : c Next q ≡ mate k
  next_q = let e = q≢b in let f = q≢n in simp (upd_same, upd_off)
    where
      -- q is not n
      q≢n : q ≢ n
      q≢n = split P n (λ e z. k≢n (sym (swap_at k e) ∙ z)) (λ e z. e (sym (swap_off k e) ∙ z))

      -- n's mate is not its own next
      q≢b : q ≢ mate n
      q≢b z = split P n (λ e. k≢b (sym (swap_at k e) ∙ z))
          (λ e. m≢b (sym o.next_b ∙ ap (d Next) (sym z ∙ swap_off k e) ∙ next_P))

  -- after another comes what followed what is read for it
  next_o : (i : ℕ) → HalfUsed sh c i → i ≢ q → c Next i ≡ d Next (aft k n i)
  next_o i u e = let f = (was i u).1 in let g = (was i u).2 in simp upd_off (tied_next i)

  -- what follows what is read for one in use
  jekv_next : (i : ℕ) → HalfUsed sh c i → d Next (aft k n i) ≡ fore k n (c Next i)
  jekv_next i u = split i q
      (λ e. ap (λ j. d Next (aft k n j)) e ∙ ap (d Next) aft_q ∙ next_P
      ∙ sym (swap_at (mate n) (ap (c Next) e ∙ next_q)))
      (λ e.
      let x = aft_in i u in
      let y = next_o i u e in
      sym (swap_off (mate n) (λ z. x.1 (inj a.rules.loops.perm x.0 b_used (sym y ∙ z ∙ sym o.next_b))) ∙ y))

  -- none in use is followed by n's mate
  jekv_next_old : (i : ℕ) → HalfUsed sh c i → c Next i ≢ mate n
  jekv_next_old i u z = split i q
      (λ e. m≢b (sym next_q ∙ ap (c Next) (sym e) ∙ z))
      (λ e. e (sym (swap_back k n i (was i u).1)
      ∙ ap (swap_for n k) (inj a.rules.loops.perm (aft_in i u).0 P_used
      (sym (next_o i u e) ∙ z ∙ sym next_P))))

  -- what precedes k's mate
  prev_m : c Prev (mate k) ≡ q
  prev_m = apart differ λ c1 c2 c3 c4 c5 c6 c7 c8 c9 c10 c11 c12. simp (upd_same, upd_off)

  -- what precedes another
  prev_o : (i : ℕ) → HalfUsed sh c i → i ≢ mate k → c Prev i ≡ upd (d Prev) (d Next n) k i
  prev_o i u e = let f = (was i u).1 in let g = (was i u).2 in simp upd_off

  -- what precedes what is read for one in use
  jekv_prev : (i : ℕ) → HalfUsed sh c i → d Prev (fore k n i) ≡ aft k n (c Prev i)
  jekv_prev i u = split i (mate k)
      (λ e. ap (d Prev) (swap_at (mate n) e) ∙ sym (ap (aft k n) (ap (c Prev) e ∙ prev_m) ∙ aft_q))
      (λ e. ap (d Prev) (swap_off (mate n) e) ∙ split i (d Next n)
      (λ f. ap (d Prev) f ∙ a.rules.undone n n_used ∙ sym (swap_at n (prev_o i u e ∙ upd_at (d Prev) k f)))
      (λ f. let y = prev_o i u e ∙ upd_off (d Prev) k f in sym (swap_off n (λ z. before_k i u (sym y ∙ z)) ∙ y)))
    where
      -- k comes before n only
      before_k : (i : ℕ) → HalfUsed sh c i → d Prev i ≢ k
      before_k i u z = (was i u).1 (sym (next_prev a.rules i (was i u).0) ∙ ap (d Next) z ∙ o.next_k)

  -- none in use is preceded by n
  jekv_prev_old : (i : ℕ) → HalfUsed sh c i → c Prev i ≢ n
  jekv_prev_old i u z = split i (mate k)
      (λ e. split P n (λ f. k≢n (sym (swap_at k f) ∙ sym prev_m ∙ ap (c Prev) (sym e) ∙ z))
      (λ f. f (sym (swap_off k f) ∙ sym prev_m ∙ ap (c Prev) (sym e) ∙ z)))
      (λ e. split i (d Next n)
      (λ f. k≢n (sym (prev_o i u e ∙ upd_at (d Prev) k f) ∙ z))
      (λ f. f (sym (next_prev a.rules i (was i u).0)
      ∙ ap (d Next) (sym (prev_o i u e ∙ upd_off (d Prev) k f) ∙ z))))

  -- the others lie in their loops
  loop_o : (i : ℕ) → i ≢ n → i ≢ mate n → d Loop i ≡ c Loop i
  loop_o i e f = simp upd_off

  -- n lies in k's loop
  n_loop : d Loop n ≡ d Loop k
  n_loop = ap (d Loop) (sym o.next_k) ∙ a.rules.loops.keeps k o.k_used

  -- n's mate in that of k's mate
  b_loop : d Loop (mate n) ≡ d Loop (mate k)
  b_loop = sym (ap (d Loop) (sym o.next_b) ∙ a.rules.loops.keeps (mate n) b_used)

  -- n is all zero
  n_zero : HalfFree sh c n
  n_zero = let h = n≢b in
      record { loop = simp (upd_same, upd_off); next = simp (upd_same, upd_off); prev = simp (upd_same, upd_off) }

  -- so is its mate
  b_zero : HalfFree sh c (mate n)
  b_zero = record { loop = simp upd_same; next = simp upd_same; prev = simp upd_same }

  -- firsts and free half-edges
  jekv_tidy : Tidy sh c
  jekv_tidy = record {
    first = λ l i. first_set (d First) (first_of sh c) (d Loop k) (d Loop (mate k)) l (λ e f. (sound_tidy a).first l i
        ∙ sym (far_first sh c d n n_zero.loop b_zero.loop loop_o l i.0 (λ z. e (sym z ∙ n_loop))
        (λ z. f (sym z ∙ b_loop))));
    half = λ i j z. split i (mate n)
        (λ e. rw e b_zero) λ g. split i n
        (λ e. rw e n_zero) λ f. free i j z f g;
  }
    where
      -- a free half-edge that was free
      free : (i : ℕ) → In (2 * sh.edges) i → c Start i ≡ 0 → i ≢ n → i ≢ mate n → HalfFree sh c i
      free i j z f g =
          let e : i ≢ mate k = λ y. b_used.2 (start_b ∙ ap (c Start) (sym y) ∙ z) in
          let w : d Start i ≡ 0 = start_o i e f g ∙ z in
          let r = a.half_free i j w in
          let x : (h : ℕ) → HalfUsed sh d h → i ≢ h = λ h u y. u.2 (ap (d Start) (sym y) ∙ w) in
          let x1 = x q q_used in
          let x2 = x k o.k_used in
          let x3 = x (d Next n) (a.rules.loops.perm.f_in n n_used) in
          record { loop = sym (loop_o i f g) ∙ r.loop; next = simp upd_off r.next; prev = simp upd_off r.prev }

  -- n's start divides k
  pub jekv_split : Split sh (jekv_columns sh d k n (swap_for n k (d Prev (mate n)))) d k n (d Start n)
  jekv_split = record {
    place = joint_place;
    others = λ F e i. sym
        (closed_others sh (jekv_writes d k n q) d (d Loop k) (d Loop (mate k)) (d Start n) 0 refl F e i);
    isolated = λ i. sym (clear_zero (d Isolated) (d Loop k) (d Loop (mate k)) (not_isolated a k o.k_used refl)
        (not_isolated a (mate k) m_used refl) i);
    v_used = (a.half n (n_used.0, n_used.1) n_used.2).start_used;
    used = λ w e. sym (upd_off (d VertexUsed) 0 e);
    start_m = sym (ap (d Start) (sym (ap (d Next) (mate_mate k) ∙ o.next_k)) ∙ a.rules.verts.keeps (mate k) m_used);
    start_n = refl;
    start_b = start_b;
    start = start_o;
    loop_n = n_loop ∙ loop_o k k≢n k≢b;
    loop_b = b_loop ∙ loop_o (mate k) m≢n m≢b;
    loop = loop_o;
    next_k = o.next_k;
    next_b = o.next_b;
    next = jekv_next;
    prev_m = ap (d Prev) (sym o.next_b) ∙ a.rules.undone (mate n) b_used;
    prev_n = ap (d Prev) (sym o.next_k) ∙ a.rules.undone k o.k_used;
    prev = jekv_prev;
    next_old = jekv_next_old;
    prev_old = jekv_prev_old;
    tidy_c = jekv_tidy;
    tidy_d = sound_tidy a;
  }
