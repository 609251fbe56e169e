-- Rules 4 and 5 (the cycles of loops and of vertices) on both sides of a division. Among the loops n goes in after k,
-- and b before m. Among the vertices b takes m's place, and m and n make a vertex of their own.
use Rattle.std.specs.Prelude.{◌≡◌, refl, ◌≢◌, ℕ, ◌*◌}
use Rattle.std.proofs.Common.{sym, ap, ◌∙◌, subst, inl, inr, ⊎_elim}
use Rattle.laws.specs.Bools.{split}
use Rattle.laws.specs.Update.{apart, upd, upd_at, upd_same, upd_off}
use Rattle.laws.specs.Cycles.{Cycles, agree, insert, remove, birth, death}
use Rattle.laws.specs.Moves.{Or, But, ins, out, ins_cycles, out_cycles}
use Rattle.layout.specs.declared.shape.Shape.{Shape}
use Rattle.layout.specs.Mate.{mate}
use Rattle.layout.specs.MateLaws.{mate_mate}
use Rattle.layout.specs.Fields.{Start, Loop, Next, Prev, Columns}
use Rattle.sound_tables.specs.EdgeIn.{Rules}
use Rattle.sound_tables.specs.Sound.{halves, HalfUsed}
use Rattle.sound_splits.specs.CycleMoves.{swap_for, swap_at, swap_off, swap_back, before_cycles, before_out}
use Rattle.sound_splits.specs.CycleMoves.{rename}
use Rattle.sound_splits.specs.Relation.{fore, aft, Split, off_n, off_b, n≢b, n≢k, n≢m, b≢k, b≢m, four, mate_fore}
use Rattle.sound_splits.specs.Relation.{used_n, used_b, used_old, used_was, by_next}

module _ {sh : Shape} {c d : Columns} {k n v : ℕ} (r : Split sh c d k n v) where
  open r use {place as o}

  -- how many half-edges there are
  abbrev N : ℕ
  N = 2 * sh.edges

  -- those in use before
  abbrev U : ℕ → Type 0
  U = HalfUsed sh c

  -- and after
  abbrev U' : ℕ → Type 0
  U' = HalfUsed sh d

  -- those afterwards that are not of the new vertex
  abbrev U₁ : ℕ → Type 0
  U₁ = But (mate k) (But n (HalfUsed sh d))

  -- what follows n
  next_n : d Next n ≡ fore k n (c Next k)
  next_n = ap (d Next) (sym (swap_at {a = k} n refl)) ∙ r.next k o.k_used

  -- what follows one in use, not k
  next_o : (i : ℕ) → U i → i ≢ k → d Next i ≡ fore k n (c Next i)
  next_o i u e = ap (d Next) (sym (swap_off n e)) ∙ r.next i u

  -- what stands for one in use is in use, and not of the new vertex
  pub fore_in : (i : ℕ) → U i → U₁ (fore k n i)
  fore_in i u = split i (mate k)
      (λ e. subst U₁ (sym (swap_at (mate n) e)) ((used_b r, λ z. n≢b o (sym z)), b≢m o))
      (λ e. subst U₁ (sym (swap_off (mate n) e)) ((used_old r i u, off_n o i u), e))

  -- and back
  fore_out : (j : ℕ) → U₁ j → U (swap_for (mate n) (mate k) j)
  fore_out j u = used_was r (λ j. j ≢ n → U (swap_for (mate n) (mate k) j))
      (λ e. absurd (e refl))
      (λ e. subst U (sym (swap_at {a = mate n} (mate k) refl)) o.m_used)
      (λ i w e. subst U (sym (swap_off (mate k) (off_b o i w))) w)
      j u.0.0 u.0.1

  -- it starts where that did
  pub start_fore : (i : ℕ) → U i → d Start (fore k n i) ≡ c Start i
  start_fore i u = split i (mate k)
      (λ e. ap (d Start) (swap_at (mate n) e) ∙ r.start_b ∙ ap (c Start) (sym e))
      (λ e. ap (d Start) (swap_off (mate n) e) ∙ r.start i e (off_n o i u) (off_b o i u))

  -- next of the mate, as it is read
  sigma_fore : (i : ℕ) → U (mate i) → d Next (mate (fore k n i)) ≡ fore k n (c Next (mate i))
  sigma_fore i u = ap (d Next) (mate_fore o i) ∙ r.next (mate i) u

  -- around the new vertex: from m to n, and from n to m
  sigma_m : d Next (mate (mate k)) ≡ n
  sigma_m = ap (d Next) (mate_mate k) ∙ r.next_k

  -- ---- from c to d

  module _ (a : Rules (2 * sh.edges) mate (HalfUsed sh c) (halves c))
      (fresh : (i : ℕ) → HalfUsed sh c i → c Start i ≢ v) where
    -- n goes in after k, b before m
    inserted : Cycles N (Or (mate n) (Or n U)) (upd (λ i. fore k n (ins (c Next) n k i)) (mate n) (mate k))
        (upd (upd (c Loop) n (c Loop k)) (mate n) (upd (c Loop) n (c Loop k) (mate k)))
    inserted = before_cycles (ins_cycles a.loops n k (λ u. u.2 o.n_free) o.n_in.0 o.n_in.1 o.k_used)
        (mate n) (mate k)
        (⊎_elim (λ e. n≢b o (sym e)) (λ u. u.2 o.b_free)) o.b_in.0 o.b_in.1 (inr o.m_used)

    -- that is the loops of d
    split_loops : Cycles N U' (d Next) (d Loop)
    split_loops = agree inserted
        (λ i. ⊎_elim (λ e. subst U' (sym e) (used_b r))
        (⊎_elim (λ e. subst U' (sym e) (used_n r)) (λ u. used_old r i u)))
        (used_was r (Or (mate n) (Or n U)) (inr (inl refl)) (inl refl) (λ i u. inr (inr u)))
        (λ i. apart (four o) λ c1 c2 c3 c4 c5 c6 c7 c8 c9 c10 c11 c12. ⊎_elim
        (λ e. rw e (r.next_b ∙ sym (simp upd_same)))
        (⊎_elim (λ e. rw e (next_n ∙ sym (simp (upd_same, upd_off))))
        (λ u. let f = off_n o i u in let g = off_b o i u in split i k
        (λ e. rw e (r.next_k ∙ sym (simp (upd_same, upd_off)))) (λ e. next_o i u e ∙ sym (simp upd_off)))))
        (λ i. apart (four o) λ c1 c2 c3 c4 c5 c6 c7 c8 c9 c10 c11 c12. ⊎_elim
        (λ e. rw e (r.loop_b ∙ sym (simp (upd_same, upd_off))))
        (⊎_elim (λ e. rw e (r.loop_n ∙ sym (simp (upd_same, upd_off))))
        (λ u. let f = off_n o i u in let g = off_b o i u in r.loop i f g ∙ sym (simp upd_off))))

    -- b takes the place of m
    renamed : Cycles N U₁ (λ i. d Next (mate i)) (d Start)
    renamed = rename {φ = fore k n} {ψ = swap_for (mate n) (mate k)} a.verts (record {
      to = fore_in;
      from = fore_out;
      there = λ j u. swap_back (mate n) (mate k) j u.1;
      back = λ i u. swap_back (mate k) (mate n) i (off_b o i u);
      low = λ j u. u.0.0.0;
      high = λ j u. u.0.0.1;
      step = λ i u. sigma_fore i (a.mate_in i u);
      label = start_fore;
    })

    -- m by itself
    with_m : Cycles N (But n U') (upd (λ i. d Next (mate i)) (mate k) (mate k)) (d Start)
    with_m = birth renamed (record {
      fresh = λ u. u.1 refl;
      x_low = o.m_used.0;
      x_high = o.m_used.1;
      old = λ i u. u.0;
      new = (used_old r (mate k) o.m_used, λ z. n≢m o (sym z));
      cases = λ i u. split i (mate k) (λ e. inl e) (λ e. inr (u, e));
      f_x = upd_same _ (mate k) (mate k);
      f_o = λ i e. upd_off _ (mate k) e;
      lab_x = λ i u z. fresh (swap_for (mate n) (mate k) i) (fore_out i u)
          (sym (start_fore (swap_for (mate n) (mate k) i) (fore_out i u))
          ∙ ap (d Start) (swap_back (mate n) (mate k) i u.1) ∙ z ∙ r.start_m);
      lab_o = λ i e. refl;
    })

    -- n after it
    split_verts : Cycles N U' (λ i. d Next (mate i)) (d Start)
    split_verts = insert with_m (record {
      fresh = λ u. u.1 refl;
      x_low = o.n_in.0;
      x_high = o.n_in.1;
      y_in = (used_old r (mate k) o.m_used, λ z. n≢m o (sym z));
      old = λ i u. u.0;
      new = used_n r;
      cases = λ i u. split i n (λ e. inl e) (λ e. inr (u, e));
      f_y = sigma_m;
      f_x = r.next_b ∙ sym (upd_same _ (mate k) (mate k));
      f_o = λ i e f. sym (upd_off _ (mate k) e);
      lab_x = r.start_n ∙ sym r.start_m;
      lab_o = λ i e. refl;
    })

    -- previous of what is read for one in use
    split_undone : (i : ℕ) → U' i → d Prev (d Next i) ≡ i
    split_undone i u = by_next r (λ i. U' i → d Prev (d Next i) ≡ i)
        (λ w. ap (d Prev) r.next_k ∙ r.prev_n)
        (λ w. ap (d Prev) r.next_b ∙ r.prev_m)
        (λ i w _. ap (d Prev) (r.next i w) ∙ r.prev (c Next i) (a.loops.perm.f_in i w)
        ∙ ap (aft k n) (a.undone i w))
        (λ i j z w. absurd (w.2 z)) i (u.0, u.1) u

    -- the rules after the division
    pub split_rules : Rules (2 * sh.edges) mate (HalfUsed sh d) (halves d)
    split_rules = record {
      mate_in = used_was r (λ i. U' (mate i)) (used_b r) (subst U' (sym (mate_mate n)) (used_n r))
          (λ i u. used_old r (mate i) (a.mate_in i u));
      loops = split_loops;
      verts = split_verts;
      undone = split_undone;
    }

  -- ---- from d to c

  module _ (a : Rules (2 * sh.edges) mate (HalfUsed sh d) (halves d)) where
    -- n goes out after k, b before m
    taken : Cycles N (But (mate n) (But n U')) (λ i. swap_for (mate n) (mate k) (out (d Next) n k i)) (d Loop)
    taken = before_out (out_cycles a.loops n k (used_old r k o.k_used) r.next_k (n≢k o)) (mate n) (mate k)
        (used_b r, λ z. n≢b o (sym z)) (upd_off (d Next) (d Next n) (b≢k o) ∙ r.next_b) (b≢m o)

    -- those in use before are those afterwards but the new ones
    old_in : (i : ℕ) → U i → But (mate n) (But n U') i
    old_in i u = ((used_old r i u, off_n o i u), off_b o i u)

    -- and back
    old_out : (i : ℕ) → But (mate n) (But n U') i → U i
    old_out i u = used_was r (λ i. i ≢ n → i ≢ mate n → U i) (λ e f. absurd (e refl)) (λ e f. absurd (f refl))
        (λ i w e f. w) i u.0.0 u.0.1 u.1

    -- that is the loops of c
    join_loops : Cycles N U (c Next) (c Loop)
    join_loops = agree taken old_out old_in
        (λ i u. let w = old_out i u in
        sym (ap (swap_for (mate n) (mate k)) (split i k
        (λ e. upd_at (d Next) (d Next n) e ∙ next_n ∙ ap (λ j. fore k n (c Next j)) (sym e))
        (λ e. upd_off (d Next) (d Next n) e ∙ next_o i w e)) ∙ swap_back (mate k) (mate n) (c Next i)
        (r.next_old i w)))
        (λ i u. sym (r.loop i u.0.1 u.1))

    -- n goes
    pub without_n : Cycles N (But n U') (upd (λ i. d Next (mate i)) (mate k) (mate k)) (d Start)
    without_n = remove a.verts (record {
      y_in = used_old r (mate k) o.m_used;
      f_yx = sigma_m;
      apart = n≢m o;
      old = λ i u e. (u, e);
      in_old = λ i u. u.0;
      not_x = λ u. u.1 refl;
      f_y = upd_same _ (mate k) (mate k) ∙ sym r.next_b;
      f_o = λ i e f. upd_off _ (mate k) e;
      lab_o = λ i e. refl;
    })

    -- then m
    without_m : Cycles N U₁ (λ i. d Next (mate i)) (d Start)
    without_m = death without_n (record {
      x_in = (used_old r (mate k) o.m_used, λ z. n≢m o (sym z));
      f_x = upd_same _ (mate k) (mate k);
      old = λ i u e. (u, e);
      in_old = λ i u. u.0;
      not_x = λ u. u.1 refl;
      f_o = λ i e. sym (upd_off _ (mate k) e);
      lab_o = λ i e. refl;
    })

    -- mates stay in use
    mate_in_c : (i : ℕ) → U i → U (mate i)
    mate_in_c i u =
        let f : mate i ≢ n = λ z. off_b o i u (sym (mate_mate i) ∙ ap mate z) in
        let g : mate i ≢ mate n = λ z. off_n o i u (sym (mate_mate i) ∙ ap mate z ∙ mate_mate n) in
        old_out (mate i) ((a.mate_in i (used_old r i u), f), g)

    -- m takes the place of b
    join_verts : Cycles N U (λ i. c Next (mate i)) (c Start)
    join_verts = rename {φ = swap_for (mate n) (mate k)} {ψ = fore k n} without_m (record {
      to = fore_out;
      from = fore_in;
      there = λ i u. swap_back (mate k) (mate n) i (off_b o i u);
      back = λ j u. swap_back (mate n) (mate k) j u.1;
      low = λ i u. u.0;
      high = λ i u. u.1;
      step = λ j u.
          let i = swap_for (mate n) (mate k) j in
          let w = mate_in_c i (fore_out j u) in
          sym (swap_back (mate k) (mate n) (c Next (mate i)) (r.next_old (mate i) w)) ∙ ap (swap_for (mate n) (mate k))
          (sym (sigma_fore i w) ∙ ap (λ t. d Next (mate t)) (swap_back (mate n) (mate k) j u.1));
      label = λ j u. sym (start_fore (swap_for (mate n) (mate k) j) (fore_out j u))
          ∙ ap (d Start) (swap_back (mate n) (mate k) j u.1);
    })

    -- previous undoes next
    join_undone : (i : ℕ) → U i → c Prev (c Next i) ≡ i
    join_undone i u =
        let w = join_loops.perm.f_in i u in
        let x : d Next (aft k n i) ≡ fore k n (c Next i) = r.next i u in
        sym (swap_back k n (c Prev (c Next i)) (r.prev_old (c Next i) w))
        ∙ ap (swap_for n k) (sym (r.prev (c Next i) w) ∙ ap (d Prev) (sym x) ∙ a.undone (aft k n i) (aft_in i u))
        ∙ swap_back k n i (off_n o i u)
      where
        -- what is read for one in use is in use
        aft_in : (i : ℕ) → U i → U' (aft k n i)
        aft_in i u = split i k (λ e. subst U' (sym (swap_at n e)) (used_n r))
            (λ e. subst U' (sym (swap_off n e)) (used_old r i u))

    -- the rules before the division
    pub join_rules : Rules (2 * sh.edges) mate (HalfUsed sh c) (halves c)
    join_rules = record { mate_in = mate_in_c; loops = join_loops; verts = join_verts; undone = join_undone }
