-- What semv and jekv store in the list shows as the columns of a division, and of its undoing.
use Rattle.std.specs.Prelude.{◌≡◌, refl, List, ℕ, ◌*◌, ◌≤◌, ℤ}
use Rattle.std.proofs.Common.{sym, ap, ◌∙◌, subst, arith}
use Rattle.laws.specs.Bools.{split}
use Rattle.laws.specs.Update.{upd, upd_at, upd_off}
use Rattle.laws.specs.Cycles.{Cycles}
use Rattle.layout.specs.declared.shape.Shape.{Shape}
use Rattle.layout.specs.Layout.{next_of, set_vertex_used}
use Rattle.layout.specs.Mate.{mate}
use Rattle.euler.specs.Surgery.{lower, renew, inserted, insert_after, tied}
use Rattle.euler.specs.EdgeOperators.{semv_links, jekv_links}
use Rattle.sound_tables.specs.EdgeIn.{next_prev, prev_in}
use Rattle.layout.specs.Fields.{First, Start, Loop, Next, Prev, VertexUsed, Columns}
use Rattle.layout.specs.Writes.{changes}
use Rattle.sound_tables.specs.Cells.{Shows, shows_put}
use Rattle.sound_tables.specs.Sound.{In, HalfUsed, Sound}
use Rattle.sound_tables.specs.Names.{start_unnamed}
use Rattle.sound_tables.specs.FirstLow.{lower_new, first_low_lem}
use Rattle.sound_tables.specs.WriteLaws.{shows_writes}
use Rattle.sound_tables.specs.Shown.{shows_first}
use Rattle.sound_splits.specs.CycleMoves.{swap_for, swap_at, swap_off}
use Rattle.sound_splits.specs.Firsts.{closing}
use Rattle.sound_splits.specs.Relation.{Tidy, Place, aft, Split, loop_old, used_old}
use Rattle.sound_splits.specs.SplitRules.{split_rules, join_rules}
use Rattle.sound_splits.specs.SemvColumns.{with_after, semv_columns, first_next, first_prev, next_in}
use Rattle.sound_splits.specs.SemvColumns.{semv_split}
use Rattle.sound_splits.specs.JekvColumns.{Joint, jekv_writes, jekv_columns, n_used, b_used, m_used, q_used}
use Rattle.sound_splits.specs.JekvColumns.{jekv_split}

-- a half-edge goes in after k, which A followed
shows_after : {sh : Shape} {x : List ℕ} {c : Columns} → Shows sh x c → (k n v l A : ℕ) → c Next k ≡ A
    → In (2 * sh.edges) k → In (2 * sh.edges) n → In (2 * sh.edges) A
    → Shows sh (insert_after sh x k n v l) (with_after c k n v l A)
shows_after {sh} {x} s k n v l A e ik jn ia =
    let q : next_of sh x k ≡ A = s.at Next k ik.1 ∙ e in
    rw q (shows_writes (inserted k n v l A) s (jn, (jn, (jn, (jn, (ik, (ia, tt)))))))

-- two loops get their firsts anew, and a vertex its mark
shows_close : {sh : Shape} {y : List ℕ} {H : Columns} {U : ℕ → Type 0} → Shows sh y H → (k m l1 low1 l2 low2 v t : ℕ)
    → In sh.loops l1 → In sh.loops l2 → In sh.vertices v
    → Cycles (2 * sh.edges) U (H Next) (H Loop) → U k → U m → H Loop k ≡ l1 → H Loop m ≡ l2
    → ((i l : ℕ) → 1 ≤ l → In (2 * sh.edges) i → H Loop i ≡ l → U i)
    → ((i : ℕ) → In (2 * sh.edges) i → H Loop i ≡ l1 → low1 ≤ i)
    → ((i : ℕ) → In (2 * sh.edges) i → H Loop i ≡ l2 → low2 ≤ i)
    → Shows sh (set_vertex_used sh (renew sh (renew sh y l1 low1 k 0) l2 low2 m 0) v t)
    (changes (closing sh H l1 l2 v t) H)
shows_close s k m l1 low1 l2 low2 v t i1 i2 iv cy uk um e1 e2 all h1 h2 =
    shows_put
    (shows_first (shows_first s l1 low1 k 0 i1 cy uk e1 (λ i j e. all i l1 i1.0 j e) h1) l2 low2 m 0 i2 cy um e2
    (λ i j e. all i l2 i2.0 j e) h2)
    VertexUsed v t iv.0 iv.1

-- what names a loop is in use
in_use : {sh : Shape} (c : Columns) → Tidy sh c → (i l : ℕ) → 1 ≤ l → In (2 * sh.edges) i → c Loop i ≡ l
    → HalfUsed sh c i
in_use c t i l h j e = (j.0, j.1, λ z. omega (arith, h, e, (t.half i j z).loop))

-- ---- semv

-- the list after semv
pub semv_shows : {sh : Shape} {x : List ℕ} {p : List ℤ} {c : Columns} {k n v : ℕ} → Shows sh x c → Sound sh p c
    → Place sh c k n v
    → Shows sh (semv_links sh x k n v) (semv_columns sh c k n v (aft k n (c Prev (mate k))))
unfolding semv_links
semv_shows {sh} {x} {c = c} {k} {n} {v} s a o =
    let q = aft k n (c Prev (mate k)) in
    let ik : In (2 * sh.edges) k = (o.k_used.0, o.k_used.1) in
    let im : In (2 * sh.edges) (mate k) = (o.m_used.0, o.m_used.1) in
    let A = next_in a o k o.k_used in
    let P = prev_in a.rules (mate k) o.m_used in
    let iq : In (2 * sh.edges) q = split (c Prev (mate k)) k
    (λ e. subst (In (2 * sh.edges)) (sym (swap_at n e)) o.n_in)
    (λ e. subst (In (2 * sh.edges)) (sym (swap_off n e)) (P.0, P.1)) in
    let s1 = shows_after s k n v (c Loop k) (c Next k) refl ik o.n_in (A.0, A.1) in
    let s2 = shows_after s1 q (mate n) (c Start (mate k)) (c Loop (mate k)) (mate k)
    (first_next a o (c Prev (mate k)) P ∙ next_prev a.rules (mate k) o.m_used) iq o.b_in im in
    let s3 = shows_put s2 Start (mate k) v im.0 im.1 in
    let r = semv_split a o in
    let rules = split_rules r a.rules (λ i u. start_unnamed a v o.v_in o.v_free i (u.0, u.1)) in
    let h1 = a.half k ik o.k_used.2 in
    let h2 = a.half (mate k) im o.m_used.2 in
    let e = s1.at Prev (mate k) im.1 ∙ first_prev a o (mate k) o.m_used in
    let f1 = s.at First (c Loop k) h1.loop_in.1 in
    let f2 = s.at First (c Loop (mate k)) h2.loop_in.1 in
    rw (s.at Loop k ik.1, s.at Loop (mate k) im.1, s.at Start (mate k) im.1, e, f1, f2)
    (shows_close {U = HalfUsed sh (semv_columns sh c k n v q)} s3 k (mate k) (c Loop k) _ (c Loop (mate k)) _ v 1
    h1.loop_in h2.loop_in o.v_in rules.loops
    (used_old r k o.k_used) (used_old r (mate k) o.m_used) (loop_old r k o.k_used)
    (loop_old r (mate k) o.m_used) (in_use _ r.tidy_d)
    (low r (c Loop k) h1.loop_in.0) (low r (c Loop (mate k)) h2.loop_in.0))
  where
    -- no half-edge of a loop is below its old first and the new half-edges
    low : {d : Columns} → Split sh c d k n v → (l : ℕ) → 1 ≤ l → (i : ℕ) → In (2 * sh.edges) i → d Loop i ≡ l
        → lower (c First l) (lower n (mate n)) ≤ i
    low r l h i j z = lower_new (c First l) n (mate n) i o.n_in.0
        (λ f g. first_low_lem a l i h j (sym (r.loop i f g) ∙ z))

-- ---- jekv

-- the list after jekv
pub jekv_shows : {sh : Shape} {x : List ℕ} {p : List ℤ} {d : Columns} {k n : ℕ} → Shows sh x d → Sound sh p d
    → Joint sh d k n
    → Shows sh (jekv_links sh x k n) (jekv_columns sh d k n (swap_for n k (d Prev (mate n))))
unfolding jekv_links
jekv_shows {sh} {x} {d = d} {k} {n} s a o =
    let q = swap_for n k (d Prev (mate n)) in
    let ik : In (2 * sh.edges) k = (o.k_used.0, o.k_used.1) in
    let mu = m_used a o in
    let nu = n_used a o in
    let bu = b_used a o in
    let qu = q_used a o in
    let A = a.rules.loops.perm.f_in n nu in
    let im : In (2 * sh.edges) (mate k) = (mu.0, mu.1) in
    let jn : In (2 * sh.edges) n = (nu.0, nu.1) in
    let ib : In (2 * sh.edges) (mate n) = (bu.0, bu.1) in
    let s1 = shows_writes (tied k (d Next n)) s (ik, ((A.0, A.1), tt)) in
    let s4 = shows_writes (jekv_writes d k n q) s
    (ik, ((A.0, A.1), ((qu.0, qu.1), (im, (im, (jn, (jn, (jn, (jn, (ib, (ib, (ib, (ib, tt))))))))))))) in
    let r = jekv_split a o in
    let h1 = a.half k ik o.k_used.2 in
    let h2 = a.half (mate k) im mu.2 in
    let h = a.half n jn nu.2 in
    let e = s1.at Prev (mate n) ib.1 ∙ before nu bu in
    let w = r.place in
    let l1 = s.at Loop k ik.1 in
    let l2 = s.at Loop (mate k) im.1 in
    let f1 = s.at First (d Loop k) h1.loop_in.1 in
    let f2 = s.at First (d Loop (mate k)) h2.loop_in.1 in
    rw (l1, l2, s.at Start (mate n) ib.1, s.at Start n jn.1, s.at Next n jn.1, e, f1, f2)
    (shows_close {U = HalfUsed sh (jekv_columns sh d k n q)} s4 k (mate k) (d Loop k) (d First (d Loop k))
    (d Loop (mate k)) (d First (d Loop (mate k))) (d Start n) 0 h1.loop_in h2.loop_in h.start_in
    (join_rules r a.rules).loops
    w.k_used w.m_used (sym (loop_old r k w.k_used)) (sym (loop_old r (mate k) w.m_used))
    (in_use _ r.tidy_c)
    (low r (d Loop k) h1.loop_in.0) (low r (d Loop (mate k)) h2.loop_in.0))
  where
    -- no half-edge of a loop is below its old first
    low : {c : Columns} {v : ℕ} → Split sh c d k n v → (l : ℕ) → 1 ≤ l → (i : ℕ) → In (2 * sh.edges) i → c Loop i ≡ l
        → d First l ≤ i
    low r l h i j z = (first_low_lem a l i h j (loop_old r i (in_use _ r.tidy_c i l h j z) ∙ z)).1

    -- what comes before n's mate once k is joined
    before : HalfUsed sh d n → HalfUsed sh d (mate n) → upd (d Prev) (d Next n) k (mate n) ≡ swap_for n k
        (d Prev (mate n))
    before nu bu = split (mate n) (d Next n)
        (λ e. upd_at (d Prev) k e ∙ sym (swap_at k (ap (d Prev) e ∙ a.rules.undone n nu)))
        (λ e. upd_off (d Prev) k e ∙ sym (swap_off k (λ z. e (sym (next_prev a.rules (mate n) bu) ∙ ap (d Next) z))))
