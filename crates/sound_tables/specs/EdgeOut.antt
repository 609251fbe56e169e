-- An edge comes out, k after p and its mate a after q, on the four columns of the half-edges: loops part (kemr) or join
-- (kef), and the vertices lose two.
use Rattle.std.specs.Prelude.{◌≡◌, ◌≢◌, ℕ}
use Rattle.std.proofs.Common.{sym, ap, ◌∙◌, subst}
use Rattle.laws.specs.Update.{Apart, apart, upd, upd_off, upd_same}
use Rattle.laws.specs.Bools.{split}
use Rattle.laws.specs.Permutations.{Perm, inj}
use Rattle.laws.specs.Cycles.{Cycles, agree}
use Rattle.laws.specs.Exchange.{Till}
use Rattle.laws.specs.Moves.{But, xchg, out_cycles, halve_cycles}
use Rattle.sound_tables.specs.EdgeIn.{Halves, Rules}

-- k comes after p and its mate a after q. The new loop column is given: what is asked of it stands below.
abbrev pub parted : Halves → ℕ → ℕ → ℕ → ℕ → (ℕ → ℕ) → Halves
parted h k a p q lab = record {
  start = upd (upd h.start k 0) a 0;
  loop = upd (upd lab k 0) a 0;
  next = upd (upd (upd (upd h.next p (h.next a)) q (h.next k)) k 0) a 0;
  prev = upd (upd (upd (upd h.prev (h.next a) p) (h.next k) q) k 0) a 0;
}

module _ {n : ℕ} {mate : ℕ → ℕ} {U : ℕ → Type 0} {h : Halves} (r : Rules n mate U h) (mm : (i : ℕ) → mate (mate i) ≡ i)
    (k a p q : ℕ) (k-a : mate k ≡ a) (ka : k ≢ a) (uk : U k) (up : U p) (uq : U q) (pk : h.next p ≡ k)
    (qa : h.next q ≡ a) (p≢a : p ≢ a) (q≢k : q ≢ k) (kp : k ≢ p) (aq : a ≢ q) where
  -- next is a permutation
  P : Perm n U h.next
  P = r.loops.perm

  -- a is in use
  ua : U a
  ua = subst U k-a (r.mate_in k uk)

  -- its mate is k
  a_k : mate a ≡ k
  a_k = ap mate (sym k-a) ∙ mm k

  -- mates of different ones differ
  mate_inj : {i j : ℕ} → mate i ≡ mate j → i ≡ j
  mate_inj {i} {j} e = sym (mm i) ∙ ap mate e ∙ mm j

  -- k is not q
  kq : k ≢ q
  kq e = q≢k (sym e)

  -- a is not p
  ap' : a ≢ p
  ap' e = p≢a (sym e)

  -- p is not q
  pq : p ≢ q
  pq e = ka (sym pk ∙ ap h.next e ∙ qa)

  -- all four differ
  A4 : Apart k a p q
  A4 = record { ka = ka; kp = kp; kq = kq; ap = ap'; aq = aq; pq = pq }

  -- a statement about each half-edge that stays: p, q, another
  three : (Q : ℕ → Type 0) → Q p → Q q → ((i : ℕ) → U i → i ≢ k → i ≢ a → i ≢ p → i ≢ q → Q i) → (i : ℕ)
      → But k (But a U) i → Q i
  three Q qp qq qo i u = split i p (λ e. subst Q (sym e) qp) λ f1. split i q (λ e. subst Q (sym e) qq) λ f2. qo i
      u.0.0 u.1 u.0.1 f1 f2

  -- after k and q have exchanged what they go to, a goes out after k, and k after p
  taken_out : {lab : ℕ → ℕ} → Cycles n U (xchg h.next k q) lab
      → Cycles n (But k (But a U)) (parted h k a p q lab).next (parted h k a p q lab).loop
  taken_out c = apart A4 λ c1 c2 c3 c4 c5 c6 c7 c8 c9 c10 c11 c12. agree
      (out_cycles (out_cycles c a k uk (simp (upd_same, upd_off) qa) c2) k p (up, c8) (simp upd_off pk) c3)
      (λ i u. u) (λ i u. u)
      (three _ (simp (upd_same, upd_off)) (simp (upd_same, upd_off)) (λ i u e1 e2 e3 e4. simp upd_off))
      (three _ (simp upd_off) (simp upd_off) (λ i u e1 e2 e3 e4. simp upd_off))

  -- kemr
  pub kemr_loops : h.loop k ≡ h.loop a → (d : ℕ) → ((i : ℕ) → U i → h.loop i ≢ d) → (lab : ℕ → ℕ)
      → ((i : ℕ) → U i → Till h.next k q i → lab i ≡ d)
      → ((i : ℕ) → U i → Till h.next q k i → lab i ≡ h.loop i)
      → ((i : ℕ) → U i → h.loop i ≢ h.loop k → lab i ≡ h.loop i)
      → Cycles n (But k (But a U)) (parted h k a p q lab).next (parted h k a p q lab).loop
  kemr_loops one d fresh lab run rest far =
      taken_out (halve_cycles r.loops k q d lab uk uq kq
      (one ∙ ap h.loop (sym qa) ∙ r.loops.keeps q uq) fresh run rest far)

  -- and so do their mates
  mates : Apart k a (mate q) (mate p)
  mates = record {
    ka = ka;
    kp = λ e. aq (sym k-a ∙ ap mate e ∙ mm q);
    kq = λ e. ap' (sym k-a ∙ ap mate e ∙ mm p);
    ap = λ e. kq (sym a_k ∙ ap mate e ∙ mm q);
    aq = λ e. kp (sym a_k ∙ ap mate e ∙ mm p);
    pq = λ e. pq (sym (mate_inj e));
  }

  -- the vertices lose k and a
  parted_verts : Cycles n (But k (But a U)) (λ i. (parted h k a p q h.loop).next (mate i))
      (parted h k a p q h.loop).start
  parted_verts = apart A4 λ c1 c2 c3 c4 c5 c6 c7 c8 c9 c10 c11 c12. apart mates
      λ d1 d2 d3 d4 d5 d6 d7 d8 d9 d10 d11 d12. agree
      (out_cycles (out_cycles r.verts a (mate q) (r.mate_in q uq) (ap h.next (mm q) ∙ qa) d7) k (mate p)
      (r.mate_in p up, d10) (upd_off _ _ d12 ∙ ap h.next (mm p) ∙ pk) d5)
      (λ i u. u) (λ i u. u)
      (λ i u. split i (mate p) (λ e. rw e (simp (mm, upd_same, upd_off, a_k, k-a))) λ f1. split i (mate q)
      (λ e. rw e (simp (mm, upd_same, upd_off, a_k, k-a))) λ f2.
      let g1 : mate i ≢ p = λ e. f1 (sym (mm i) ∙ ap mate e) in
      let g2 : mate i ≢ q = λ e. f2 (sym (mm i) ∙ ap mate e) in
      let g3 : mate i ≢ k = λ e. u.0.1 (sym (mm i) ∙ ap mate e ∙ k-a) in
      let g4 : mate i ≢ a = λ e. u.1 (sym (mm i) ∙ ap mate e ∙ a_k) in
      simp upd_off)
      (λ i u. let g1 = u.1 in let g2 = u.0.1 in simp upd_off)

  -- previous undoes next
  parted_undone : (i : ℕ) → But k (But a U) i → (parted h k a p q h.loop).prev ((parted h k a p q h.loop).next i)
      ≡ i
  parted_undone = apart A4 λ c1 c2 c3 c4 c5 c6 c7 c8 c9 c10 c11 c12.
      let n1 : h.next a ≢ h.next k = λ e. c2 (inj P ua uk e) in
      let n2 : h.next k ≢ h.next a = λ e. c1 (inj P uk ua e) in
      let n3 : h.next a ≢ k = λ e. c7 (inj P ua up (e ∙ sym pk)) in
      let n4 : h.next a ≢ a = λ e. c9 (inj P ua uq (e ∙ sym qa)) in
      let n5 : h.next k ≢ k = λ e. c3 (inj P uk up (e ∙ sym pk)) in
      let n6 : h.next k ≢ a = λ e. c5 (inj P uk uq (e ∙ sym qa)) in
      three _ (simp (upd_same, upd_off)) (simp (upd_same, upd_off)) (λ i u e1 e2 e3 e4.
      let m1 : h.next i ≢ k = λ e. e3 (inj P u up (e ∙ sym pk)) in
      let m2 : h.next i ≢ a = λ e. e4 (inj P u uq (e ∙ sym qa)) in
      let m3 : h.next i ≢ h.next a = λ e. e2 (inj P u ua e) in
      let m4 : h.next i ≢ h.next k = λ e. e1 (inj P u uk e) in
      simp (upd_off, r.undone i u))

  -- the rules once the edge is out, whatever becomes of the loops
  pub parted_rules : (lab : ℕ → ℕ) → Cycles n (But k (But a U)) (parted h k a p q lab).next
      (parted h k a p q lab).loop → Rules n mate (But k (But a U)) (parted h k a p q lab)
  parted_rules lab c = record {
    mate_in =
        λ i u. (
          (r.mate_in i u.0.0, λ e. u.1 (sym (mm i) ∙ ap mate e ∙ a_k)),
          λ e. u.0.1 (sym (mm i) ∙ ap mate e ∙ k-a),
        );
    loops = c;
    verts = parted_verts;
    undone = parted_undone;
  }
