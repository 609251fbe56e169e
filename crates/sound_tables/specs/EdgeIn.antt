-- An edge goes in, k after p and its mate a after q, on the four columns of the half-edges: loops join (mekr) or part
-- (mef), and the vertices get two more. `Rules` is what rules 4 and 5 say.
use Rattle.std.specs.Prelude.{◌≡◌, refl, ◌≢◌, ℕ, ◌≤◌}
use Rattle.std.proofs.Common.{sym, ap, ◌∙◌, subst, inl, inr, ⊎_elim}
use Rattle.laws.specs.Bools.{eqb_other, split}
use Rattle.laws.specs.Update.{upd, upd_off, upd_same, relabel}
use Rattle.laws.specs.Permutations.{inj, redo, undo_in}
use Rattle.laws.specs.Cycles.{Cycles, agree}
use Rattle.laws.specs.Moves.{Or, ins, xchg, ins_cycles, merge_cycles}

-- the four columns of the half-edges
pub record Halves : Type 0 where
  pub start : ℕ → ℕ
  pub loop : ℕ → ℕ
  pub next : ℕ → ℕ
  pub prev : ℕ → ℕ

-- half-edge i is all zero
pub record Zero (h : Halves) (i : ℕ) : Type 0 where
  pub s : h.start i ≡ 0
  pub l : h.loop i ≡ 0
  pub n : h.next i ≡ 0
  pub p : h.prev i ≡ 0

-- rules 4 and 5: the half-edges in use, U, fall into loops under next and into vertices under next of the mate
pub record Rules (n : ℕ) (mate : ℕ → ℕ) (U : ℕ → Type 0) (h : Halves) : Type 0 where
  pub mate_in : (i : ℕ) → U i → U (mate i)
  pub loops : Cycles n U h.next h.loop
  pub verts : Cycles n U (λ i. h.next (mate i)) h.start
  pub undone : (i : ℕ) → U i → h.prev (h.next i) ≡ i

module _ {n : ℕ} {mate : ℕ → ℕ} {U : ℕ → Type 0} {h : Halves} (r : Rules n mate U h) where
  -- what comes before one in use is in use
  pub prev_in : (i : ℕ) → U i → U (h.prev i)
  prev_in = undo_in r.loops.perm h.prev r.undone

  -- it is followed by that one
  pub next_prev : (i : ℕ) → U i → h.next (h.prev i) ≡ i
  next_prev = redo r.loops.perm h.prev r.undone

  -- and lies in the same loop
  pub prev_loop : (i : ℕ) → U i → h.loop (h.prev i) ≡ h.loop i
  prev_loop i u = sym (r.loops.keeps (h.prev i) (prev_in i u)) ∙ ap h.loop (next_prev i u)

  -- what follows one starts where its mate does
  pub start_mate : ((i : ℕ) → mate (mate i) ≡ i) → (i : ℕ) → U i → h.start (h.next i) ≡ h.start (mate i)
  start_mate mm i u = ap (λ j. h.start (h.next j)) (sym (mm i)) ∙ r.verts.keeps (mate i) (r.mate_in i u)

-- ---- the stores as moves: about any function, and four places that differ

module _ (f : ℕ → ℕ) (k a p q : ℕ) (ka : k ≢ a) (ak : a ≢ k) (kp : k ≢ p) (pk : p ≢ k) (kq : k ≢ q) (qk : q ≢ k)
    (ap' : a ≢ p) (pa : p ≢ a) (aq : a ≢ q) (qa : q ≢ a) (pq : p ≢ q) (qp : q ≢ p) where
  -- a statement about each number: the four, another
  five : (P : ℕ → Type 0) → P k → P a → P p → P q → ((i : ℕ) → i ≢ k → i ≢ a → i ≢ p → i ≢ q → P i) → (i : ℕ) → P i
  five P pk pa pp1 pp2 po i = split i k (λ e. subst P (sym e) pk) λ f1. split i a (λ e. subst P (sym e) pa) λ f2.
      split i p (λ e. subst P (sym e) pp1) λ f3. split i q (λ e. subst P (sym e) pp2) λ f4. po i f1 f2 f3 f4

  -- the four stores are: k goes in after p, a after k, then k and q exchange
  join_moves : (i : ℕ) → upd (upd (upd (upd f p k) k (f q)) q a) a (f p) i ≡ xchg (ins (ins f k p) a k) k q i
  join_moves = five _ (simp (upd_same, upd_off)) (simp (upd_same, upd_off)) (simp (upd_same, upd_off))
      (simp (upd_same, upd_off)) (λ i e1 e2 e3 e4. simp upd_off)

  -- the labels: k and a get p's, then q's cycle gets it
  join_labels : f p ≢ f q → (i : ℕ) → upd (upd (relabel f (f q) (f p)) k (f p)) a (f p) i
      ≡ relabel (upd (upd f k (f p)) a (upd f k (f p) k)) (upd (upd f k (f p)) a (upd f k (f p) k) q)
      (upd (upd f k (f p)) a (upd f k (f p) k) k) i
  unfolding relabel
  join_labels two = five _ (simp (upd_same, upd_off, relabel, eqb_other two))
      (simp (upd_same, upd_off, relabel, eqb_other two)) (simp (upd_same, upd_off, relabel))
      (simp (upd_same, upd_off, relabel)) (λ i e1 e2 e3 e4. simp (upd_same, upd_off, relabel))

-- An edge (k, a) is put in, k after p and a after q: mekr where p and q lie in two loops, mef where they lie in one.
-- The new loop column is given.
abbrev pub joined : Halves → ℕ → ℕ → ℕ → ℕ → (ℕ → ℕ) → Halves
joined h k a p q lab = record {
  start = upd (upd h.start k (h.start (h.next p))) a (h.start (h.next q));
  loop = lab;
  next = upd (upd (upd (upd h.next p k) k (h.next q)) q a) a (h.next p);
  prev = upd (upd (upd (upd h.prev (h.next p) a) a q) (h.next q) k) k p;
}

-- the loop column of mekr
abbrev pub merged : Halves → ℕ → ℕ → ℕ → ℕ → ℕ → ℕ
merged h k a p q = upd (upd (relabel h.loop (h.loop q) (h.loop p)) k (h.loop p)) a (h.loop p)

module _ {n : ℕ} {mate : ℕ → ℕ} {U : ℕ → Type 0} {h : Halves} (r : Rules n mate U h) (mm : (i : ℕ) → mate (mate i) ≡ i)
    (k a p q : ℕ) (k-a : mate k ≡ a) (ka : k ≢ a) (fk : ¬ U k) (fa : ¬ U a) (k1 : 1 ≤ k) (kn : k ≤ n) (a1 : 1 ≤ a)
    (an : a ≤ n) (up : U p) (uq : U q) (pq : p ≢ q) where
  -- one of U is not one outside
  off : {x i : ℕ} → ¬ U x → U i → i ≢ x
  off g u e = g (subst U e u)

  -- the same, the other way round
  ffo : {x i : ℕ} → ¬ U x → U i → x ≢ i
  ffo g u e = g (subst U (sym e) u)

  -- the mate of a is k
  a_k : mate a ≡ k
  a_k = ap mate (sym k-a) ∙ mm k

  -- mates of different ones differ
  mate_inj : {i j : ℕ} → mate i ≡ mate j → i ≡ j
  mate_inj {i} {j} e = sym (mm i) ∙ ap mate e ∙ mm j

  -- any two of k, a, and two different ones of U differ
  with4 : {A : Type 0} (x y : ℕ) → U x → U y → x ≢ y
      → (k ≢ a → a ≢ k → k ≢ x → x ≢ k → k ≢ y → y ≢ k → a ≢ x → x ≢ a → a ≢ y → y ≢ a → x ≢ y → y ≢ x → A) → A
  with4 x y ux uy xy c = c ka (λ e. ka (sym e)) (ffo fk ux) (off fk ux) (ffo fk uy) (off fk uy) (ffo fa ux) (off fa ux)
      (ffo fa uy) (off fa uy) xy (λ e. xy (sym e))

  -- k and a go in one after the other after p; then k and q exchange
  spur : Cycles n (Or a (Or k U)) (ins (ins h.next k p) a k)
      (upd (upd h.loop k (h.loop p)) a (upd h.loop k (h.loop p) k))
  spur = ins_cycles (ins_cycles r.loops k p fk k1 kn up) a k (⊎_elim (λ e. ka (sym e)) fa) a1 an (inl refl)

  -- the stores to next are these moves
  moves : (i : ℕ) → upd (upd (upd (upd h.next p k) k (h.next q)) q a) a (h.next p) i
      ≡ xchg (ins (ins h.next k p) a k) k q i
  moves i = with4 p q up uq pq
      λ c1 c2 c3 c4 c5 c6 c7 c8 c9 c10 c11 c12. join_moves h.next k a p q c1 c2 c3 c4 c5 c6 c7 c8 c9 c10 c11 c12 i

  -- mekr: the loop of q takes the label of p
  pub merged_loops : h.loop p ≢ h.loop q → Cycles n (Or a (Or k U)) (joined h k a p q (merged h k a p q)).next
      (merged h k a p q)
  merged_loops two = with4 p q up uq pq λ c1 c2 c3 c4 c5 c6 c7 c8 c9 c10 c11 c12. agree
      (merge_cycles spur k q (inr (inl refl)) (inr (inr uq)) (simp (upd_same, upd_off) two)) (λ i u. u) (λ i u. u)
      (λ i u. moves i) (λ i u. join_labels h.loop k a p q c1 c2 c3 c4 c5 c6 c7 c8 c9 c10 c11 c12 two i)

  -- the mate of p is in use
  mp : U (mate p)
  mp = r.mate_in p up

  -- and that of q
  mq : U (mate q)
  mq = r.mate_in q uq

  -- they differ
  mpq : mate p ≢ mate q
  mpq e = pq (mate_inj e)

  -- under next of the mate, k goes in after the mate of p, and a after the mate of q
  sigma_moves : (i : ℕ) → (joined h k a p q h.loop).next (mate i) ≡ ins (ins (λ j. h.next (mate j)) k (mate p)) a
      (mate q) i
  sigma_moves i = with4 p q up uq pq λ c1 c2 c3 c4 c5 c6 c7 c8 c9 c10 c11 c12. with4 (mate p) (mate q) mp mq mpq
      λ d1 d2 d3 d4 d5 d6 d7 d8 d9 d10 d11 d12.
      five h.next k a (mate p) (mate q) d1 d2 d3 d4 d5 d6 d7 d8 d9 d10 d11 d12
      (λ i. (joined h k a p q h.loop).next (mate i) ≡ ins (ins (λ j. h.next (mate j)) k (mate p)) a (mate q) i)
      (rw k-a (simp (upd_same, upd_off, mm))) (rw a_k (simp (upd_same, upd_off, mm))) (simp (mm, upd_same, upd_off))
      (simp (mm, upd_same, upd_off)) (λ i e1 e2 e3 e4.
      let f1 : mate i ≢ k = λ e. e2 (sym (mm i) ∙ ap mate e ∙ k-a) in
      let f2 : mate i ≢ a = λ e. e1 (sym (mm i) ∙ ap mate e ∙ a_k) in
      let f3 : mate i ≢ p = λ e. e3 (sym (mm i) ∙ ap mate e) in
      let f4 : mate i ≢ q = λ e. e4 (sym (mm i) ∙ ap mate e) in
      simp upd_off)
      i

  -- so the vertices get k and a
  joined_verts : Cycles n (Or a (Or k U)) (λ i. (joined h k a p q h.loop).next (mate i))
      (joined h k a p q h.loop).start
  joined_verts = with4 (mate p) (mate q) mp mq mpq λ d1 d2 d3 d4 d5 d6 d7 d8 d9 d10 d11 d12. agree
      (ins_cycles (ins_cycles r.verts k (mate p) fk k1 kn mp) a (mate q) (⊎_elim d2 fa) a1 an (inr mq))
      (λ i u. u) (λ i u. u)
      (λ i u. sigma_moves i)
      (λ i u. rw (start_mate r mm p up, start_mate r mm q uq, upd_off h.start {k = k} (h.start (mate p)) d6))

  -- what follows p is in use
  np : U (h.next p)
  np = r.loops.perm.f_in p up

  -- and what follows q
  nq : U (h.next q)
  nq = r.loops.perm.f_in q uq

  -- previous undoes next
  joined_undone : (i : ℕ) → Or a (Or k U) i → (joined h k a p q h.loop).prev ((joined h k a p q h.loop).next i) ≡ i
  joined_undone i = with4 p q up uq pq λ c1 c2 c3 c4 c5 c6 c7 c8 c9 c10 c11 c12. with4 (h.next p) (h.next q) np nq
      (λ e. pq (inj r.loops.perm up uq e)) λ d1 d2 d3 d4 d5 d6 d7 d8 d9 d10 d11 d12.
      five h.next k a p q c1 c2 c3 c4 c5 c6 c7 c8 c9 c10 c11 c12
      (λ i. Or a (Or k U) i → (joined h k a p q h.loop).prev ((joined h k a p q h.loop).next i) ≡ i)
      (λ u. simp (upd_same, upd_off)) (λ u. simp (upd_same, upd_off)) (λ u. simp (upd_same, upd_off))
      (λ u. simp (upd_same, upd_off)) (λ i e1 e2 e3 e4. ⊎_elim (λ e. absurd (e2 e)) (⊎_elim (λ e. absurd (e1 e)) λ u.
      let v = r.loops.perm.f_in i u in
      let f1 : h.next i ≢ k = off fk v in
      let f2 : h.next i ≢ a = off fa v in
      let f3 : h.next i ≢ h.next p = λ e. e3 (inj r.loops.perm u up e) in
      let f4 : h.next i ≢ h.next q = λ e. e4 (inj r.loops.perm u uq e) in
      simp (upd_off, r.undone i u)))
      i

  -- the rules once the edge is in, whatever becomes of the loops
  pub joined_rules : (lab : ℕ → ℕ) → Cycles n (Or a (Or k U)) (joined h k a p q lab).next lab
      → Rules n mate (Or a (Or k U)) (joined h k a p q lab)
  joined_rules lab c = record {
    mate_in = λ i. ⊎_elim (λ e. inr (inl (ap mate e ∙ a_k)))
        (⊎_elim (λ e. inl (ap mate e ∙ k-a)) (λ u. inr (inr (r.mate_in i u))));
    loops = c;
    verts = joined_verts;
    undone = joined_undone;
  }
