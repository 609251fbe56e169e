-- Rules 4 and 5 when a spur goes out: k, its mate a just after it, p before k. Both leave their loop; a is alone at its
-- vertex, which goes with it. Where p is a, the two were the whole loop, and k was alone at its vertex too.
use Rattle.std.specs.Prelude.{◌≡◌, ◌≢◌, ℕ}
use Rattle.std.proofs.Common.{sym, ap, ◌∙◌, subst}
use Rattle.laws.specs.Bools.{split}
use Rattle.laws.specs.Update.{upd, upd_same, upd_off}
use Rattle.laws.specs.Permutations.{Perm, inj}
use Rattle.laws.specs.Cycles.{Cycles, agree}
use Rattle.laws.specs.Moves.{But, out_cycles}
use Rattle.sound_tables.specs.LoneCycles.{death_cycles}
use Rattle.sound_tables.specs.EdgeIn.{Halves, Rules}

-- the columns h' afterwards: but for k and a, p is followed by what a was followed by
pub record SpurOut (h h' : Halves) (k a p : ℕ) : Type 0 where
  pub start : (i : ℕ) → i ≢ k → i ≢ a → h'.start i ≡ h.start i
  pub loop : (i : ℕ) → i ≢ k → i ≢ a → h'.loop i ≡ h.loop i
  pub next : (i : ℕ) → i ≢ k → i ≢ a → h'.next i ≡ upd h.next p (h.next a) i
  pub prev : (i : ℕ) → i ≢ k → i ≢ a → h'.prev i ≡ upd h.prev (h.next a) p i

module _ {n : ℕ} {mate : ℕ → ℕ} {U : ℕ → Type 0} {h h' : Halves} (r : Rules n mate U h)
    (mm : (i : ℕ) → mate (mate i) ≡ i)
    (k a p : ℕ) (k-a : mate k ≡ a) (ka : k ≢ a) (uk : U k) (up : U p) (pk : h.next p ≡ k) (nka : h.next k ≡ a)
    (s : SpurOut h h' k a p) where
  -- next is a permutation
  P : Perm n U h.next
  P = r.loops.perm

  -- a is in use
  ua : U a
  ua = subst U nka (P.f_in k uk)

  -- a is not k
  ak : a ≢ k
  ak e = ka (sym e)

  -- k is the mate of a
  a_k : mate a ≡ k
  a_k = ap mate (sym k-a) ∙ mm k

  -- k is not before itself
  kp : k ≢ p
  kp e = ka (sym pk ∙ ap h.next (sym e) ∙ nka)

  -- what follows a is not a
  na : h.next a ≢ a
  na e = ka (inj P uk ua (nka ∙ sym e))

  -- the mate of another than a is not k
  mate_k : (i : ℕ) → i ≢ a → mate i ≢ k
  mate_k i f e = f (sym (mm i) ∙ ap mate e ∙ k-a)

  -- the mate of another than k is not a
  mate_a : (i : ℕ) → i ≢ k → mate i ≢ a
  mate_a i f e = f (sym (mm i) ∙ ap mate e ∙ a_k)

  -- a leaves its loop
  without_a : Cycles n (But a U) (upd h.next k (h.next a)) h.loop
  without_a = out_cycles r.loops a k uk nka ak

  -- then k
  out_loops : Cycles n (But k (But a U)) h'.next h'.loop
  out_loops = split p a
      (λ e. agree (death_cycles without_a k (uk, ka) (upd_same _ k _ ∙ ap h.next (sym e) ∙ pk)) (λ i w. w) (λ i w. w)
      (λ i w. s.next i w.1 w.0.1 ∙ upd_off _ _ (λ z. w.0.1 (z ∙ e)) ∙ sym (upd_off _ _ w.1))
      (λ i w. s.loop i w.1 w.0.1))
      (λ e. agree (out_cycles without_a k p (up, e) (upd_off _ _ (λ z. kp (sym z)) ∙ pk) kp) (λ i w. w) (λ i w. w)
      (λ i w. s.next i w.1 w.0.1 ∙ split i p
      (λ z. rw z (upd_same _ p _ ∙ sym (upd_same _ p _ ∙ upd_same _ k _)))
      (λ z. upd_off _ _ z ∙ sym (upd_off _ _ z ∙ upd_off _ _ w.1))) (λ i w. s.loop i w.1 w.0.1))

  -- a leaves its vertex, where it was alone
  vertex_without_a : Cycles n (But a U) (λ i. h.next (mate i)) h.start
  vertex_without_a = death_cycles r.verts a ua (ap h.next a_k ∙ nka)

  -- then k
  out_verts : Cycles n (But k (But a U)) (λ i. h'.next (mate i)) h'.start
  out_verts = split p a
      (λ e. agree (death_cycles vertex_without_a k (uk, ka) (ap h.next (k-a ∙ sym e) ∙ pk)) (λ i w. w) (λ i w. w)
      (λ i w. s.next (mate i) (mate_k i w.0.1) (mate_a i w.1) ∙ upd_off _ _ (λ z. mate_a i w.1 (z ∙ e)))
      (λ i w. s.start i w.1 w.0.1))
      (λ e. agree (out_cycles vertex_without_a k (mate p) (r.mate_in p up, mate_a p (λ z. kp (sym z)))
      (ap h.next (mm p) ∙ pk) (λ z. mate_k p e (sym z))) (λ i w. w) (λ i w. w)
      (λ i w. s.next (mate i) (mate_k i w.0.1) (mate_a i w.1) ∙ split i (mate p)
      (λ z. rw (z, mm p) (upd_same _ p _ ∙ sym (upd_same _ (mate p) _ ∙ ap h.next k-a)))
      (λ z. upd_off _ _ (λ y. z (sym (mm i) ∙ ap mate y)) ∙ sym (upd_off _ _ z))) (λ i w. s.start i w.1 w.0.1))

  -- previous undoes next
  out_undone : (i : ℕ) → But k (But a U) i → h'.prev (h'.next i) ≡ i
  out_undone i w = split i p
      (λ e.
      let f : h.next a ≢ k = λ z. w.0.1 (e ∙ inj P up ua (pk ∙ sym z)) in
      ap h'.prev (s.next i w.1 w.0.1 ∙ rw e (upd_same _ p _)) ∙ s.prev (h.next a) f na ∙ upd_same _ _ p
      ∙ sym e)
      (λ e.
      let f : h.next i ≢ k = λ z. e (inj P w.0.0 up (z ∙ sym pk)) in
      let g : h.next i ≢ a = λ z. w.1 (inj P w.0.0 uk (z ∙ sym nka)) in
      let j : h.next i ≢ h.next a = λ z. w.0.1 (inj P w.0.0 ua z) in
      ap h'.prev (s.next i w.1 w.0.1 ∙ upd_off _ _ e) ∙ s.prev (h.next i) f g ∙ upd_off _ p j
      ∙ r.undone i w.0.0)

  -- the rules once both are out
  pub spur_out : Rules n mate (But k (But a U)) h'
  spur_out = record {
    mate_in = λ i w. ((r.mate_in i w.0.0, mate_a i w.1), mate_k i w.0.1);
    loops = out_loops;
    verts = out_verts;
    undone = out_undone;
  }
