-- kemr: the rules with dummies once the bridge is out. A dummy goes in after each half of the edge (`KemrDummies`); the
-- edge comes out; then each dummy that is not alone is passed over. What comes out has the start, loop and next of c;
-- previous undoes next in c itself.
use Rattle.std.specs.Prelude.{◌≡◌, refl, ◌≢◌, List, ℕ, ◌-◌, ℤ}
use Rattle.std.proofs.Common.{sym, ap, ◌∙◌, subst, inl, inr, ⊎_elim, arith}
use Rattle.laws.specs.Bools.{split}
use Rattle.laws.specs.Update.{upd, upd_same, upd_off}
use Rattle.laws.specs.Permutations.{Perm, inj}
use Rattle.laws.specs.Moves.{But}
use Rattle.layout.specs.declared.shape.Shape.{Shape}
use Rattle.layout.specs.Mate.{mate}
use Rattle.layout.specs.Fields.{Face, Isolated, Start, Loop, Next, Columns}
use Rattle.sound_tables.specs.Mates.{mate⁺_low, mate⁺_mate⁺}
use Rattle.sound_tables.specs.EdgeIn.{Halves, prev_in}
use Rattle.sound_tables.specs.EdgeOut.{parted, kemr_loops, parted_rules}
use Rattle.sound_tables.specs.Sound.{HalfUsed, Sound}
use Rattle.sound_tables.specs.WithDummies.{up_to_low, up_to_high, extended, Dummy, Member, dummy_loop}
use Rattle.sound_bridges.specs.PassedOver.{passed, pass_off, pass_one, pass_two, Left, pass_rules, Rules⁺, Undoes}
use Rattle.sound_bridges.specs.PassedOver.{undoes, table_rules}
use Rattle.sound_bridges.specs.CornerMembers.{Seat, seat, not_dummy, off_P, far_y, dummy_seat}
use Rattle.sound_bridges.specs.KemrDummies.{one_in, both_in, Wide, high_1, high_2, N1_low, N2_low, own_1, own_2}
use Rattle.sound_bridges.specs.KemrDummies.{went_a, went_k, goes_k, goes_a, goes_D1, goes_D2, goes_o, names_k}
use Rattle.sound_bridges.specs.KemrDummies.{names_a, names_D1, names_D2, names_o, wide_rules, each}
use Rattle.sound_bridges.specs.Runs.{till_same}
use Rattle.sound_bridges.specs.Relation.{Corner, real_before, Bridge, derived, corner1, corner2}
use Rattle.sound_bridges.specs.Relation.{Bridged, ka, off_k, off_a, mem_k, mem_a, low_1, low_2, D21, D12, new_k}
use Rattle.sound_bridges.specs.Relation.{new_a, half_stays, half_back, dummy_stays, dummy_was}

module _ {sh : Shape} {pt : List ℤ} {c d : Columns} {B : Bridge} (A : Sound sh pt d) (b : Bridged sh c d B) where
  open derived sh B use {n, a, D1, D2}
  open B use {k, l, l2, P1, N1, P2, N2}
  open b.ends use {half_in, mate_in, loop_in, ring_in, two, at_1, at_2, in_1, in_2, keeps}
  open b use {start_k, start_a, start_o, loop_2, loop_o, next_k, next_a, next_1, next_2, next_o, prev_k}
  open b use {prev_a, prev_o, face_2, isolated_o}

  -- the columns with dummies afterwards
  abbrev H : Halves
  H = extended sh c

  -- the columns before, with both dummies in
  abbrev G : Halves
  G = both_in sh d B

  -- the members then
  abbrev W : ℕ → Type 0
  W = Wide sh d B

  -- their rules
  R : Rules⁺ sh W G
  R = wide_rules b A

  -- next permutes the half-edges in use before
  perm : Perm n (HalfUsed sh d) (d Next)
  perm = A.rules.loops.perm

  -- in c previous undoes next
  c_undone : (i : ℕ) → HalfUsed sh c i → Undoes sh c i
  c_undone i w = split i P1
      (λ e. let r = real_before at_1 (λ z. off_a b i w (e ∙ z)) in
      undoes sh c (ap (c Next) e ∙ r.next) r.after.1 (r.prev ∙ sym e))
      (λ e. split i P2
      (λ f. let r = real_before at_2 (λ z. off_k b i w (f ∙ z)) in
      undoes sh c (ap (c Next) f ∙ r.next) r.after.1 (r.prev ∙ sym f))
      (λ f.
      let v = half_stays b i w in
      let ik = off_k b i w in
      let ia = off_a b i w in
      let p1 = subst (HalfUsed sh d) prev_k (prev_in A.rules k (new_k b)) in
      let p2 = subst (HalfUsed sh d) prev_a (prev_in A.rules a (new_a b)) in
      undoes sh c (sym (next_o i ik ia e f)) (perm.f_in i v).1
      (sym (prev_o (d Next i) (λ z. e (inj perm v p1 (z ∙ sym next_1))) (λ z. f (inj perm v p2 (z ∙ sym next_2)))
      (λ z. ia (inj perm v (new_a b) (z ∙ sym next_a))) (λ z. ik (inj perm v (new_k b) (z ∙ sym next_k))))
      ∙ A.rules.undone i v)))

  module _ (t1 : Seat sh c (corner1 B)) (t2 : Seat sh c (corner2 B)) where
    -- what comes before the corner of the loop
    abbrev p : ℕ
    p = t1.y

    -- what comes before the corner of the ring
    abbrev q : ℕ
    q = t2.y

    -- ---- the labels afterwards

    -- what k and its mate have does not count
    abbrev lab : ℕ → ℕ
    lab = upd (upd (extended sh c).loop k l) (mate k) l

    -- away from the edge
    lab_o : (i : ℕ) → i ≢ k → i ≢ a → lab i ≡ H.loop i
    lab_o i e f = upd_off _ _ f ∙ upd_off _ _ e

    -- of a member
    lab_m : (i : ℕ) → Member sh c i → lab i ≡ H.loop i
    lab_m i w = lab_o i (mem_k b i w) (mem_a b i w)

    -- of k
    lab_k : lab k ≡ l
    lab_k = upd_off _ _ (ka b) ∙ upd_same _ k l

    -- of its mate
    lab_a : lab a ≡ l
    lab_a = upd_same _ a l

    -- of the first dummy
    lab_D1 : lab D1 ≡ l
    lab_D1 = lab_o D1 (high_1 b half_in.1) (high_1 b mate_in.1) ∙ dummy_loop sh c l loop_in

    -- of the second
    lab_D2 : lab D2 ≡ l2
    lab_D2 = lab_o D2 (high_2 b half_in.1) (high_2 b mate_in.1) ∙ dummy_loop sh c l2 ring_in

    -- of a half-edge that stays
    lab_half : (i : ℕ) → HalfUsed sh c i → lab i ≡ c Loop i
    lab_half i w = lab_m i (inl w) ∙ up_to_low n (c Loop) _ i w.1

    -- ---- the runs

    -- a half-edge of c goes on as in d
    goes_half : (i : ℕ) → HalfUsed sh c i → G.next i ≡ d Next i
    goes_half i w = goes_o b i (off_k b i w) (off_a b i w) (low_1 b w.1) (low_2 b w.1)
        ∙ up_to_low n (d Next) _ i w.1

    -- p is there
    p_in : W p
    p_in = ⊎_elim (λ r. inr (inl r.0))
        (λ r. inr (inr (inl (half_stays b p (subst (HalfUsed sh c) (sym r.0) r.2))))) t1.which

    -- and q
    q_in : W q
    q_in = ⊎_elim (λ r. inl r.0) (λ r. inr (inr (inl (half_stays b q (subst (HalfUsed sh c) (sym r.0) r.2)))))
        t2.which

    -- p goes to k
    goes_p : G.next p ≡ k
    goes_p = ⊎_elim (λ r. ap G.next r.0 ∙ goes_D1 b ∙ r.3)
        (λ r. ap G.next r.0 ∙ goes_half P1 r.2 ∙ next_1) t1.which

    -- q to the mate
    goes_q : G.next q ≡ a
    goes_q = ⊎_elim (λ r. ap G.next r.0 ∙ goes_D2 b ∙ r.3)
        (λ r. ap G.next r.0 ∙ goes_half P2 r.2 ∙ next_2) t2.which

    -- they differ
    pq : p ≢ q
    pq e = ka b (sym goes_p ∙ ap G.next e ∙ goes_q)

    -- a half-edge of c goes on in c, away from the corners
    step : (i : ℕ) → HalfUsed sh c i → i ≢ p → i ≢ q → (d Next i ≡ c Next i) × HalfUsed sh c (d Next i)
    step i w e f =
        let g = goes_half i w in
        let v : W i = inr (inr (inl (half_stays b i w))) in (
          next_o i (off_k b i w) (off_a b i w) (off_P t1 (off_a b i w) e) (off_P t2 (off_k b i w) f),
          half_back b (d Next i) (perm.f_in i (half_stays b i w))
              (λ z. e (inj R.loops.perm v p_in (g ∙ z ∙ sym goes_p)))
              (λ z. f (inj R.loops.perm v q_in (g ∙ z ∙ sym goes_q))),
        )

    -- no step changes the labels but those from k and from q
    keep : (i : ℕ) → W i → i ≢ k → i ≢ q → lab (G.next i) ≡ lab i
    keep = each b (λ i. i ≢ k → i ≢ q → lab (G.next i) ≡ lab i)
        (λ e f. absurd (e refl))
        (λ e f. ap lab (goes_a b) ∙ lab_D1 ∙ sym lab_a)
        (λ e f. ap lab (goes_D1 b)
        ∙ ⊎_elim (λ r. ap lab r.3 ∙ lab_k) (λ r. ap lab (sym r.1) ∙ lab_z t1 r.1 r.3) t1.which
        ∙ sym lab_D1)
        (λ e f. ap lab (goes_D2 b)
        ∙ ⊎_elim (λ r. absurd (f (sym r.0))) (λ r. ap lab (sym r.1) ∙ lab_z t2 r.1 r.3) t2.which
        ∙ sym lab_D2)
        (λ i w e f. split i p
        (λ z. ap lab (ap G.next z ∙ goes_p) ∙ lab_k ∙ sym (ap lab z ∙ lab_m p t1.member ∙ t1.loop))
        (λ z. let s = step i w z f in
        ap lab (goes_half i w) ∙ lab_half _ s.1 ∙ ap (c Loop) s.0 ∙ keeps i w ∙ sym (lab_half i w)))
        (λ i w x y e f. ap lab (goes_o b i e (λ z. omega (arith, w.0, mate_in.1, z)) (not_dummy sh x) (not_dummy sh y)
        ∙ up_to_high n (d Next) (λ j. j) i w.0))
      where
        -- the label after a corner
        lab_z : {s : Corner} (t : Seat sh c s) → t.z ≡ s.N → HalfUsed sh c s.N → lab t.z ≡ s.l
        lab_z t e w = lab_m t.z (inl (subst (HalfUsed sh c) (sym e) w)) ∙ t.loop_z

    -- the new loop has a new label
    fresh : (i : ℕ) → W i → G.loop i ≢ l2
    fresh = each b (λ i. G.loop i ≢ l2) (λ e. two (sym (names_k b) ∙ e)) (λ e. two (sym (names_a b) ∙ e))
        (λ e. two (sym (names_D1 b) ∙ e)) (λ e. two (sym (names_D2 b) ∙ e))
        (λ i w e. let v = half_stays b i w in (A.half i (v.0, v.1) v.2).loop_used
        (ap (d Face) (sym (names_o b i (low_1 b w.1) (low_2 b w.1) ∙ up_to_low n (d Loop) _ i w.1) ∙ e)
        ∙ face_2))
        (λ i w x y e. y (sym (names_o b i (not_dummy sh x) (not_dummy sh y)
        ∙ up_to_high n (d Loop) (λ j. j - n) i w.0) ∙ e))

    -- other loops keep theirs
    far : (i : ℕ) → W i → G.loop i ≢ G.loop k → lab i ≡ G.loop i
    far = each b (λ i. G.loop i ≢ G.loop k → lab i ≡ G.loop i)
        (λ e. absurd (e refl)) (λ e. absurd (e (names_a b ∙ sym (names_k b))))
        (λ e. absurd (e (names_D1 b ∙ sym (names_k b))))
        (λ e. absurd (e (names_D2 b ∙ sym (names_k b))))
        (λ i w e.
        let g : G.loop i ≡ d Loop i = names_o b i (low_1 b w.1) (low_2 b w.1) ∙ up_to_low n (d Loop) _ i w.1 in
        lab_half i w
        ∙ sym (g ∙ loop_o i (off_k b i w) (off_a b i w) (λ z. e (g ∙ loop_2 i (w.0, w.1) z ∙ sym (names_k b)))))
        (λ i w x y e. lab_m i (inr (dummy_was b i w)) ∙ up_to_high n (c Loop) (λ j. j - n) i w.0
        ∙ sym (names_o b i (not_dummy sh x) (not_dummy sh y) ∙ up_to_high n (d Loop) (λ j. j - n) i w.0))

    -- ---- the edge comes out

    -- the columns without the edge
    abbrev Q : Halves
    Q = parted (both_in sh d B) k (mate k) t1.y t2.y lab

    -- who is there
    abbrev U : ℕ → Type 0
    U = But k (But (mate k) (Wide sh d B))

    -- their rules
    parted⁺ : Rules⁺ sh U Q
    parted⁺ =
        let mm = mate⁺_mate⁺ sh.edges in
        let mk = mate⁺_low sh.edges k half_in.1 in
        let uk : W k = inr (inr (inl (new_k b))) in
        let pa = mem_a b p t1.member in
        let qk = mem_k b q t2.member in
        let kp : k ≢ p = λ e. mem_k b p t1.member (sym e) in
        let aq : a ≢ q = λ e. mem_a b q t2.member (sym e) in
        let stays = R.loops.perm.f_in in
        parted_rules R mm k a p q mk (ka b) uk p_in q_in goes_p goes_q pa qk kp aq lab
        (kemr_loops R mm k a p q mk (ka b) uk p_in q_in goes_p goes_q pa qk kp aq
        (names_k b ∙ sym (names_a b)) l2 fresh lab
        (λ i u t. till_same {U = W} {lab = lab} stays keep u t ∙ lab_m q t2.member ∙ t2.loop)
        (λ i u t. till_same {U = W} {lab = lab} stays (λ j v e f. keep j v f e) u t ∙ lab_k
        ∙ sym (till_same {U = W} {lab = G.loop} stays (λ j v e f. R.loops.keeps j v) u t ∙ names_k b))
        far)

    -- p goes to the first dummy
    Q_p : Q.next p ≡ D1
    Q_p = upd_off _ _ (mem_a b p t1.member) ∙ upd_off _ _ (mem_k b p t1.member) ∙ upd_off _ _ pq ∙ upd_same _ p _
        ∙ goes_a b

    -- q to the second
    Q_q : Q.next q ≡ D2
    Q_q = upd_off _ _ (mem_a b q t2.member) ∙ upd_off _ _ (mem_k b q t2.member) ∙ upd_same _ q _ ∙ goes_k b

    -- all others where they went
    Q_o : (i : ℕ) → i ≢ k → i ≢ a → i ≢ p → i ≢ q → Q.next i ≡ G.next i
    Q_o i e f g h = upd_off _ _ f ∙ upd_off _ _ e ∙ upd_off _ _ h ∙ upd_off _ _ g

    -- where the first dummy is no corner it goes on
    Q_D1 : D1 ≢ p → Q.next D1 ≡ N1
    Q_D1 e = Q_o D1 (high_1 b half_in.1) (high_1 b mate_in.1) e
        (λ z. ⊎_elim (λ r. D12 b (z ∙ r.0)) (λ r. high_1 b r.2.1 (z ∙ r.0)) t2.which) ∙ goes_D1 b

    -- and where the second is none
    Q_D2 : D2 ≢ q → Q.next D2 ≡ N2
    Q_D2 e = Q_o D2 (high_2 b half_in.1) (high_2 b mate_in.1)
        (λ z. ⊎_elim (λ r. D21 b (z ∙ r.0)) (λ r. high_2 b r.2.1 (z ∙ r.0)) t1.which) e ∙ goes_D2 b

    -- ---- the dummies are passed over

    -- who is left
    abbrev Rest : ℕ → Type 0
    Rest = Left Q.next D1 D2 U

    -- the rules without those that are not alone
    passed⁺ : Rules⁺ sh Rest (passed Q D1 D2)
    passed⁺ = pass_rules parted⁺ (mate⁺_mate⁺ sh.edges) D1 D2 (own_1 b) (own_2 b)
        (inl ((inr (inl refl), high_1 b mate_in.1), high_1 b half_in.1))
        (inl ((inl refl, high_2 b mate_in.1), high_2 b half_in.1)) (D21 b)
        (λ e. split D2 q (λ z. D21 b (sym Q_q ∙ ap Q.next (sym z) ∙ e)) (λ z. low_1 b (N2_low b) (sym (Q_D2 z) ∙ e)))

    -- who is left is a member of c
    to_member : (i : ℕ) → Rest i → Member sh c i
    to_member i w = ⊎_elim
        (λ e. ⊎_elim (λ r. subst (Member sh c) (r.0 ∙ sym e) t2.member)
        (λ r. absurd (low_2 b (N2_low b) (sym (Q_D2 (λ z. high_2 b r.2.1 (z ∙ r.0))) ∙ w.2 e))) t2.which)
        (⊎_elim
        (λ e. ⊎_elim (λ r. subst (Member sh c) (r.0 ∙ sym e) t1.member)
        (λ r. absurd (low_1 b (N1_low b) (sym (Q_D1 (λ z. high_1 b r.2.1 (z ∙ r.0))) ∙ w.1 e))) t1.which)
        (⊎_elim (λ v. inl (half_back b i v w.0.1 w.0.0.1)) (λ v. inr (dummy_was b i v)))) w.0.0.0

    -- a statement about each: about a half-edge, about the two dummies where they stay, about another dummy
    all : (S : ℕ → Type 0) → ((i : ℕ) → HalfUsed sh c i → S i) → (p ≡ D1 → t1.z ≡ D1 → N1 ≡ k → S D1)
        → (q ≡ D2 → t2.z ≡ D2 → N2 ≡ a → S D2) → ((i : ℕ) → Dummy sh c i → i - n ≢ l → i - n ≢ l2 → S i)
        → (i : ℕ) → Member sh c i → S i
    all S sh' s1 s2 sd i (inl w) = sh' i w
    all S sh' s1 s2 sd i (inr w) = split (i - n) l
        (λ e. let z : i ≡ D1 = omega (arith, e, w.0) in let r = dummy_seat t1 (subst (Dummy sh c) z w) in
        subst S (sym z) (s1 r.0 r.1 r.3))
        (λ e. split (i - n) l2
        (λ f. let z : i ≡ D2 = omega (arith, f, w.0) in let r = dummy_seat t2 (subst (Dummy sh c) z w) in
        subst S (sym z) (s2 r.0 r.1 r.3))
        (λ f. sd i w e f))

    -- and each member of c is left
    from_member : (i : ℕ) → Member sh c i → Rest i
    from_member = all Rest
        (λ i w. (
          ((inr (inr (inl (half_stays b i w))), off_a b i w), off_k b i w),
          λ e. absurd (low_1 b w.1 e),
          λ e. absurd (low_2 b w.1 e),
        ))
        (λ e f g. (
          ((inr (inl refl), high_1 b mate_in.1), high_1 b half_in.1),
          λ y. ap Q.next (sym e) ∙ Q_p,
          λ y. absurd (D12 b y),
        ))
        (λ e f g. (
          ((inl refl, high_2 b mate_in.1), high_2 b half_in.1),
          λ y. absurd (D21 b y),
          λ y. ap Q.next (sym e) ∙ Q_q,
        ))
        (λ i w e f. (
          ((inr (inr (inr (dummy_stays b i e f w))), mem_a b i (inr w)), mem_k b i (inr w)),
          λ y. absurd (not_dummy sh e y),
          λ y. absurd (not_dummy sh f y),
        ))

    -- ---- the columns of c are what comes out

    -- start comes out as c has it
    at_start : (i : ℕ) → Member sh c i → H.start i ≡ (passed Q D1 D2).start i
    at_start = all (λ i. H.start i ≡ (passed Q D1 D2).start i)
        (λ i w. up_to_low n (c Start) _ i w.1 ∙ sym (upd_off _ _ (off_a b i w) ∙ upd_off _ _ (off_k b i w)
        ∙ upd_off _ _ (low_2 b w.1) ∙ upd_off _ _ (low_1 b w.1) ∙ up_to_low n (d Start) _ i w.1
        ∙ start_o i (off_k b i w) (off_a b i w)))
        (λ e f g. ap H.start (sym f) ∙ t1.start
        ∙ sym (upd_off _ _ (high_1 b mate_in.1) ∙ upd_off _ _ (high_1 b half_in.1) ∙ upd_off _ _ (D12 b)
        ∙ upd_same _ D1 _
        ∙ ap (extended sh d).start (went_a b ∙ g) ∙ up_to_low n (d Start) _ k half_in.1 ∙ start_k))
        (λ e f g. ap H.start (sym f) ∙ t2.start
        ∙ sym (upd_off _ _ (high_2 b mate_in.1) ∙ upd_off _ _ (high_2 b half_in.1) ∙ upd_same _ D2 _
        ∙ ap (one_in sh d B).start (went_k b ∙ g) ∙ upd_off _ _ (low_1 b mate_in.1)
        ∙ up_to_low n (d Start) _ a mate_in.1
        ∙ start_a))
        (λ i w e f. up_to_high n (c Start) (λ j. c Isolated (j - n)) i w.0
        ∙ sym (upd_off _ _ (mem_a b i (inr w)) ∙ upd_off _ _ (mem_k b i (inr w)) ∙ upd_off _ _ (not_dummy sh f)
        ∙ upd_off _ _ (not_dummy sh e) ∙ up_to_high n (d Start) (λ j. d Isolated (j - n)) i w.0 ∙ isolated_o _ e f))

    -- so does the loop
    at_loop : (i : ℕ) → Member sh c i → H.loop i ≡ (passed Q D1 D2).loop i
    at_loop i w = sym (upd_off _ _ (mem_a b i w) ∙ upd_off _ _ (mem_k b i w) ∙ lab_m i w)

    -- so does next
    at_next : (i : ℕ) → Member sh c i → H.next i ≡ (passed Q D1 D2).next i
    at_next = all (λ i. H.next i ≡ (passed Q D1 D2).next i)
        (λ i w. split i p
        (λ e. let z : D1 ≢ p = λ z. low_1 b w.1 (e ∙ sym z) in
        ap H.next e ∙ t1.next ∙ ⊎_elim (λ r. absurd (z (sym r.0))) (λ r. r.1) t1.which
        ∙ sym (pass_one D1 D2 Q.next (ap Q.next e ∙ Q_p) (λ y. low_2 b (N1_low b) (sym (Q_D1 z) ∙ y)) ∙ Q_D1 z))
        (λ e. split i q
        (λ f. let z : D2 ≢ q = λ z. low_2 b w.1 (f ∙ sym z) in
        ap H.next f ∙ t2.next ∙ ⊎_elim (λ r. absurd (z (sym r.0))) (λ r. r.1) t2.which
        ∙ sym (pass_two D1 D2 Q.next (D21 b) (ap Q.next f ∙ Q_q) (λ y. low_1 b (N2_low b) (sym (Q_D2 z) ∙ y))
        ∙ Q_D2 z))
        (λ f.
        let s = step i w e f in
        let g : Q.next i ≡ d Next i = Q_o i (off_k b i w) (off_a b i w) e f ∙ goes_half i w in
        up_to_low n (c Next) _ i w.1 ∙ sym s.0
        ∙ sym (pass_off D1 D2 Q.next (λ y. low_1 b s.1.1 (sym g ∙ y)) (λ y. low_2 b s.1.1 (sym g ∙ y))
        ∙ g))))
        (λ e f g. let h : Q.next D1 ≡ D1 = ap Q.next (sym e) ∙ Q_p in
        ap H.next (sym e) ∙ t1.next ∙ f ∙ sym (pass_one D1 D2 Q.next h (λ y. D12 b (sym h ∙ y)) ∙ h))
        (λ e f g. let h : Q.next D2 ≡ D2 = ap Q.next (sym e) ∙ Q_q in
        ap H.next (sym e) ∙ t2.next ∙ f ∙ sym (pass_two D1 D2 Q.next (D21 b) h (λ y. D21 b (sym h ∙ y)) ∙ h))
        (λ i w e f.
        let ik = mem_k b i (inr w) in
        let ia = mem_a b i (inr w) in
        let h : Q.next i ≡ i = Q_o i ik ia (far_y t1 w.0 e) (far_y t2 w.0 f)
        ∙ goes_o b i ik ia (not_dummy sh e) (not_dummy sh f) ∙ up_to_high n (d Next) (λ j. j) i w.0 in
        up_to_high n (c Next) (λ j. j) i w.0
        ∙ sym (pass_off D1 D2 Q.next (λ z. not_dummy sh e (sym h ∙ z)) (λ z. not_dummy sh f (sym h ∙ z)) ∙ h))

    -- so the rules hold of c
    by_seats : Rules⁺ sh (Member sh c) (extended sh c)
    by_seats = table_rules sh c passed⁺ to_member from_member (λ i w. at_start i (to_member i w))
        (λ i w. at_loop i (to_member i w)) (λ i w. at_next i (to_member i w)) c_undone

  -- the rules with dummies afterwards
  pub down_rules : Rules⁺ sh (Member sh c) (extended sh c)
  down_rules = by_seats (seat loop_in (λ e. omega (arith, in_1.0, e)) keeps at_1)
      (seat ring_in (λ e. omega (arith, in_2.0, e)) keeps at_2)
