-- mekr: the rules with dummies once the bridge is in. The edge goes in between members of the two loops, dummies
-- included; then the two dummies are passed over. What comes out has the start, loop and next of d; previous undoes
-- next in d itself.
use Rattle.std.specs.Prelude.{◌≡◌, refl, ◌≢◌, ◌⊎◌, List, ℕ, ◌+◌, ◌-◌, ◌*◌, ◌≤◌, ℤ}
use Rattle.std.proofs.Common.{sym, ap, ◌∙◌, subst, inl, inr, ⊎_elim, arith}
use Rattle.laws.specs.Bools.{split}
use Rattle.laws.specs.Update.{upd, upd_same, upd_off, relabel_at, relabel_off}
use Rattle.laws.specs.Moves.{Or}
use Rattle.layout.specs.declared.shape.Shape.{Shape}
use Rattle.layout.specs.Mate.{mate}
use Rattle.layout.specs.Fields.{Isolated, Start, Loop, Next, Columns}
use Rattle.sound_tables.specs.Mates.{mate⁺_low, mate⁺_high, mate⁺_mate⁺}
use Rattle.sound_tables.specs.EdgeIn.{Halves, joined, merged, merged_loops, joined_rules}
use Rattle.sound_tables.specs.Sound.{In, HalfUsed, Sound}
use Rattle.sound_tables.specs.WithDummies.{up_to_low, up_to_high, extended, Dummy, Member, sound_corners}
use Rattle.sound_bridges.specs.PassedOver.{pass, passed, pass_off, pass_one, pass_two, Left, pass_rules, Rules⁺}
use Rattle.sound_bridges.specs.PassedOver.{Undoes, undoes, table_rules}
use Rattle.sound_bridges.specs.CornerMembers.{Seat, seat, not_dummy, seat_P, off_P, far_y, dummy_seat}
use Rattle.sound_bridges.specs.Relation.{Corner, corner_ahead, after_in, Bridge, derived, corner1}
use Rattle.sound_bridges.specs.Relation.{corner2, Bridged, ka, off_k, off_a, mem_k, mem_a, low_1, low_2, D21}
use Rattle.sound_bridges.specs.Relation.{new_k, new_a, half_stays, half_was, dummy_stays, dummy_other, dummy_was}

module _ {sh : Shape} {pt : List ℤ} {c d : Columns} {B : Bridge} (A : Sound sh pt c) (b : Bridged sh c d B) where
  open derived sh B use {n, a, D1, D2}
  open B use {k, l, l2, P1, P2}
  open b.ends use {half_in, mate_in, loop_in, ring_in, two, at_1, at_2, in_1, in_2, keeps}
  open b use {start_k, start_a, start_o, loop_k, loop_a, loop_2, loop_o, next_k, next_a, next_1, next_2}
  open b use {next_o, prev_k, prev_a, prev_1, prev_2, prev_o, isolated_o}

  -- the columns with dummies before
  abbrev H : Halves
  H = extended sh c

  -- their rules
  R : Rules⁺ sh (Member sh c) (extended sh c)
  R = (sound_corners A).rules

  -- the members and the edge
  abbrev U : ℕ → Type 0
  U = Or (mate k) (Or k (Member sh c))

  -- in d previous undoes next
  d_undone : (i : ℕ) → HalfUsed sh d i → Undoes sh d i
  d_undone = half_was b {Q = Undoes sh d} (undoes sh d next_k (after_in at_2 mate_in).1 prev_2)
      (undoes sh d next_a (after_in at_1 half_in).1 prev_1)
      (λ i w. split i P1 (λ e. undoes sh d (ap (d Next) e ∙ next_1) half_in.1 (prev_k ∙ sym e))
      (λ e. split i P2 (λ f. undoes sh d (ap (d Next) f ∙ next_2) mate_in.1 (prev_a ∙ sym f))
      (λ f.
      let perm = A.rules.loops.perm in
      let v = perm.f_in i w in
      undoes sh d (next_o i (off_k b i w) (off_a b i w) e f) v.1 (prev_o (c Next i) (off_k b _ v) (off_a b _ v)
      (corner_ahead at_1 perm w (off_k b _ v) e) (corner_ahead at_2 perm w (off_a b _ v) f) ∙ A.rules.undone i w))))

  module _ (t1 : Seat sh c (corner1 B)) (t2 : Seat sh c (corner2 B)) where
    -- what comes before the corner of the loop
    abbrev p : ℕ
    p = t1.y

    -- what comes before the corner of the ring
    abbrev q : ℕ
    q = t2.y

    -- the columns with the edge in
    abbrev G : Halves
    G = joined (extended sh c) k (mate k) t1.y t2.y (merged (extended sh c) k (mate k) t1.y t2.y)

    -- ---- the edge among the members

    -- the corners differ
    pq : p ≢ q
    pq e = two (sym t1.loop ∙ ap H.loop e ∙ t2.loop)

    -- p goes to k
    goes_p : G.next p ≡ k
    goes_p = upd_off _ _ (mem_a b p t1.member) ∙ upd_off _ _ pq ∙ upd_off _ _ (mem_k b p t1.member)
        ∙ upd_same _ p k

    -- q to the mate
    goes_q : G.next q ≡ a
    goes_q = upd_off _ _ (mem_a b q t2.member) ∙ upd_same _ q a

    -- k to what came after q
    goes_k : G.next k ≡ t2.z
    goes_k = upd_off _ _ (ka b) ∙ upd_off _ _ (λ e. mem_k b q t2.member (sym e)) ∙ upd_same _ k _ ∙ t2.next

    -- the mate to what came after p
    goes_a : G.next a ≡ t1.z
    goes_a = upd_same _ a _ ∙ t1.next

    -- all others where they went
    goes_o : (i : ℕ) → Member sh c i → i ≢ p → i ≢ q → G.next i ≡ H.next i
    goes_o i w g h = upd_off _ _ (mem_a b i w) ∙ upd_off _ _ h ∙ upd_off _ _ (mem_k b i w) ∙ upd_off _ _ g

    -- the rules with the edge in
    joined⁺ : Rules⁺ sh U G
    joined⁺ =
        let mm = mate⁺_mate⁺ sh.edges in
        let fk : ¬ Member sh c k = λ w. mem_k b k w refl in
        let fa : ¬ Member sh c (mate k) = λ w. mem_a b (mate k) w refl in
        let kn : k ≤ 2 * sh.edges + sh.loops = omega (arith, half_in.1) in
        let an : mate k ≤ 2 * sh.edges + sh.loops = omega (arith, mate_in.1) in
        let mk = mate⁺_low sh.edges k half_in.1 in
        let m = t1.member in
        let m2 = t2.member in
        joined_rules R mm k a p q mk (ka b) fk fa half_in.0 kn mate_in.0 an m m2 pq _
        (merged_loops R mm k a p q mk (ka b) fk fa half_in.0 kn mate_in.0 an m m2 pq
        (λ e. two (sym t1.loop ∙ e ∙ t2.loop)))

    -- ---- the dummies

    -- one that is a member is the dummy of its loop
    high_member : {D : ℕ} → 2 * sh.edges + 1 ≤ D → U D → Dummy sh c D
    high_member h = ⊎_elim (λ e. absurd (omega (arith, h, mate_in.1, e)))
        (⊎_elim (λ e. absurd (omega (arith, h, half_in.1, e)))
        (⊎_elim (λ w. absurd (omega (arith, h, w.1))) (λ w. w)))

    -- the dummy of a corner's loop is there or not
    there : {s : Corner} → In sh.loops s.l → Seat sh c s → U (n + s.l) ⊎ (¬ U (n + s.l))
    there i t = ⊎_elim (λ r. inl (inr (inr (subst (Member sh c) r.0 t.member))))
        (λ r. inr (λ w. (high_member (omega (arith, i.0)) w).2 (ap (c Isolated) (omega arith) ∙ r.4))) t.which

    -- the second does not go to the first
    goes_D2 : G.next D2 ≢ D1
    goes_D2 e = split D2 q
        (λ z. low_1 b mate_in.1 (sym goes_q ∙ ap G.next (sym z) ∙ e))
        (λ z. D21 b (sym (upd_off _ _ (λ y. low_2 b mate_in.1 (sym y)) ∙ upd_off _ _ z
        ∙ upd_off _ _ (λ y. low_2 b half_in.1 (sym y))
        ∙ upd_off _ _ (λ y. ⊎_elim (λ r. D21 b (y ∙ r.0)) (λ r. low_2 b r.2.1 (sym (y ∙ r.0))) t1.which)
        ∙ up_to_high n (c Next) (λ j. j) D2 (omega (arith, ring_in.0))) ∙ e))

    -- who is left
    abbrev Rest : ℕ → Type 0
    Rest = Left G.next D1 D2 U

    -- the rules without the dummies
    passed⁺ : Rules⁺ sh Rest (passed G D1 D2)
    passed⁺ = pass_rules joined⁺ (mate⁺_mate⁺ sh.edges) D1 D2 (mate⁺_high sh.edges D1 (omega (arith, loop_in.0)))
        (mate⁺_high sh.edges D2 (omega (arith, ring_in.0))) (there loop_in t1) (there ring_in t2) (D21 b) goes_D2

    -- who is left is a member of d
    to_member : (i : ℕ) → Rest i → Member sh d i
    to_member i w = ⊎_elim (λ e. subst (Member sh d) (sym e) (inl (new_a b)))
        (⊎_elim (λ e. subst (Member sh d) (sym e) (inl (new_k b)))
        (⊎_elim (λ x. inl (half_stays b i x)) (λ x. inr (dummy_stays b i
        (λ e. let z : i ≡ D1 = omega (arith, e, x.0) in
        low_1 b half_in.1 (sym goes_p ∙ ap G.next (dummy_seat t1 (subst (Dummy sh c) z x)).0 ∙ w.1 z))
        (λ e. let z : i ≡ D2 = omega (arith, e, x.0) in
        low_2 b mate_in.1 (sym goes_q ∙ ap G.next (dummy_seat t2 (subst (Dummy sh c) z x)).0 ∙ w.2 z)) x))))
        w.0

    -- and back
    from_member : (i : ℕ) → Member sh d i → Rest i
    from_member i (inl w) = (
      half_was b {Q = U} (inr (inl refl)) (inl refl) (λ j x. inr (inr (inl x))) i w,
      λ e. absurd (low_1 b w.1 e),
      λ e. absurd (low_2 b w.1 e),
    )
    from_member i (inr w) =
        let e = dummy_other b i w in
        (inr (inr (inr (dummy_was b i w))), λ z. absurd (not_dummy sh e.0 z), λ z. absurd (not_dummy sh e.1 z))

    -- a statement about each: about k, its mate, a half-edge of c, a dummy of another loop
    each : (Q : ℕ → Type 0) → Q k → Q (mate k) → ((i : ℕ) → HalfUsed sh c i → Q i)
        → ((i : ℕ) → Dummy sh c i → i - n ≢ l → i - n ≢ l2 → Q i) → (i : ℕ) → Rest i → Q i
    each Q qk qa qh qd i w = ⊎_elim (λ x. half_was b {Q = Q} qk qa qh i x)
        (λ x. let e = dummy_other b i x in qd i (dummy_was b i x) e.0 e.1) (to_member i w)

    -- ---- the columns of d are what comes out

    -- words of c away from the edge
    away : (f : ℕ → ℕ) (x y i : ℕ) → Member sh c i → upd (upd f k x) a y i ≡ f i
    away f x y i w = upd_off _ y (mem_a b i w) ∙ upd_off f x (mem_k b i w)

    -- start comes out as d has it
    at_start : (i : ℕ) → Rest i → (extended sh d).start i ≡ (passed G D1 D2).start i
    at_start = each (λ i. (extended sh d).start i ≡ (passed G D1 D2).start i)
        (up_to_low n (d Start) _ k half_in.1 ∙ start_k
        ∙ sym (upd_off _ _ (ka b) ∙ upd_same _ k _ ∙ ap H.start t1.next ∙ t1.start))
        (up_to_low n (d Start) _ a mate_in.1 ∙ start_a ∙ sym (upd_same _ a _ ∙ ap H.start t2.next ∙ t2.start))
        (λ i w. up_to_low n (d Start) _ i w.1 ∙ start_o i (off_k b i w) (off_a b i w)
        ∙ sym (away H.start _ _ i (inl w) ∙ up_to_low n (c Start) _ i w.1))
        (λ i w e f. up_to_high n (d Start) (λ j. d Isolated (j - n)) i w.0 ∙ isolated_o _ e f
        ∙ sym (away H.start _ _ i (inr w) ∙ up_to_high n (c Start) (λ j. c Isolated (j - n)) i w.0))

    -- so does the loop
    at_loop : (i : ℕ) → Rest i → (extended sh d).loop i ≡ (passed G D1 D2).loop i
    at_loop = each (λ i. (extended sh d).loop i ≡ (passed G D1 D2).loop i)
        (up_to_low n (d Loop) _ k half_in.1 ∙ loop_k ∙ sym (upd_off _ _ (ka b) ∙ upd_same _ k _ ∙ t1.loop))
        (up_to_low n (d Loop) _ a mate_in.1 ∙ loop_a ∙ sym (upd_same _ a _ ∙ t1.loop))
        (λ i w.
        let h : H.loop i ≡ c Loop i = up_to_low n (c Loop) _ i w.1 in
        up_to_low n (d Loop) _ i w.1 ∙ split (c Loop i) l2
        (λ e. loop_2 i (w.0, w.1) e ∙ sym (away _ _ _ i (inl w) ∙ relabel_at H.loop _ _ (h ∙ e ∙ sym t2.loop)
        ∙ t1.loop))
        (λ e. loop_o i (off_k b i w) (off_a b i w) e
        ∙ sym (away _ _ _ i (inl w) ∙ relabel_off H.loop _ _ (λ z. e (sym h ∙ z ∙ t2.loop)) ∙ h)))
        (λ i w e f.
        let h : H.loop i ≡ i - n = up_to_high n (c Loop) (λ j. j - n) i w.0 in
        up_to_high n (d Loop) (λ j. j - n) i w.0
        ∙ sym (away _ _ _ i (inr w) ∙ relabel_off H.loop _ _ (λ z. f (sym h ∙ z ∙ t2.loop)) ∙ h))

    -- one that goes to a half-edge goes there still
    pass_low : (i : ℕ) {j : ℕ} → G.next i ≡ j → j ≤ n → pass D1 D2 G.next i ≡ j
    pass_low i e h = pass_off D1 D2 G.next (λ z. low_1 b h (sym e ∙ z)) (λ z. low_2 b h (sym e ∙ z)) ∙ e

    -- so does next
    at_next : (i : ℕ) → Rest i → (extended sh d).next i ≡ (passed G D1 D2).next i
    at_next = each (λ i. (extended sh d).next i ≡ (passed G D1 D2).next i)
        (up_to_low n (d Next) _ k half_in.1 ∙ next_k ∙ sym (⊎_elim
        (λ r. let e : G.next D2 ≡ a = ap G.next (sym r.0) ∙ goes_q in
        pass_two D1 D2 G.next (D21 b) (goes_k ∙ r.1) (λ z. low_1 b mate_in.1 (sym e ∙ z)) ∙ e ∙ sym r.3)
        (λ r. pass_low k (goes_k ∙ r.1) r.3.1) t2.which))
        (up_to_low n (d Next) _ a mate_in.1 ∙ next_a ∙ sym (⊎_elim
        (λ r. let e : G.next D1 ≡ k = ap G.next (sym r.0) ∙ goes_p in
        pass_one D1 D2 G.next (goes_a ∙ r.1) (λ z. low_2 b half_in.1 (sym e ∙ z)) ∙ e ∙ sym r.3)
        (λ r. pass_low a (goes_a ∙ r.1) r.3.1) t1.which))
        (λ i w. up_to_low n (d Next) _ i w.1 ∙ split i p
        (λ e. ap (d Next) (seat_P t1 loop_in w e) ∙ next_1 ∙ sym (pass_low i (ap G.next e ∙ goes_p) half_in.1))
        (λ e. split i q
        (λ f. ap (d Next) (seat_P t2 ring_in w f) ∙ next_2 ∙ sym (pass_low i (ap G.next f ∙ goes_q) mate_in.1))
        (λ f. next_o i (off_k b i w) (off_a b i w) (off_P t1 (off_a b i w) e) (off_P t2 (off_k b i w) f)
        ∙ sym (pass_low i (goes_o i (inl w) e f ∙ up_to_low n (c Next) _ i w.1)
        (A.rules.loops.perm.f_in i w).1))))
        (λ i w e f.
        let h : G.next i ≡ i = goes_o i (inr w) (far_y t1 w.0 e) (far_y t2 w.0 f)
        ∙ up_to_high n (c Next) (λ j. j) i w.0 in
        up_to_high n (d Next) (λ j. j) i w.0
        ∙ sym (pass_off D1 D2 G.next (λ z. not_dummy sh e (sym h ∙ z)) (λ z. not_dummy sh f (sym h ∙ z)) ∙ h))

    -- so the rules hold of d
    by_seats : Rules⁺ sh (Member sh d) (extended sh d)
    by_seats = table_rules sh d passed⁺ to_member from_member at_start at_loop at_next d_undone

  -- the rules with dummies afterwards
  pub up_rules : Rules⁺ sh (Member sh d) (extended sh d)
  up_rules = by_seats (seat loop_in (λ e. omega (arith, in_1.0, e)) keeps at_1)
      (seat ring_in (λ e. omega (arith, in_2.0, e)) keeps at_2)
