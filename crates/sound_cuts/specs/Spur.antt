-- The edge as a spur in the loop of c, a in its seat and b after it: an exchange of a and Q then parts the loop in
-- two, as in d. Whether a half is alone makes no difference here.
use Rattle.std.specs.Prelude.{◌≡◌, refl, ◌≢◌, ◌⊎◌, List, ℕ, ◌*◌, eqb, ℤ}
use Rattle.std.proofs.Common.{sym, ap, ◌∙◌, inl, inr, ⊎_elim}
use Rattle.laws.specs.Bools.{pick, pick_ind, split, eqb_same, eqb_other}
use Rattle.laws.specs.Update.{upd, upd_same, upd_at, upd_off}
use Rattle.laws.specs.Cycles.{Cycles}
use Rattle.laws.specs.Moves.{Or, ins, xchg}
use Rattle.layout.specs.declared.shape.Shape.{Shape}
use Rattle.layout.specs.Mate.{mate}
use Rattle.layout.specs.MateLaws.{mate_mate}
use Rattle.layout.specs.Fields.{Start, Loop, Next, Columns}
use Rattle.sound_tables.specs.Sound.{HalfUsed, Sound}
use Rattle.sound_tables.specs.Names.{lone_unnamed}
use Rattle.sound_cuts.specs.Relation.{Spot, AtA, AtB, seat, spur, rest_of, Site, a_b, off_a, off_b, first_corner}
use Rattle.sound_cuts.specs.Relation.{ba, Cut, With, a_seated, b_seated}
use Rattle.sound_cuts.specs.Seats.{seat_in, turned}

-- the loops with the spur
abbrev pub spur_loop : Columns → Spot → ℕ → ℕ
spur_loop c q = upd (upd (c Loop) q.a q.l) q.b q.l

-- the seat among the half-edges of a vertex
abbrev pub vertex_seat : Spot → ℕ
vertex_seat q = pick (eqb (seat q) q.a) q.a (mate (seat q))

module _ {sh : Shape} {c : Columns} {q : Spot} (s : Site sh c q) where
  -- the seat is in use, or is a itself
  pub seat_place : HalfUsed sh c (seat q) ⊎ (seat q ≡ q.a)
  seat_place = ⊎_elim (λ o. inl o.1.before) (λ o. inr (rw (eqb_same o.0.after, eqb_same o.1.after)))
      (first_corner s)

  -- the other seat goes with it
  pub vertex_place : (HalfUsed sh c (seat q) × (vertex_seat q ≡ mate (seat q)))
      ⊎ ((seat q ≡ q.a) × (vertex_seat q ≡ q.a))
  vertex_place = ⊎_elim (λ u. inl (u, ap (λ t. pick t q.a (mate (seat q))) (eqb_other (off_a s (seat q) u))))
      (λ e. inr (e, ap (λ t. pick t q.a (mate (seat q))) (eqb_same e))) seat_place

  -- neither half is of c
  pub a_new : ¬ HalfUsed sh c q.a
  a_new u = off_a s q.a u refl

  -- nor b, also once a is in
  pub b_new : ¬ Or q.a (HalfUsed sh c) q.b
  b_new = ⊎_elim (λ e. a_b s (sym e)) (λ u. off_b s q.b u refl)

  -- Q is b or of c
  pub Q_in : (q.Q ≡ q.b) ⊎ HalfUsed sh c q.Q
  Q_in = ⊎_elim (λ o. inl o.before) (λ o. inr o.before) s.near.at_b

  -- not a
  pub Q_a : q.Q ≢ q.a
  Q_a e = ⊎_elim (λ z. a_b s (sym e ∙ z)) (λ u. off_a s q.Q u e) Q_in

  -- the spur ends at what followed the seat
  spur_end : HalfUsed sh c (seat q) → c Next (seat q) ≡ rest_of q → ins (c Next) q.a (seat q) q.a ≡ rest_of q
  spur_end u e = upd_off _ _ (λ z. off_a s (seat q) u (sym z)) ∙ upd_same _ q.a _ ∙ e

  -- where b is not alone that is M
  spur_b : q.Q ≢ q.b → ins (c Next) q.a (seat q) q.a ≡ q.M
  spur_b h = ⊎_elim (λ o. absurd (h o.before))
      (λ o. ⊎_elim (λ r. spur_end r.1.before r.1.next ∙ rw (b_seated s o.after))
      (λ r. absurd (h r.1.before)) (first_corner s))
      s.near.at_b

  -- in the spur Q goes to N
  spur_Q : spur c q q.Q ≡ q.N
  spur_Q = upd_off _ _ Q_a ∙ go s.near.at_a s.near.at_b
    where
      -- in each case
      go : AtA sh c q → AtB sh c q
          → upd (ins (c Next) q.a (seat q)) q.b (ins (c Next) q.a (seat q) q.a) q.Q ≡ q.N
      go (inr o) (inr r) =
          let A = a_seated s o.after in
          upd_off _ _ (off_b s q.Q r.before) ∙ upd_off _ _ (λ z. s.near.apart (sym (z ∙ rw A)))
          ∙ upd_off _ _ Q_a ∙ r.next ∙ rw A
      go (inr o) (inl r) =
          let A = a_seated s o.after in
          upd_at _ _ r.before ∙ rw A (upd_off _ _ (λ z. off_a s q.P o.before (sym z)) ∙ upd_same _ q.a _
          ∙ o.next ∙ rw (eqb_same r.after))
      go (inl o) (inr r) =
          upd_off _ _ (off_b s q.Q r.before)
          ∙ upd_at _ _ (sym (rw (eqb_same o.after, b_seated s r.after))) ∙ sym o.after
      go (inl o) (inl r) =
          upd_at _ _ r.before ∙ upd_at _ _ (sym (rw (eqb_same o.after, eqb_same r.after))) ∙ sym o.after

  -- P is the seat, or a
  seat_P : (i : ℕ) → i ≢ seat q → i ≢ q.a → i ≢ q.P
  seat_P i e g z = ⊎_elim (λ o. g (z ∙ o.before)) (λ o. e (z ∙ rw (a_seated s o.after))) s.near.at_a

  -- and the seat is P, or Q, or a
  P_seat : (i : ℕ) → i ≡ seat q → i ≢ q.Q → i ≢ q.a → i ≡ q.P
  P_seat i = pick_ind (λ y. i ≡ y → i ≢ q.Q → i ≢ q.a → i ≡ q.P) (eqb q.N q.a) _ q.P
      (pick_ind (λ y. i ≡ y → i ≢ q.Q → i ≢ q.a → i ≡ q.P) (eqb q.M q.b) q.a q.Q (λ e g h. absurd (h e))
      (λ e g h. absurd (g e)))
      (λ e g h. e)

  -- ---- its loops

  -- of one of c the loop is as it was
  pub loop_c : (i : ℕ) → HalfUsed sh c i → spur_loop c q i ≡ c Loop i
  loop_c i x = upd_off _ _ (off_b s i x) ∙ upd_off _ _ (off_a s i x)

  -- that of Q is l
  pub loop_Q : spur_loop c q q.Q ≡ q.l
  loop_Q = ⊎_elim (λ o. upd_at _ _ o.before) (λ o. loop_c q.Q o.before ∙ o.loop) s.near.at_b

  module _ {p : List ℤ} (r : Sound sh p c) where
    -- the spur is of loop l
    pub spur_cycles : Cycles (2 * sh.edges) (With sh c q) (spur c q) (spur_loop c q)
    spur_cycles = seat_in (seat_in r.rules.loops q.a (seat q) q.l a_new s.a_in (⊎_elim
        (λ o. inl (o.1.before, o.1.loop))
        (λ o. inr (
          rw (eqb_same o.0.after, eqb_same o.1.after),
          λ i x. lone_unnamed r q.l s.l_in (λ z. s.u_some (sym o.2 ∙ z)) i (x.0, x.1),
        ))
        (first_corner s)))
        q.b q.a q.l b_new s.b_in (inl (inl refl, upd_same _ q.a _))

-- ---- next in d

module _ {sh : Shape} {c d : Columns} {q : Spot} (k : Cut sh c d q) where
  -- the spur with a and Q exchanged
  pub next_spur : (i : ℕ) → With sh c q i → d Next i ≡ xchg (spur c q) q.a q.Q i
  next_spur i x = split i q.Q
      (λ e. ap (d Next) e ∙ k.next_Q ∙ sym (upd_at _ _ e ∙ upd_same _ q.a q.b))
      (λ e. ⊎_elim
      (λ z.
      let f : i ≢ q.a = λ y. a_b k.site (sym y ∙ z) in
      ap (d Next) z ∙ k.next_b ∙ sym (upd_off _ _ e ∙ upd_off _ _ f ∙ upd_off _ _ f ∙ upd_at _ _ z
      ∙ spur_b k.site (λ y. e (z ∙ sym y))))
      (⊎_elim
      (λ z. ap (d Next) z ∙ k.next_a ∙ sym (upd_off _ _ e ∙ upd_at _ _ z ∙ spur_Q k.site))
      (λ u.
      let f = off_a k.site i u in
      let g = off_b k.site i u in
      split i (seat q)
      (λ z. ap (d Next) (P_seat k.site i z e f) ∙ k.next_P
      ∙ sym (upd_off _ _ e ∙ upd_off _ _ f ∙ upd_off _ _ f ∙ upd_off _ _ g ∙ upd_at _ _ z))
      (λ z. k.next_else i f g (seat_P k.site i z f) e
      ∙ sym (upd_off _ _ e ∙ upd_off _ _ f ∙ upd_off _ _ f ∙ upd_off _ _ g ∙ upd_off _ _ z ∙ upd_off _ _ f)))) x)

  -- around the vertices: a in its seat, b after the mate of Q
  pub next_mate : ((i : ℕ) → HalfUsed sh c i → HalfUsed sh c (mate i)) → (i : ℕ) → With sh c q i
      → d Next (mate i) ≡ ins (ins (λ j. c Next (mate j)) q.a (vertex_seat q)) q.b (mate q.Q) i
  next_mate mi i x =
      next_spur (mate i) y
      ∙ sym (turned (HalfUsed sh c) (c Next) mate mate_mate k.site.ab (a_b k.site) (a_new k.site)
      (λ u. off_b k.site q.b u refl) mi (vertex_place k.site) (Q_a k.site) (Q_in k.site) (mate i) y)
      ∙ ap (ins (ins (λ j. c Next (mate j)) q.a (vertex_seat q)) q.b (mate q.Q)) (mate_mate i)
    where
      -- the mate is in use too
      y : With sh c q (mate i)
      y = ⊎_elim (λ e. inr (inl (ap mate e ∙ ba k.site)))
          (⊎_elim (λ e. inl (ap mate e ∙ k.site.ab)) (λ u. inr (inr (mi i u)))) x

  -- start in d
  pub start_with : (i : ℕ) → d Start i ≡ upd (upd (c Start) q.a q.u) q.b q.v i
  start_with i = split i q.b
      (λ e. ap (d Start) e ∙ k.start_b ∙ sym (upd_at _ _ e))
      (λ e. split i q.a
      (λ g. ap (d Start) g ∙ k.start_a ∙ sym (upd_off _ _ e ∙ upd_at _ _ g))
      (λ g. k.start_else i g e ∙ sym (upd_off _ _ e ∙ upd_off _ _ g)))
