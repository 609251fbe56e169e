-- Rules 4 and 5 once the edge is in: the spur's loop is parted in two, and both ends have one half-edge more.
use Rattle.std.specs.Prelude.{◌≡◌, refl, ◌≢◌, ◌⊎◌, List, ℕ, ◌*◌, ℤ}
use Rattle.std.proofs.Common.{sym, ap, ◌∙◌, subst, inl, inr, ⊎_elim}
use Rattle.laws.specs.Bools.{split, eqb_same}
use Rattle.laws.specs.Update.{upd, upd_same, upd_at, upd_off}
use Rattle.laws.specs.Permutations.{iter, inj}
use Rattle.laws.specs.Cycles.{Cycles, agree, forwards}
use Rattle.laws.specs.Exchange.{Till, stop, not_both, till_fx}
use Rattle.laws.specs.Moves.{Or, xchg, halve_cycles}
use Rattle.layout.specs.declared.shape.Shape.{Shape}
use Rattle.layout.specs.Mate.{mate}
use Rattle.layout.specs.MateLaws.{mate_mate}
use Rattle.layout.specs.Fields.{Start, Loop, Next, Prev, Columns}
use Rattle.sound_tables.specs.EdgeIn.{Rules}
use Rattle.sound_tables.specs.Sound.{halves, HalfUsed, Sound}
use Rattle.sound_tables.specs.Names.{lone_alone}
use Rattle.sound_cuts.specs.Seats.{seat_in}
use Rattle.sound_cuts.specs.Relation.{Spot, seat, spur, rest_of, a_b, off_a, off_b, first_corner, l_m, ba, Cut}
use Rattle.sound_cuts.specs.Relation.{Marked, With, or_used, used_or, loop_stays, loop_goes}
use Rattle.sound_cuts.specs.Spur.{vertex_seat, vertex_place, a_new, b_new, Q_in, Q_a, spur_loop, loop_c}
use Rattle.sound_cuts.specs.Spur.{loop_Q, spur_cycles, next_spur}
use Rattle.sound_cuts.specs.Spur.{next_mate, start_with}
use Rattle.sound_cuts.specs.MefSolids.{unnamed}

module _ {sh : Shape} {p : List ℤ} {c d : Columns} {q : Spot} (k : Cut sh c d q) (w : Marked sh c d q)
    (s : Sound sh p c) where
  -- as many half-edges
  abbrev n : ℕ
  n = 2 * sh.edges

  -- Q is not a
  a_Q : q.a ≢ q.Q
  a_Q e = Q_a k.site (sym e)

  -- ---- loops

  -- the spur's half a is of l
  L_a : spur_loop c q q.a ≡ q.l
  L_a = upd_off _ _ (a_b k.site) ∙ upd_same _ q.a q.l

  -- Q is in use
  Q_with : With sh c q q.Q
  Q_with = ⊎_elim (λ e. inl e) (λ u. inr (inr u)) (Q_in k.site)

  -- from b on Q is met before a
  run_b : Till (spur c q) q.a q.Q q.b
  run_b =
      let y = spur_cycles k.site s in
      let e : spur c q q.a ≡ q.b = upd_same _ q.a q.b in
      let m = (forwards y.perm (y.one q.b q.Q (inl refl) Q_with
      (upd_same _ q.b q.l ∙ sym (loop_Q k.site)))).0 in
      subst (Till (spur c q) q.a q.Q) e
      (till_fx (spur c q) q.a q.Q a_Q m.0 (subst (λ i. iter (spur c q) m.0 i ≡ q.Q) (sym e) m.1))

  -- the loop of another is as it was
  far : (i : ℕ) → HalfUsed sh c i → c Loop i ≢ q.l → d Loop i ≡ c Loop i
  far i x e = loop_stays k i x (λ z. e (loop_goes k i x z))

  -- the spur's loop is parted
  parted : Cycles n (With sh c q) (xchg (spur c q) q.a q.Q) (d Loop)
  parted = halve_cycles (spur_cycles k.site s) q.a q.Q q.m (d Loop) (inr (inl refl)) Q_with a_Q
      (L_a ∙ sym (loop_Q k.site))
      (λ i. ⊎_elim (λ e z. l_m k.site (sym (upd_at _ _ e) ∙ z))
      (⊎_elim (λ e z. l_m k.site (sym L_a ∙ ap (spur_loop c q) (sym e) ∙ z))
      (λ x z. unnamed k s i x (sym (loop_c k.site i x) ∙ z))))
      (λ i. ⊎_elim (λ e t. ap (d Loop) e ∙ k.loop_b)
      (⊎_elim (λ e t. absurd (not_both (spur c q) q.a q.Q a_Q (subst (Till (spur c q) q.a q.Q) e t)
      (stop refl))) (w.run i)))
      (λ i. ⊎_elim (λ e t. absurd (not_both (spur c q) q.a q.Q a_Q run_b
      (subst (Till (spur c q) q.Q q.a) e t)))
      (⊎_elim (λ e t. ap (d Loop) e ∙ k.loop_a ∙ sym (ap (spur_loop c q) e ∙ L_a))
      (λ x t. w.rest i x t ∙ sym (loop_c k.site i x))))
      (λ i. ⊎_elim (λ e z. absurd (z (upd_at _ _ e ∙ sym L_a))) (⊎_elim (λ e z. absurd (z (ap (spur_loop c q) e)))
      (λ x z. far i x (λ y. z (loop_c k.site i x ∙ y ∙ sym L_a)) ∙ sym (loop_c k.site i x))))

  -- that is d
  loops : Cycles n (HalfUsed sh d) (d Next) (d Loop)
  loops = agree parted (or_used k) (used_or k) (next_spur k) (λ i x. refl)

  -- ---- vertices

  -- the corner's vertex is u: that of the seat's mate
  start_seat : HalfUsed sh c (seat q) → c Next (seat q) ≡ rest_of q → c Start (rest_of q) ≡ q.u
      → c Start (mate (seat q)) ≡ q.u
  start_seat u e z =
      sym (s.rules.verts.keeps (mate (seat q)) (s.rules.mate_in (seat q) u))
      ∙ ap (λ i. c Start (c Next i)) (mate_mate (seat q)) ∙ ap (c Start) e ∙ z

  -- both halves go in
  verts : Cycles n (HalfUsed sh d) (λ i. d Next (mate i)) (d Start)
  verts = agree
      (seat_in
      (seat_in s.rules.verts q.a (vertex_seat q) q.u (a_new k.site) k.site.a_in at_a)
      q.b (mate q.Q) q.v (b_new k.site) k.site.b_in (inl at_b))
      (or_used k) (used_or k) (next_mate k s.rules.mate_in) (λ i x. start_with k i)
    where
      -- a after the mate of its seat, or alone
      at_a : (HalfUsed sh c (vertex_seat q) × (c Start (vertex_seat q) ≡ q.u))
          ⊎ ((vertex_seat q ≡ q.a) × ((i : ℕ) → HalfUsed sh c i → c Start i ≢ q.u))
      at_a = ⊎_elim
          (λ o. ⊎_elim
          (λ y. inl (
            subst (HalfUsed sh c) (sym y.1) (s.rules.mate_in (seat q) y.0),
            ap (c Start) y.1
                ∙ start_seat y.0 o.1.next o.1.start,
          ))
          (λ y. absurd (off_a k.site (seat q) o.1.before y.0)) (vertex_place k.site))
          (λ o. ⊎_elim
          (λ y. absurd (off_a k.site (seat q) y.0 (rw (eqb_same o.0.after, eqb_same o.1.after))))
          (λ y. inr (
            y.1,
            λ i x z. (lone_alone s q.l k.site.l_in (λ e. k.site.u_some (sym o.2 ∙ e))).1 i (x.0, x.1)
                (z ∙ sym o.2),
          ))
          (vertex_place k.site))
          (first_corner k.site)

      -- b after the mate of Q, which is a where b is alone
      at_b : Or q.a (HalfUsed sh c) (mate q.Q) × (upd (c Start) q.a q.u (mate q.Q) ≡ q.v)
      at_b = ⊎_elim
          (λ o. let e = ap mate o.before ∙ ba k.site in (inl e, upd_at _ _ e ∙ o.ends))
          (λ o. let u = s.rules.mate_in q.Q o.before in (
            inr u,
            upd_off _ _ (off_a k.site _ u)
                ∙ sym (s.rules.verts.keeps (mate q.Q) u) ∙ ap (λ i. c Start (c Next i)) (mate_mate q.Q)
                ∙ ap (c Start) o.next ∙ o.start,
          ))
          k.site.near.at_b

  -- ---- all

  -- previous undoes next
  undone : (i : ℕ) → HalfUsed sh d i → d Prev (d Next i) ≡ i
  undone i x = split i q.P (λ e. ap (λ j. d Prev (d Next j)) e ∙ ap (d Prev) k.next_P ∙ k.prev_a ∙ sym e)
      (λ e. split i q.Q (λ g. ap (λ j. d Prev (d Next j)) g ∙ ap (d Prev) k.next_Q ∙ k.prev_b ∙ sym g)
      (λ g. ⊎_elim
      (λ z. ap (λ j. d Prev (d Next j)) z ∙ ap (d Prev) k.next_b ∙ k.prev_M ∙ sym z)
      (⊎_elim
      (λ z. ap (λ j. d Prev (d Next j)) z ∙ ap (d Prev) k.next_a ∙ k.prev_N ∙ sym z)
      (λ y.
      let o = k.site in
      let f = s.rules.loops.perm.f_in i y in
      let z = k.next_else i (off_a o i y) (off_b o i y) e g in
      let ua : HalfUsed sh d q.a = or_used k q.a (inr (inl refl)) in
      let ub : HalfUsed sh d q.b = or_used k q.b (inl refl) in
      ap (d Prev) z ∙ k.prev_else (c Next i) (off_a o _ f) (off_b o _ f)
      (λ v. off_a o i y (inj loops.perm x ua (z ∙ v ∙ sym k.next_a)))
      (λ v. off_b o i y (inj loops.perm x ub (z ∙ v ∙ sym k.next_b))) ∙ s.rules.undone i y)) (used_or k i x)))

  -- the rules with the edge
  pub cut_rules : Rules (2 * sh.edges) mate (HalfUsed sh d) (halves d)
  cut_rules = record {
    mate_in = λ i x. or_used k (mate i) (⊎_elim (λ e. inr (inl (ap mate e ∙ ba k.site)))
        (⊎_elim (λ e. inl (ap mate e ∙ k.site.ab)) (λ y. inr (inr (s.rules.mate_in i y)))) (used_or k i x));
    loops = loops;
    verts = verts;
    undone = undone;
  }
